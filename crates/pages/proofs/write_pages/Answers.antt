-- `pages::write_pages` meets its contract, from the laws of pages (Fitting, Handed).
use mathlib.Core.Path.{◌≡◌, refl}
use lib.ListN.{length}
use Rattle.std.proofs.Common.{arith}
use borrow.Author.Tests.{not-false}
use Rattle.pages.proofs.Handed.{handed_onward}
use Rattle.pages.proofs.Fitting.{fitting_none, fitting_all, fitting_cut, fitting_more}
use Rattle.pages.proofs.write_pages.Goals as goal

pub pages-init : goal.pages-init
pages-init g c = (fitting_none _ _ _, refl)

pub returns-then-filled-eq0 : goal.returns-then-filled-eq0
returns-then-filled-eq0 g c = fitting_all _ _ _ c.pages.invariant.0 c.fill_page-filled.ensures (omega (arith, c.pages.invariant.1)) c.if-filled-eq0.true

pub returns-then-not-handed : goal.returns-then-not-handed
returns-then-not-handed g c = fitting_cut _ _ _ c.pages.invariant.0 c.fill_page-filled.ensures (omega (arith, c.pages.invariant.1)) c.if-filled-eq0.false

pub returns-in-None : goal.returns-in-None
returns-in-None g c = fitting_cut _ _ _ c.pages.invariant.0 c.fill_page-filled.ensures (omega (arith, c.pages.invariant.1)) c.if-filled-eq0.false

pub pages-smaller : goal.pages-smaller
pages-smaller g c =
    omega (arith, handed_onward _ _ c.pages.invariant.0.handed c.fill_page-filled.ensures c.if-filled-eq0.false, c.fill_page-filled.ensures.holds.inside c.pages.invariant.0.handed.inside)

pub pages-preserved : goal.pages-preserved
pages-preserved g c =
    let same : length c.fill_page-filled.new.out ≡ length c.args.page.now = omega (arith, c.fill_page-filled.auto.out, c.pages.invariant.1) in
    (fitting_more _ _ _ c.pages.invariant.0 c.fill_page-filled.ensures (omega (arith, c.pages.invariant.1)) c.write_front-handed.ensures.hands (not-false _ c.if-not-handed.false) (omega (arith, c.in-Some.ensures)), same)
