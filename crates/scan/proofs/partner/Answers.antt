-- `scan::partner` meets its contract: up to the loop's place no more brackets are closed than opened.
use Prim.Native.Nat.{suc, ◌+◌, ◌≤◌, ◌-◌}
use mathlib.Core.Path.{◌≡◌, sym, ap, subst}
use native.Mathlib.Omega.{arith}
use lib.ListN.{drop, get_or, take}
use Rattle.sheet.specs.Refusal.{occurrences}
use Rattle.scan.specs.Place.{between}
use Rattle.scan.proofs.Tokens.{between_none}
use Rattle.scan.proofs.Partners.{NeverMore, never-none, never-next, occurrences-next, partner_found, partner_missing, one_at_most}
use Rattle.scan.proofs.partner.Goals as goal

pub loop-i-init : goal.loop-i-init
loop-i-init c =
    let text = c.args.text.now in
    let at = c.args.at in
    (omega arith, (λ h. omega arith), omega arith, omega arith, sym (ap (occurrences 40) (between_none text at)), sym (ap (occurrences 41) (between_none text at)), never-none (drop at text) (at - at) (omega arith))

pub overflow_add-opened : goal.overflow_add-opened
overflow_add-opened c = let o = one_at_most (get_or c.args.text.now c.loop-i.i 0) 40 c.count_of-opened.ensures in omega arith

pub overflow_add-closed : goal.overflow_add-closed
overflow_add-closed c = let d = one_at_most (get_or c.args.text.now c.loop-i.i 0) 41 c.count_of-closed.ensures in omega arith

pub returns-then-opened-closed : goal.returns-then-opened-closed
returns-then-opened-closed c =
    let text = c.args.text.now in
    let at = c.args.at in
    let i = c.loop-i.i in
    let o = occurrences-next 40 text at i c.loop-i.invariant.0 c.loop-i-test.true in
    let d = occurrences-next 41 text at i c.loop-i.invariant.0 c.loop-i-test.true in
    partner_found text at i c.loop-i.invariant.0 c.loop-i-test.true c.loop-i.invariant.6 (omega (arith, c.loop-i.invariant.4, c.loop-i.invariant.5, c.count_of-opened.ensures, c.count_of-closed.ensures, c.if-opened-closed.true))

pub loop-i-preserved : goal.loop-i-preserved
loop-i-preserved c =
    let text = c.args.text.now in
    let at = c.args.at in
    let i = c.loop-i.i in
    let o = occurrences-next 40 text at i c.loop-i.invariant.0 c.loop-i-test.true in
    let d = occurrences-next 41 text at i c.loop-i.invariant.0 c.loop-i-test.true in
    let p = one_at_most (get_or c.args.text.now c.loop-i.i 0) 40 c.count_of-opened.ensures in
    let q = one_at_most (get_or c.args.text.now c.loop-i.i 0) 41 c.count_of-closed.ensures in
    let more : suc (i - at) ≡ i + 1 - at = omega arith in
    let opened : c.loop-i.opened + c.count_of-opened.result ≡ occurrences 40 (between text at (i + 1)) = omega (arith, c.loop-i.invariant.4, c.count_of-opened.ensures) in
    let closed : c.loop-i.closed + c.count_of-closed.result ≡ occurrences 41 (between text at (i + 1)) = omega (arith, c.loop-i.invariant.5, c.count_of-closed.ensures) in
    let less : occurrences 41 (between text at (i + 1)) ≤ occurrences 40 (between text at (i + 1)) = omega (arith, c.if-opened-closed.false) in
    let never = never-next (drop at text) (i - at) c.loop-i.invariant.6 (subst (λ n. occurrences 41 (take n (drop at text)) ≤ occurrences 40 (take n (drop at text))) (sym more) less) in
    (omega arith, (λ h. omega arith), omega arith, omega arith, opened, closed, subst (NeverMore (drop at text)) more never)

pub returns : goal.returns
returns c = partner_missing c.args.text.now c.args.at c.loop-i.i c.loop-i-test.false c.loop-i.invariant.6
