-- `extend::firsts_after` meets its contract, by its tests.
use Prim.Native.Nat.{◌<◌}
use mathlib.Core.Path.{◌≡◌, ◌∙◌, sym, ap}
use native.Mathlib.Omega.{arith}
use lib.ListN.{length, take}
use borrow.Author.Tests.{le-leb, lt-leb, lt-ltb, le-ltb}
use Rattle.prepare.proofs.KeyLists.{copied_all}
use borrow.Author.Rules.{rules}
use Rattle.extend.proofs.firsts_after.Goals as goal

pub returns-then-size-width : goal.returns-then-size-width
returns-then-size-width c =
    let args = c.args in
    record { numbers_after = sym (simp (le-leb args.size args.width (omega (arith, c.if-size-width.true)), lt-ltb args.size args.width c.if-size-width.true)); upper_bound = search rules }

pub returns-then-size-width-2 : goal.returns-then-size-width-2
returns-then-size-width-2 c =
    let args = c.args in
    let is : args.size ≡ args.width = c.if-size-width-2.true in
    record { numbers_after = c.raise_all.ensures ∙ sym (simp (le-leb args.size args.width (omega arith), le-ltb args.size args.width (omega arith))); upper_bound = search rules }

pub returns : goal.returns
returns c =
    let args = c.args in
    let more : args.width < args.size = omega (arith, c.if-size-width.false, c.if-size-width-2.false) in
    record { numbers_after = ap (take (length args.held_firsts.now)) (c.put.ensures.copied (omega (arith, c.requires.1))) ∙ copied_all args.numbers.now args.held_firsts.now (omega (arith, c.requires.1)) ∙ sym (simp (lt-leb args.size args.width more)); upper_bound = search rules }
