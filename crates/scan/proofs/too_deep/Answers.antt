-- `scan::too_deep` meets its contract: up to the loop's place the line is not too deep, so that the rest decides.
use Prim.Native.Nat.{◌+◌}
use mathlib.Core.Path.{refl, sym, ap₂, ◌∙◌}
use native.Mathlib.Omega.{arith}
use lib.ListN.{drop, get_or}
use Rattle.sheet.specs.Reading.{too_deep_from}
use Rattle.scan.proofs.Partners.{deep-now, deep-later, deep-never, one_at_most}
use Rattle.scan.proofs.too_deep.Goals as goal

pub loop-byte-init : goal.loop-byte-init
loop-byte-init c = (omega arith, omega arith, omega arith, omega arith, refl)

pub overflow_add-opened : goal.overflow_add-opened
overflow_add-opened c = let o = one_at_most (get_or c.args.line.now c.loop-byte.byte-index 0) 40 c.count_of-opened.ensures in omega arith

pub overflow_add-closed : goal.overflow_add-closed
overflow_add-closed c = let d = one_at_most (get_or c.args.line.now c.loop-byte.byte-index 0) 41 c.count_of-closed.ensures in omega arith

pub overflow_add-closed-in-loop-byte : goal.overflow_add-closed-in-loop-byte
overflow_add-closed-in-loop-byte c = let d = one_at_most (get_or c.args.line.now c.loop-byte.byte-index 0) 41 c.count_of-closed.ensures in omega (arith, c.well_formed)

pub returns-then-closed-opened : goal.returns-then-closed-opened
returns-then-closed-opened c =
    let o = c.loop-byte.opened in
    sym (c.loop-byte.invariant.4 ∙ deep-later o c.loop-byte.closed c.args.line.now c.loop-byte.byte-index c.loop-byte.invariant.3 c.loop-byte-test.true
    ∙ ap₂ (λ a b. too_deep_from (o + a) (c.loop-byte.closed + b) (drop (c.loop-byte.byte-index + 1) c.args.line.now)) (sym c.count_of-opened.ensures) (sym c.count_of-closed.ensures) ∙ deep-now _ _ _ c.if-closed-opened.true)

pub loop-byte-preserved : goal.loop-byte-preserved
loop-byte-preserved c =
    let o = one_at_most (get_or c.args.line.now c.loop-byte.byte-index 0) 40 c.count_of-opened.ensures in
    let d = one_at_most (get_or c.args.line.now c.loop-byte.byte-index 0) 41 c.count_of-closed.ensures in (
      omega arith,
      omega arith,
      omega arith,
      omega arith,
      c.loop-byte.invariant.4 ∙ deep-later c.loop-byte.opened c.loop-byte.closed c.args.line.now c.loop-byte.byte-index c.loop-byte.invariant.3 c.loop-byte-test.true
          ∙ ap₂ (λ a b. too_deep_from (c.loop-byte.opened + a) (c.loop-byte.closed + b) (drop (c.loop-byte.byte-index + 1) c.args.line.now)) (sym c.count_of-opened.ensures) (sym c.count_of-closed.ensures),
    )

pub returns : goal.returns
returns c = sym (c.loop-byte.invariant.4 ∙ deep-never c.loop-byte.opened c.loop-byte.closed c.args.line.now c.loop-byte.byte-index c.loop-byte.invariant.3 (omega arith))
