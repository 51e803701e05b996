-- `bounds::hull` meets its contract: the hull of two usable intervals.
use mathlib.Core.Path.{sym, ◌∙◌, ap₂}
use native.Mathlib.Omega.{arith}
use Rattle.std.specs.Int.{int_min, int_max}
use Rattle.meaning.specs.Arithmetic.{hull}
use Rattle.nodes.specs.Bounds.{combined}
use Rattle.arithmetic.proofs.Machine.{held_both}
use Rattle.bounds.proofs.Ranges.{within_held, joined_yes, min-least, max-greatest}
use Rattle.bounds.proofs.hull.Goals as goal

pub returns-in-Some-Some : goal.returns-in-Some-Some
returns-in-Some-Some c =
    let a = c.in-Some-Some.a in
    let b = c.in-Some-Some.b in
    c.range_within.ensures
    ∙ within_held c.min.result c.max.result (record { sfits = c.min.type_inv }) (record { sfits = c.max.type_inv })
    (c.min.ensures.value ∙ held_both int_min a.low b.low (record { sfits = omega arith }) (record { sfits = omega arith }) ∙ min-least a.low b.low)
    (c.max.ensures.value ∙ held_both int_max a.high b.high (record { sfits = omega arith }) (record { sfits = omega arith }) ∙ max-greatest a.high b.high)
    ∙ joined_yes hull a b (sym c.usable.ensures ∙ c.if-usable.true) (sym c.usable-then-usable.ensures ∙ c.if-usable-2.true)
    ∙ sym (ap₂ (combined hull) c.in-Some-Some.is-0 c.in-Some-Some.is-1)
