-- `bounds::span_of_four` meets its contract: the ends are the least and the greatest of the four.
use mathlib.Core.Path.{◌∙◌, ap₂}
use Rattle.std.specs.Int.{int_min, int_max}
use Rattle.meaning.specs.Arithmetic.{least, greatest}
use Rattle.arithmetic.proofs.Machine.{held_both}
use Rattle.bounds.proofs.Ranges.{within_held, min-least, max-greatest}
use Rattle.bounds.proofs.span_of_four.Goals as goal

pub returns : goal.returns
returns c =
    let s = c in
    c.range_within.ensures
    ∙ within_held c.min-3.result c.max-3.result (record { sfits = c.min-3.type_inv }) (record { sfits = c.max-3.type_inv })
    (c.min-3.ensures.value ∙ held_both int_min c.min.result c.min-2.result (record { sfits = c.min.type_inv }) (record { sfits = c.min-2.type_inv }) ∙ min-least c.min.result c.min-2.result
    ∙ ap₂ least (c.min.ensures.value ∙ held_both int_min s.args.p s.args.q s.ranges.p s.ranges.q ∙ min-least s.args.p s.args.q) (c.min-2.ensures.value ∙ held_both int_min s.args.r s.args.s s.ranges.r s.ranges.s ∙ min-least s.args.r s.args.s))
    (c.max-3.ensures.value ∙ held_both int_max c.max.result c.max-2.result (record { sfits = c.max.type_inv }) (record { sfits = c.max-2.type_inv }) ∙ max-greatest c.max.result c.max-2.result
    ∙ ap₂ greatest (c.max.ensures.value ∙ held_both int_max s.args.p s.args.q s.ranges.p s.ranges.q ∙ max-greatest s.args.p s.args.q) (c.max-2.ensures.value ∙ held_both int_max s.args.r s.args.s s.ranges.r s.ranges.s ∙ max-greatest s.args.r s.args.s))
