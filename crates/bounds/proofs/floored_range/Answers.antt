-- `bounds::floored_range` meets its contract: the kind that is left is that of the remainder.
use native.Mathlib.Omega.{arith}
use mathlib.Core.Path.{◌≡◌, ◌∙◌, ap}
use Rattle.meaning.specs.Arithmetic.{operator_interval}
use Rattle.nodes.specs.Bounded.{operator_at}
use Rattle.nodes.specs.Bounds.{range_within, interval_of}
use Rattle.bounds.proofs.floored_range.Goals as goal

pub returns-else-kind-eq-FLOORED_DIVIDE_NODE : goal.returns-else-kind-eq-FLOORED_DIVIDE_NODE
returns-else-kind-eq-FLOORED_DIVIDE_NODE c =
    let kind : 21 ≡ c.args.kind = omega arith in
    c.floored_remainder_range.ensures ∙ ap (λ k. range_within (operator_interval (operator_at k) (interval_of c.args.a) (interval_of c.args.b))) kind
