-- `evaluate::negations` meets its contract: before each turn a `not` before the part that was asked for has the value of the part that the loop has
-- come to, negated once or twice.
use native.Mathlib.Omega.{arith}
use mathlib.Core.Path.{◌≡◌}
use Rattle.evaluate.proofs.Negating.{negates_more}
use Rattle.evaluate.proofs.negations.Goals as goal

pub loop-i-preserved : goal.loop-i-preserved
loop-i-preserved c =
    let some : c.loop-i.i ≡ 0 → ⊥ = λ z. omega arith in
    negates_more c.loop-i.again c.loop-i.invariant some c.if-kinds-i-ne-NEGATION_NODE.false
