-- `write_residue::past_negations` meets its contract: what is passed are `not`s.
use native.Mathlib.Omega.{arith}
use mathlib.Core.Path.{◌≡◌}
use Rattle.write_residue.proofs.Recursion.{passes_none, passes-more}
use Rattle.write_residue.proofs.past_negations.Goals as goal

pub loop-i-init : goal.loop-i-init
loop-i-init c = passes_none

pub loop-i-preserved : goal.loop-i-preserved
loop-i-preserved c =
    let some : c.loop-i.i ≡ 0 → ⊥ = λ z. omega arith in
    passes-more c.loop-i.invariant some c.if-kinds-i-ne-NEGATION_NODE.false
