-- `evaluate::shifted` meets its contract: before each turn the part and the place that the loop has come to have the value that was asked for, and
-- the loop ends where neither a `next` nor a `fby` can be followed.
use native.Mathlib.Omega.{arith}
use mathlib.Core.Path.{◌≡◌}
use Rattle.evaluate.proofs.Shifting.{moved-next, moved-fby}
use Rattle.evaluate.proofs.shifted.Goals as goal

pub loop-i-preserved-then-at-count : goal.loop-i-preserved-then-at-count
loop-i-preserved-then-at-count c =
    let some : c.loop-i.i ≡ 0 → ⊥ = λ z. omega arith in
    moved-next c.loop-i.invariant some c.in-3.is c.if-at-count.true

pub loop-i-preserved : goal.loop-i-preserved
loop-i-preserved c =
    let some : c.loop-i.i ≡ 0 → ⊥ = λ z. omega arith in
    let later : c.loop-i.at ≡ 0 → ⊥ = λ z. omega arith in
    moved-fby c.loop-i.invariant some c.in-6.is later
