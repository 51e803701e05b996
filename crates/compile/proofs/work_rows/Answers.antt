-- `compile::work_rows` meets its contract: each call gives the smaller of two numbers, which the law of `min` puts in order.
use Prim.Native.Nat.{ℕ, min}
use native.Mathlib.Omega.{arith}
use mathlib.Core.Path.{◌≡◌, ◌∙◌, ap}
use Rattle.compile.proofs.work_rows.Goals as goal

assoc : (a b c : ℕ) → min (min a b) c ≡ min a (min b c)
assoc a b c = omega arith

pub returns : goal.returns
returns c =
    let a = c.args in
    (c.min-5.ensures ∙ ap (λ x. min x a.envelopes) (c.min-4.ensures ∙ ap (λ x. min x a.links) (c.min-3.ensures ∙ ap (λ x. min x a.heads) (c.min-2.ensures ∙ ap (λ x. min x a.next) c.min.ensures))))
    ∙ assoc _ _ _ ∙ assoc _ _ _ ∙ assoc _ _ _ ∙ assoc _ _ _
