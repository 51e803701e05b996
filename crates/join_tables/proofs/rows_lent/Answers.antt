-- `rows_lent` meets its contract: each call gives the smaller of two numbers, which the law of `min` puts in order; the quotient by 0 is 0.
use Prim.Native.Nat.{ℕ, ◌/◌, min}
use native.Mathlib.Nat.{div-zero}
use native.Mathlib.Omega.{arith}
use mathlib.Core.Path.{◌≡◌, ◌∙◌, ap}
use Rattle.join_tables.proofs.rows_lent.Goals as goal

assoc : (a b c : ℕ) → min (min a b) c ≡ min a (min b c)
assoc a b c = omega arith

none_left : (q m : ℕ) → q ≡ 0 → 0 ≡ min q m
none_left q m e = omega arith

pub returns-then-letters-eq0 : goal.returns-then-letters-eq0
returns-then-letters-eq0 c = let entries = c.args.entries in let none : entries / c.args.letters ≡ 0 = ap (λ n. entries / n) c.if-letters-eq0.true ∙ div-zero entries in none_left _ _ none

pub returns : goal.returns
returns c =
    let r = c.args.rows in
    (c.min-8.ensures ∙ ap (λ x. min x r.envelopes) (c.min-7.ensures ∙ ap (λ x. min x r.links) (c.min-6.ensures ∙ ap (λ x. min x r.heads) (c.min-5.ensures ∙ ap (λ x. min x r.next) (c.min-4.ensures
    ∙ ap (λ x. min x r.class) (c.min-3.ensures ∙ ap (λ x. min x r.live) (c.min-2.ensures ∙ ap (λ x. min x r.keys) c.min.ensures)))))))
    ∙ assoc _ _ _ ∙ assoc _ _ _ ∙ assoc _ _ _ ∙ assoc _ _ _ ∙ assoc _ _ _ ∙ assoc _ _ _ ∙ assoc _ _ _
