-- The step of any machine at a byte, by the tests that tell the byte's class. From the definitions.
use Prim.Native.Nat.{ℕ}
use mathlib.Core.Path.{◌≡◌, refl, sym, ◌∙◌, ap, ap₂}
use mathlib.Core.Bool.{Bool, true, false}
use Rattle.basics.proofs.Tests.{not-both, T-of_true}
use Rattle.text.specs.Bytes.{inside, class_of, class_from, is_bracket, is_inside}
use Rattle.text.specs.Fold.{TokenReading, class_byte, end_token}
use Rattle.text.proofs.Bytes.{bracket_not_inside}

class-inside : (b : ℕ) → is_inside b ≡ true → class_of b ≡ inside
class-inside b e = by (is_bracket b) refl
  where
    by : (t : Bool) → is_bracket b ≡ t → class_from t (is_inside b) ≡ inside
    by true p = not-both (sym (bracket_not_inside b (T-of_true (is_bracket b) p)) ∙ e)
    by false p = ap (class_from false) e

abbrev pub reading : {S : Type 0} → Bool → S → TokenReading S
reading begun s = record { begun = begun; state = s }

-- A state is made of a mark of barred bytes and of what is read of the tokens; it is what the code makes at a byte inside a run, at a bracket and
-- at any other byte.
module _ {S L : Type 0} (from : Bool → TokenReading S → L) (byte : S → ℕ → S) (token_end : S → S) (r : TokenReading S) (b : ℕ) {m n : Bool} (marks : m ≡ n) where
  abbrev ended : S
  ended = end_token byte token_end r.begun r.state

  abbrev next : L
  next = from n (class_byte byte token_end (class_of b) r b)

  pub at-inside : is_inside b ≡ true → {v : S} → v ≡ byte r.state b → from m (reading true v) ≡ next
  at-inside e q = ap₂ from marks (ap (reading true) q ∙ sym (ap (λ c. class_byte byte token_end c r b) (class-inside b e)))

  pub at_bracket : is_bracket b ≡ true → {u v w : S} → u ≡ ended → v ≡ byte u b → w ≡ token_end v → from m (reading false w) ≡ next
  at_bracket e p q s =
      ap₂ from marks (ap (reading false) (s ∙ ap token_end (q ∙ ap (λ x. byte x b) p)) ∙ sym (ap (λ t. class_byte byte token_end (class_from t (is_inside b)) r b) e))

  pub at-between : is_inside b ≡ false → is_bracket b ≡ false → {u : S} → u ≡ ended → from m (reading false u) ≡ next
  at-between e f p =
      ap₂ from marks
      (ap (reading false) p ∙ sym (ap (λ t. class_byte byte token_end (class_from t (is_inside b)) r b) f ∙ ap (λ t. class_byte byte token_end (class_from false t) r b) e))
