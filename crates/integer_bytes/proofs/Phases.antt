-- What a token's bytes leave: the phase tells whether they are an integer and its sign, and the magnitude is the cut of the number that they
-- write. By induction over the bytes, from the definitions.
use Prim.Native.Nat.{ℕ, ◌+◌, ◌-◌, ◌*◌}
use native.Mathlib.Omega.{arith}
use mathlib.Core.Path.{◌≡◌, refl, sym, ◌∙◌, ap, subst}
use mathlib.Core.Bool.{Bool, true, false, not, cond, ◌&&◌, ◌||◌, and-true, and-false}
use mathlib.Core.List.{List, [], ◌∷◌}
use lib.Dec.{eqb}
use borrow.Author.Tests.{eqb-true}
use Rattle.basics.proofs.Tests.{not-both}
use Rattle.text.specs.Bytes.{Token, bytes_of}
use Rattle.text.specs.Token.{all_bytes, same_bytes, is_digit, is_empty, is_natural, natural_from, is_integer, integer_value}
use Rattle.text.specs.Fold.{run_bytes}
use Rattle.scan.specs.Integer.{cut, with_sign}
use Rattle.integer_bytes.specs.declared.Phase.{Phase}
use Rattle.integer_bytes.specs.declared.Phase.TheVariants.{Empty, Minus, Zero, Digits, MinusDigits, NoInteger}
use Rattle.integer_bytes.specs.Phases.{digit_phase, next_phase, ends_integer, is_negative, next_magnitude}

-- ---- the phase

abbrev pub phase_after : Phase → List ℕ → Phase
phase_after = run_bytes next_phase

none_after : (l : List ℕ) → phase_after NoInteger l ≡ NoInteger
none_after [] = refl
none_after (b ∷ l) = none_after l

-- In a phase that only digits keep.
module _ (p : Phase) (keeps : (b : ℕ) → next_phase p b ≡ digit_phase b p) where
  digits-after : (l : List ℕ) → phase_after p l ≡ cond (all_bytes is_digit l) p NoInteger
  digits-after [] = refl
  digits-after (b ∷ l) = ap (λ q. phase_after q l) (keeps b) ∙ by (is_digit b) (digits-after l)
    where
      by : (t : Bool) → phase_after p l ≡ cond (all_bytes is_digit l) p NoInteger → phase_after (cond t p NoInteger) l ≡ cond (t && all_bytes is_digit l) p NoInteger
      by true h = h
      by false h = none_after l

  -- From the first digit on, which is no `0`.
  natural-after : (b : ℕ) (l : List ℕ) → eqb b 48 ≡ false → phase_after (digit_phase b p) l ≡ cond (is_natural (b ∷ l)) p NoInteger
  unfolding is_natural
  natural-after b l z = by (is_digit b) ∙ ap (λ t. cond (is_digit b && all_bytes is_digit l && (not t || is_empty l)) p NoInteger) (sym z)
    where
      by : (t : Bool) → phase_after (cond t p NoInteger) l ≡ cond (t && all_bytes is_digit l && true) p NoInteger
      by true = digits-after l ∙ ap (λ t. cond t p NoInteger) (sym (and-true (all_bytes is_digit l)))
      by false = none_after l

-- What a phase says of an integer with or without a `-`.
record Tells (negative test : Bool) (p : Phase) : Type 0 where
  ends : ends_integer p ≡ test
  sign : test ≡ true → is_negative p ≡ negative

tells_digits : (t : Bool) → Tells false t (cond t Digits NoInteger)
tells_digits true = record { ends = refl; sign = λ e. refl }
tells_digits false = record { ends = refl; sign = λ e. refl }

tells-minus : (t : Bool) → Tells true t (cond t MinusDigits NoInteger)
tells-minus true = record { ends = refl; sign = λ e. refl }
tells-minus false = record { ends = refl; sign = λ e. not-both e }

tells_none : {n t : Bool} {p : Phase} → t ≡ false → p ≡ NoInteger → Tells n t p
tells_none e q = record { ends = ap ends_integer q ∙ sym e; sign = λ f. not-both (sym e ∙ f) }

tells-same : {n t u : Bool} {p q : Phase} → p ≡ q → t ≡ u → Tells n u q → Tells n t p
tells-same e f h = record { ends = ap ends_integer e ∙ h.ends ∙ sym f; sign = λ g. ap is_negative e ∙ h.sign (sym f ∙ g) }

minus-zero : (l : List ℕ) → (is_natural (48 ∷ l) && not (same_bytes (48 ∷ l) (bytes_of "0"))) ≡ false
unfolding is_natural
minus-zero [] = refl
minus-zero (b ∷ l) = ap (λ t. t && true) (and-false (is_digit b && all_bytes is_digit l))

after_minus : (l : List ℕ) → Tells true (is_natural l && not (same_bytes l (bytes_of "0"))) (phase_after Minus l)
unfolding is_natural
after_minus [] = record { ends = refl; sign = λ e. not-both e }
after_minus (b ∷ l) = by (eqb b 48) refl
  where
    by : (t : Bool) → eqb b 48 ≡ t → Tells true (is_natural (b ∷ l) && not (t && same_bytes l [])) (phase_after (cond t NoInteger (digit_phase b MinusDigits)) l)
    by true e = tells_none (ap (λ c. is_natural (c ∷ l) && not (true && same_bytes l [])) (eqb-true b 48 e) ∙ minus-zero l) (none_after l)
    by false e = tells-same (natural-after MinusDigits (λ c. refl) b l e) (and-true (is_natural (b ∷ l))) (tells-minus (is_natural (b ∷ l)))

after-zero : (l : List ℕ) → Tells false (is_natural (48 ∷ l)) (phase_after Zero l)
unfolding is_natural
after-zero [] = record { ends = refl; sign = λ e. refl }
after-zero (b ∷ l) = tells_none (and-false (is_digit b && all_bytes is_digit l)) (none_after l)

after_first : (b : ℕ) (l : List ℕ) → Tells false (is_natural (b ∷ l)) (phase_after (cond (eqb b 48) Zero (digit_phase b Digits)) l)
after_first b l = by (eqb b 48) refl
  where
    by : (t : Bool) → eqb b 48 ≡ t → Tells false (is_natural (b ∷ l)) (phase_after (cond t Zero (digit_phase b Digits)) l)
    by true e = tells-same refl (ap (λ c. is_natural (c ∷ l)) (eqb-true b 48 e)) (after-zero l)
    by false e = tells-same (natural-after Digits (λ c. refl) b l e) refl (tells_digits (is_natural (b ∷ l)))

-- The bytes are an integer exactly if the phase says so, and its value has the sign of the phase.
pub record Read (t : Token) : Type 0 where
  pub integer : ends_integer (phase_after Empty t) ≡ is_integer t
  pub value : is_integer t ≡ true → with_sign (is_negative (phase_after Empty t)) (natural_from 0 t) ≡ integer_value t

pub token-read : (t : Token) → Read t
unfolding is_integer integer_value natural_from
token-read [] = record { integer = refl; value = λ e. refl }
token-read (b ∷ l) = by (eqb b 45) refl
  where
    by : (m : Bool) → eqb b 45 ≡ m → Read (b ∷ l)
    by true e = let h = after_minus l in subst (λ c. Read (c ∷ l)) (sym (eqb-true b 45 e)) (record { integer = h.ends; value = λ f. ap (λ n. with_sign n (natural_from 0 l)) (h.sign f) })
    by false e =
        let h = after_first b l in
        let phase : phase_after Empty (b ∷ l) ≡ phase_after (cond (eqb b 48) Zero (digit_phase b Digits)) l =
        ap (λ t. phase_after (cond t Minus (cond (eqb b 48) Zero (digit_phase b Digits))) l) e in
        let test : is_integer (b ∷ l) ≡ is_natural (b ∷ l) = ap (λ t. cond t (is_natural l && not (same_bytes l (bytes_of "0"))) (is_natural (b ∷ l))) e in
        record {
          integer = ap ends_integer phase ∙ h.ends ∙ sym test;
          value = λ f.
              ap (λ p. with_sign (is_negative p) (natural_from 0 (b ∷ l))) phase ∙ ap (λ n. with_sign n (natural_from 0 (b ∷ l))) (h.sign (sym test ∙ f))
              ∙ sym (ap (λ t. cond t (with_sign true (natural_from 0 l)) (with_sign false (natural_from 0 (b ∷ l)))) e);
        }

-- ---- the magnitude

pub magnitude-after : (l : List ℕ) (n : ℕ) → run_bytes next_magnitude (cut n) l ≡ cut (natural_from n l)
unfolding natural_from
magnitude-after [] n = refl
magnitude-after (b ∷ l) n =
    let same : cut (cut n * 10 + (b - 48)) ≡ cut (n * 10 + (b - 48)) = omega arith in
    ap (λ m. run_bytes next_magnitude m l) same ∙ magnitude-after l (n * 10 + (b - 48))
