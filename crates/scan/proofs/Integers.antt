-- Digits read from the front with the number cut to the bound's successor give the cut of the whole number. By induction over the digits.
use Prim.Native.Nat.{ℕ, zero, suc, ◌+◌, ◌-◌, ◌*◌, ◌≤◌, ◌<◌}
use mathlib.Core.Path.{◌≡◌, refl, sym, ap, ap₂, subst, ◌∙◌}
use mathlib.Core.Bool.{Bool, true, false, not, cond, ◌&&◌, ◌||◌, true≢false}
use mathlib.Core.List.{List, [], ◌∷◌}
use Rattle.std.specs.Prelude.{Option, None, Some, Ok, Err}
use native.Mathlib.Omega.{arith}
use lib.Dec.{T, ltb, eqb, leb→le}
use lib.IntN.{ℤ, pos, neg_ℤ, nat_abs, ◌-ℤ◌, +ℤ_idl}
use lib.ListN.{length, drop, get_or, length-drop}
use lib.Seq.{take_all}
use mir.Syntax.{w64}
use mir.Val.{SFits}
use borrow.Author.Tests.{ne_eqb, lt-ltb}
use Rattle.basics.proofs.Tests.{and_left, and_right}
use Rattle.basics.proofs.Reflects.{Reflects, holds, fails, ltb_reflects, to_true, to_false}
use Rattle.text.specs.Bytes.{Token, bytes_of}
use Rattle.text.specs.Token.{all_bytes, same_bytes, is_digit, is_empty, is_natural, is_integer, integer_value, natural_from}
use Rattle.text.proofs.Token.{same_bytes_reflects, natural_from-rises}
use Rattle.sheet.specs.Refusal.{magnitude_bound}
use Rattle.sheet.specs.Reading.{is_beyond}
use Rattle.scan.specs.declared.IntegerError.TheVariants.{NoInteger, Beyond}
use Rattle.scan.specs.Place.{between}
use Rattle.scan.proofs.Tokens.{drop_at}
use Rattle.scan.specs.Integer.{IntegerRead, cut, natural_read, with_sign, integer_within, integer_read, signed_read, no_integer}

some_value : {m n : ℕ} → Some m ≡ Some n → m ≡ n
some_value e = ap (elim_some) e
  where
    elim_some : Option ℕ → ℕ
    elim_some None = 0
    elim_some (Some n) = n

pub cut-natural : (n : ℕ) (l : List ℕ) → cut (natural_from (cut n) l) ≡ cut (natural_from n l)
unfolding natural_from
cut-natural n [] = omega arith
cut-natural n (b ∷ l) =
    let same : cut (cut n * 10 + (b - 48)) ≡ cut (n * 10 + (b - 48)) = omega arith in
    sym (cut-natural (cut n * 10 + (b - 48)) l) ∙ ap (λ m. cut (natural_from m l)) same ∙ cut-natural (n * 10 + (b - 48)) l

-- A `0` is a natural number only by itself.
pub natural-zero : (l : List ℕ) → length l ≡ 1 → get_or l 0 0 ≡ 48 → Some 0 ≡ natural_read l
unfolding natural_read is_natural natural_from
natural-zero [] h e = absurd (omega arith)
natural-zero (b ∷ []) h e = rw e refl
natural-zero (b ∷ c ∷ l) h e = absurd (omega arith)

pub natural-zero_more : (l : List ℕ) → (length l ≡ 0 → ⊥) → (length l ≡ 1 → ⊥) → get_or l 0 0 ≡ 48 → None ≡ natural_read l
unfolding natural_read is_natural natural_from
natural-zero_more [] h k e = absurd (h refl)
natural-zero_more (b ∷ []) h k e = absurd (k refl)
natural-zero_more (b ∷ c ∷ l) h k e = rw e (by (is_digit c && all_bytes is_digit l))
  where
    by : (m : Bool) → None ≡ cond (m && false) (Some (cut (natural_from 0 (48 ∷ c ∷ l)))) None
    by true = refl
    by false = refl

pub natural-empty : (l : List ℕ) → length l ≡ 0 → None ≡ natural_read l
unfolding natural_read is_natural
natural-empty [] h = refl
natural-empty (b ∷ l) h = absurd (omega arith)

-- Bytes that are not all digits.
pub natural-not : (l : List ℕ) → all_bytes is_digit l ≡ false → None ≡ natural_read l
unfolding natural_read is_natural
natural-not [] e = refl
natural-not (b ∷ l) e = rw e

-- Digits without a leading zero.
pub natural-read : (l : List ℕ) → (length l ≡ 0 → ⊥) → (get_or l 0 0 ≡ 48 → ⊥) → all_bytes is_digit l ≡ true → Some (cut (natural_from 0 l)) ≡ natural_read l
unfolding natural_read is_natural
natural-read [] n z e = absurd (n refl)
natural-read (b ∷ l) n z e = rw (e, ne_eqb b 48 z)

-- A magnitude within the bound, taken from 0, fits the machine's signed numbers.
pub zero-less : (n : ℕ) → pos 0 -ℤ pos n ≡ neg_ℤ (pos n)
zero-less n = +ℤ_idl (neg_ℤ (pos n))

pub less-fits : (n : ℕ) → n ≤ 1000000000 → SFits w64 (neg_ℤ (pos n))
less-fits zero h = record { sfits = omega arith }
less-fits (suc n) h = record { sfits = omega arith }

nat_abs_sign : (b : Bool) (n : ℕ) → nat_abs (with_sign b n) ≡ n
nat_abs_sign true zero = refl
nat_abs_sign true (suc n) = refl
nat_abs_sign false n = refl

-- The cut number says whether the number is beyond the bound, and is it where it is not.
within-cut : (b : Bool) (n : ℕ) → integer_within (ltb magnitude_bound (cut n)) (with_sign b (cut n)) ≡ integer_within (is_beyond (with_sign b n)) (with_sign b n)
within-cut b n = by (ltb_reflects magnitude_bound n) ∙ ap (λ m. integer_within (ltb magnitude_bound m) (with_sign b n)) (sym (nat_abs_sign b n))
  where
    by : {m : Bool} → Reflects (magnitude_bound < n) m → integer_within (ltb magnitude_bound (cut n)) (with_sign b (cut n)) ≡ integer_within (ltb magnitude_bound n) (with_sign b n)
    by (holds h) = ap (λ m. integer_within m (with_sign b (cut n))) (lt-ltb magnitude_bound (cut n) (omega arith)) ∙ sym (ap (λ m. integer_within m (with_sign b n)) (lt-ltb magnitude_bound n h))
    by (fails f) = let same : cut n ≡ n = omega arith in ap (λ m. integer_within (ltb magnitude_bound m) (with_sign b m)) same

abbrev written : Bool → List ℕ → IntegerRead
written b l = integer_within (is_beyond (with_sign b (natural_from 0 l))) (with_sign b (natural_from 0 l))

signed_read_lem : (b : Bool) (l : List ℕ) → signed_read b (natural_read l) ≡ cond (is_natural l) (written b l) no_integer
unfolding natural_read
signed_read_lem b l = by (is_natural l)
  where
    by : (m : Bool) → signed_read b (cond m (Some (cut (natural_from 0 l))) None) ≡ cond m (written b l) no_integer
    by true = within-cut b (natural_from 0 l)
    by false = refl

empty : (l : List ℕ) → T (is_empty l) → l ≡ []
empty [] t = refl
empty (b ∷ l) t = absurd t

-- `-0` is no integer, and a natural number that is 0 is `0`.
abbrev is_minus : List ℕ → Bool
is_minus l = is_natural l && not (same_bytes l (bytes_of "0"))

minus-zero : (l : List ℕ) → natural_read l ≡ Some 0 → is_minus l ≡ false
unfolding natural_read is_natural natural_from
minus-zero [] e = refl
minus-zero (b ∷ l) e = by (is_natural (b ∷ l)) refl e
  where
    zero-alone : T (is_natural (b ∷ l)) → natural_from 0 (b ∷ l) ≡ 0 → b ∷ l ≡ bytes_of "0"
    zero-alone t z =
        let rises = natural_from-rises (0 * 10 + (b - 48)) l in
        let low : 48 ≤ b = leb→le 48 b (search (and_left, and_right)) in
        let here : b ≡ 48 = omega arith in
        ap₂ ◌∷◌ here (empty l (subst (λ a. T (not (eqb a 48) || is_empty l)) here (and_right (is_digit b && all_bytes is_digit l) (not (eqb b 48) || is_empty l) t)))

    by : (m : Bool) → is_natural (b ∷ l) ≡ m → cond m (Some (cut (natural_from 0 (b ∷ l)))) None ≡ Some 0 → is_minus (b ∷ l) ≡ false
    by true p q = rw p (ap not (to_true (same_bytes_reflects (b ∷ l) (bytes_of "0")) (zero-alone (rw p tt) (let e : cut (natural_from 0 (b ∷ l)) ≡ 0 = some_value q in let z : natural_from 0 (b ∷ l) ≡ 0 = omega arith in z))))
    by false p q = rw p

minus-other : (l : List ℕ) → (natural_read l ≡ Some 0 → ⊥) → is_minus l ≡ is_natural l
unfolding natural_read is_natural natural_from
minus-other l n = ap (λ m. is_natural l && not m) (to_false (same_bytes_reflects l (bytes_of "0")) (λ e. n (ap natural_read e))) ∙ all (is_natural l)
  where
    all : (m : Bool) → (m && true) ≡ m
    all true = refl
    all false = refl

-- What is read of an integer is not what is read of no integer.
pub within-some : (b : Bool) (z : ℤ) → integer_within b z ≡ no_integer → ⊥
within-some b z e = true≢false (sym (some b) ∙ ap is_some e)
  where
    is_some : IntegerRead → Bool
    is_some (Ok y) = true
    is_some (Err Beyond) = true
    is_some (Err NoInteger) = false

    some : (c : Bool) → is_some (integer_within c z) ≡ true
    some true = refl
    some false = refl

-- What a token is as an integer: nothing, a `-` with digits after it, or digits.
pub integer-none : (t : Token) → length t ≡ 0 → no_integer ≡ integer_read t
unfolding integer_read is_integer
integer-none [] h = refl
integer-none (b ∷ l) h = absurd (omega arith)

module _ (t : Token) (h : length t ≡ 0 → ⊥) where
  abbrev digits : List ℕ
  digits = between t 1 (length t)

  whole : t ≡ get_or t 0 0 ∷ digits
  whole =
      let some : 0 < length t = omega arith in
      drop_at t 0 some ∙ ap (λ l. get_or t 0 0 ∷ l) (sym (take_all (length t - 1) (drop 1 t) (let z = length-drop 1 t in omega arith)))

  pub integer-minus-zero : get_or t 0 0 ≡ 45 → natural_read digits ≡ Some 0 → no_integer ≡ integer_read t
  unfolding integer_read is_integer
  integer-minus-zero e z = sym (ap integer_read (whole ∙ ap (λ b. b ∷ digits) e) ∙ rw (minus-zero digits z))

  pub integer-minus : get_or t 0 0 ≡ 45 → (natural_read digits ≡ Some 0 → ⊥) → signed_read true (natural_read digits) ≡ integer_read t
  unfolding integer_read is_integer integer_value
  integer-minus e n = signed_read_lem true digits ∙ sym (ap integer_read (whole ∙ ap (λ b. b ∷ digits) e) ∙ rw (minus-other digits n))

  pub integer_plain : (get_or t 0 0 ≡ 45 → ⊥) → signed_read false (natural_read t) ≡ integer_read t
  unfolding integer_read is_integer integer_value
  integer_plain n = signed_read_lem false t ∙ ap (λ u. cond (is_natural u) (written false u) no_integer) whole ∙ sym (ap integer_read whole ∙ rw (ne_eqb (get_or t 0 0) 45 n))
