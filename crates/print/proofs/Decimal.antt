-- The decimal form of an integer is a token of document 01's form, and reads back as the integer.
use Prim.Native.Nat.{ℕ, zero, suc, ◌+◌, ◌-◌, ◌*◌, ◌/◌, ◌%◌, ◌≤◌, ◌<◌}
use native.Mathlib.Omega.{arith}
use native.Mathlib.Nat.{mod-lt, div-add-mod', div-lt_self}
use mathlib.Core.Path.{◌≡◌, refl, sym, ◌∙◌, ap, ap₂}
use mathlib.Core.Bool.{Bool, true, false, cond, not, ◌&&◌, ◌||◌}
use mathlib.Core.List.{List, [], ◌∷◌, ◌++◌}
use lib.Dec.{leb, ltb, eqb}
use lib.IntN.{ℤ, pos, negsuc, neg_ℤ}
use borrow.Author.Tests.{ltb-true, ltb-false, lt-ltb, le-ltb, leb-true, le-leb, ne_eqb}
use Rattle.basics.proofs.Tests.{or_true}
use Rattle.text.specs.Token.{all_bytes, same_bytes, is_digit, is_empty, is_natural, natural_from, is_integer, integer_value}
use Rattle.text.proofs.Token.{natural_from-append}
use Rattle.print.specs.Text.{digits_within, digits, decimal}

-- ---- the count of digits that is allowed does not matter, as long as it is above the number

tenth_below : (n k : ℕ) → 10 ≤ n → n < suc k → n / 10 < k
tenth_below n k h l = let d : n / 10 < n = div-lt_self (omega arith) (omega arith) in omega arith

abbrev step : ℕ → List ℕ → Bool → List ℕ
step n tenth small = cond small ((48 + n) ∷ []) (tenth ++ ((48 + n % 10) ∷ []))

within_same : (j k n : ℕ) → n < j → n < k → digits_within j n ≡ digits_within k n
unfolding digits_within
within_same zero k n h l = absurd (omega arith)
within_same (suc j) zero n h l = absurd (omega arith)
within_same (suc j) (suc k) n h l = by (within_same j k (n / 10)) (ltb n 10) refl
  where
    by : (n / 10 < j → n / 10 < k → digits_within j (n / 10) ≡ digits_within k (n / 10)) → (t : Bool) → ltb n 10 ≡ t
        → step n (digits_within j (n / 10)) (ltb n 10) ≡ step n (digits_within k (n / 10)) (ltb n 10)
    by again true e = simp e
    by again false e = let g = ltb-false n 10 e in ap (λ s. step n s (ltb n 10)) (again (tenth_below n j g h) (tenth_below n k g l))

-- "digits", as the code writes them: one digit, or those of the tenth and one more.
pub digits-one : (n : ℕ) → n < 10 → digits n ≡ (48 + n) ∷ []
unfolding digits_within
digits-one n h = simp (lt-ltb n 10 h)

pub digits_more : (n : ℕ) → 10 ≤ n → digits n ≡ digits (n / 10) ++ ((48 + n % 10) ∷ [])
unfolding digits_within
digits_more n h =
    ap (step n (digits_within n (n / 10))) (le-ltb n 10 h)
    ∙ ap (λ s. s ++ ((48 + n % 10) ∷ [])) (within_same n (suc (n / 10)) (n / 10) (tenth_below n n h (omega arith)) (omega arith))

-- ---- the number that the digits write

below_induction : (P : ℕ → Type 0) → ((n : ℕ) → n < 10 → P n) → ((n : ℕ) → 10 ≤ n → P (n / 10) → P n) → (n : ℕ) → P n
below_induction P small more n = go (suc n) n (omega arith)
  where
    by : (k n : ℕ) → n < suc k → (n / 10 < k → P (n / 10)) → (t : Bool) → ltb n 10 ≡ t → P n
    by k n h again true e = small n (ltb-true n 10 e)
    by k n h again false e = let g = ltb-false n 10 e in more n g (again (tenth_below n k g h))

    go : (k n : ℕ) → n < k → P n
    go zero n h = absurd (omega arith)
    go (suc k) n h = by k n h (go k (n / 10)) (ltb n 10) refl

pub digits_value : (n : ℕ) → natural_from 0 (digits n) ≡ n
unfolding natural_from
digits_value = below_induction (λ n. natural_from 0 (digits n) ≡ n) small more
  where
    small : (n : ℕ) → n < 10 → natural_from 0 (digits n) ≡ n
    small n h = let e : 0 * 10 + (48 + n - 48) ≡ n = omega arith in ap (natural_from 0) (digits-one n h) ∙ e

    more : (n : ℕ) → 10 ≤ n → natural_from 0 (digits (n / 10)) ≡ n / 10 → natural_from 0 (digits n) ≡ n
    more n h v =
        let e : n / 10 * 10 + (48 + n % 10 - 48) ≡ n = omega (arith, div-add-mod' n 10) in
        ap (natural_from 0) (digits_more n h) ∙ natural_from-append 0 (digits (n / 10)) ((48 + n % 10) ∷ []) ∙ ap (λ m. m * 10 + (48 + n % 10 - 48)) v ∙ e

-- ---- the digits' form

-- A first digit, which is 0 only for 0 itself, and digits after it, none after a first 0.
record Form (n : ℕ) : Type 0 where
  first : ℕ
  others : List ℕ
  whole : digits n ≡ first ∷ others
  first_digit : is_digit first ≡ true
  other_digits : all_bytes is_digit others ≡ true
  lead : 0 < n → eqb first 48 ≡ false
  alone : n < 10 → others ≡ []

digit-byte : (d : ℕ) → d < 10 → is_digit (48 + d) ≡ true
digit-byte d h = ap₂ ◌&&◌ (le-leb 48 (48 + d) (omega arith)) (le-leb (48 + d) 57 (omega arith))

digits-after : (l : List ℕ) (d : ℕ) → d < 10 → all_bytes is_digit l ≡ true → all_bytes is_digit (l ++ ((48 + d) ∷ [])) ≡ true
digits-after [] d h e = ap (λ t. t && true) (digit-byte d h)
digits-after (b ∷ l) d h e = by (digits-after l d h) (is_digit b) refl e
  where
    by : (all_bytes is_digit l ≡ true → all_bytes is_digit (l ++ ((48 + d) ∷ [])) ≡ true) → (t : Bool) → is_digit b ≡ t → t && all_bytes is_digit l ≡ true
        → is_digit b && all_bytes is_digit (l ++ ((48 + d) ∷ [])) ≡ true
    by again true p q = ap (λ t. t && all_bytes is_digit (l ++ ((48 + d) ∷ []))) p ∙ again q
    by again false p q = let y : ◌≡◌ {A = ℕ} 0 1 = cc in absurd (omega arith)

form : (n : ℕ) → Form n
form = below_induction Form small more
  where
    small : (n : ℕ) → n < 10 → Form n
    small n h = record { first = 48 + n; others = []; whole = digits-one n h; first_digit = digit-byte n h; other_digits = refl; lead = λ p. ne_eqb (48 + n) 48 (λ e. omega arith); alone = λ p. refl }

    more : (n : ℕ) → 10 ≤ n → Form (n / 10) → Form n
    more n h f =
        record {
          first = f.first;
          others = f.others ++ ((48 + n % 10) ∷ []);
          whole = digits_more n h ∙ ap (λ l. l ++ ((48 + n % 10) ∷ [])) f.whole;
          first_digit = f.first_digit;
          other_digits = digits-after f.others (n % 10) (mod-lt n (omega arith)) f.other_digits;
          lead = λ p. f.lead (omega (arith, div-add-mod' n 10, mod-lt n {m = 10} (omega arith)));
          alone = λ p. absurd (omega arith);
        }

-- A byte of a digit is no `-`.
digit-not-minus : (b : ℕ) → is_digit b ≡ true → eqb b 45 ≡ false
digit-not-minus b e = by (leb 48 b) refl e
  where
    by : (t : Bool) → leb 48 b ≡ t → t && leb b 57 ≡ true → eqb b 45 ≡ false
    by true p q = let h = leb-true 48 b p in ne_eqb b 45 (λ z. omega arith)
    by false p q = let y : ◌≡◌ {A = ℕ} 0 1 = cc in absurd (omega arith)

form-natural : (n : ℕ) (f : Form n) → is_natural (f.first ∷ f.others) ≡ true
unfolding is_natural
form-natural zero f = ap₂ (λ s t. s && t && (not (eqb f.first 48) || is_empty f.others)) f.first_digit f.other_digits ∙ ap (λ l. not (eqb f.first 48) || is_empty l) (f.alone (omega arith)) ∙ or_true (not (eqb f.first 48))
form-natural (suc n) f = ap₂ (λ s t. s && t && (not (eqb f.first 48) || is_empty f.others)) f.first_digit f.other_digits ∙ ap (λ t. not t || is_empty f.others) (f.lead (omega arith))

not-zero-text : (b : ℕ) (l : List ℕ) → eqb b 48 ≡ false → not (same_bytes (b ∷ l) (48 ∷ [])) ≡ true
not-zero-text b l e = ap (λ t. not (t && same_bytes l [])) e

-- "An integer is digits with an optional `-` before them; a leading zero stands only in `0`, and `-0` is no integer."
pub decimal-integer : (z : ℤ) → is_integer (decimal z) ≡ true
unfolding is_integer
decimal-integer (pos n) =
    let f = form n in
    ap is_integer f.whole ∙ ap (λ t. cond t (is_natural f.others && not (same_bytes f.others (48 ∷ []))) (is_natural (f.first ∷ f.others))) (digit-not-minus f.first f.first_digit)
    ∙ form-natural n f
decimal-integer (negsuc n) =
    let f = form (suc n) in
    ap (λ l. is_natural l && not (same_bytes l (48 ∷ []))) f.whole
    ∙ ap₂ ◌&&◌ (form-natural (suc n) f) (not-zero-text f.first f.others (f.lead (omega arith)))

-- Reading gives the integer back.
pub decimal-value : (z : ℤ) → integer_value (decimal z) ≡ z
unfolding integer_value
decimal-value (pos n) =
    let f = form n in
    ap integer_value f.whole ∙ ap (λ t. cond t (neg_ℤ (pos (natural_from 0 f.others))) (pos (natural_from 0 (f.first ∷ f.others)))) (digit-not-minus f.first f.first_digit)
    ∙ ap (λ l. pos (natural_from 0 l)) (sym f.whole) ∙ ap pos (digits_value n)
decimal-value (negsuc n) = ap (λ m. neg_ℤ (pos m)) (digits_value (suc n))
