-- The number of a word tells it from every short word, so that a table of words can be searched by numbers. By induction over the bytes.
use Prim.Native.Nat.{ℕ, zero, suc, ◌+◌, ◌^◌, ◌≤◌, ◌<◌}
use mathlib.Core.Path.{◌≡◌, refl, sym, ap, ap₂, ◌∙◌}
use mathlib.Core.Bool.{Bool, true, false, cond, ◌&&◌, ◌||◌}
use mathlib.Core.List.{List, [], ◌∷◌, ◌++◌, map}
use mathlib.Core.Option.{Option, some, none}
use native.Mathlib.Omega.{arith}
use lib.Dec.{T, ltb, leb, eqb, ltb→lt, leb→le}
use lib.ListN.{length, drop, get_or}
use borrow.Author.Tests.{eq-eqb, ne_eqb}
use Rattle.basics.proofs.Tests.{and_left, and_right}
use Rattle.basics.proofs.Reflects.{reflects_same, to_true, to_false, eqb_reflects, ltb_reflects, ltb_suc}
use Rattle.text.specs.Bytes.{Token}
use Rattle.text.specs.Token.{all_bytes, is_one_of}
use Rattle.text.proofs.Token.{same_bytes_reflects}
use Rattle.sheet.specs.Vocabulary.{look_up}
use Rattle.sheet.proofs.Vocabulary.{all_keys}
use Rattle.scan.proofs.Tokens.{drop_at, drop-end, drop_past}
use Rattle.vocabulary.specs.Word.{word_number, is_short, TellsWord, code_or255, word_place}

abbrev pub AreBytes : List ℕ → Type 0
AreBytes l = (i : ℕ) → get_or l i 0 < 256

pub word-positive : (l : Token) → 0 < word_number l
unfolding word_number
word-positive [] = omega arith
word-positive (b ∷ l) = let z = word-positive l in omega arith

power_positive : (n : ℕ) → 0 < 256 ^ n
power_positive zero = omega arith
power_positive (suc n) = let z = power_positive n in omega arith

pub word_below : (l : Token) (n : ℕ) → length l ≤ n → AreBytes l → word_number l < 256 ^ suc n
unfolding word_number
word_below [] n h k = let z : 0 < 256 ^ n = power_positive n in omega arith
word_below (b ∷ l) zero h k = absurd (omega arith)
word_below (b ∷ l) (suc n) h k = let z = word_below l n (omega arith) (λ i. k (suc i)) in let w : b < 256 = k 0 in omega arith

word_injective : (w t : Token) → T (all_bytes (λ b. ltb b 256) w) → AreBytes t → word_number t ≡ word_number w → w ≡ t
unfolding word_number
word_injective [] [] h k e = refl
word_injective [] (c ∷ t) h k e = let z = word-positive t in absurd (omega arith)
word_injective (b ∷ w) [] h k e = let z = word-positive w in absurd (omega arith)
word_injective (b ∷ w) (c ∷ t) h k e =
    let low : b < 256 = ltb→lt b 256 (and_left (ltb b 256) (all_bytes (λ a. ltb a 256) w) h) in
    let high : c < 256 = k 0 in
    let first : b ≡ c = omega arith in
    let others : word_number t ≡ word_number w = omega arith in
    ap₂ ◌∷◌ first (word_injective w t (and_right (ltb b 256) (all_bytes (λ a. ltb a 256) w) h) (λ i. k (suc i)) others)

pub tells-word : (t : Token) → AreBytes t → TellsWord t (word_number t)
tells-word t k = record { same = λ w h. reflects_same (same_bytes_reflects w t) (eqb_reflects (word_number t) (word_number w)) (λ e. ap word_number (sym e)) (word_injective w t (and_left (all_bytes (λ b. ltb b 256) w) (leb (length w) 7) h) k) }

-- 0 is the number of no word.
pub tells-long : (t : Token) → 7 < length t → TellsWord t 0
tells-long t l =
    record {
      same = λ w h.
          let short : length w ≤ 7 = leb→le (length w) 7 (and_right (all_bytes (λ b. ltb b 256) w) (leb (length w) 7) h) in
          let z = word-positive w in
          to_false (same_bytes_reflects w t) (λ e. let same : length w ≡ length t = ap length e in omega arith) ∙ sym (to_false (eqb_reflects 0 (word_number w)) (λ e. omega arith));
    }

-- ---- a table of words, searched by their numbers

pub place_within : (ms : List ℕ) (n : ℕ) → word_place ms n ≤ length ms
unfolding word_place
place_within [] n = omega arith
place_within (m ∷ ms) n = by (eqb n m) (place_within ms n)
  where
    by : (b : Bool) → word_place ms n ≤ length ms → cond b 0 (suc (word_place ms n)) ≤ suc (length ms)
    by true h = omega arith
    by false h = omega arith

-- From a place on: the number stands there, or is searched behind it.
module _ (ms : List ℕ) (n i : ℕ) (h : i < length ms) where
  pub number-here : get_or ms i 0 ≡ n → word_place (drop i ms) n ≡ 0
  unfolding word_place
  number-here e = ap (λ l. word_place l n) (drop_at ms i h) ∙ ap (λ b. cond b 0 (suc (word_place (drop (i + 1) ms) n))) (eq-eqb n (get_or ms i 0) (sym e))

  pub number-later : (get_or ms i 0 ≡ n → ⊥) → word_place (drop i ms) n ≡ suc (word_place (drop (i + 1) ms) n)
  unfolding word_place
  number-later e = ap (λ l. word_place l n) (drop_at ms i h) ∙ ap (λ b. cond b 0 (suc (word_place (drop (i + 1) ms) n))) (ne_eqb n (get_or ms i 0) (λ q. e (sym q)))

pub number-end : (ms : List ℕ) (n i : ℕ) → length ms ≤ i → word_place (drop i ms) n ≡ 0
unfolding word_place
number-end ms n i h = ap (λ l. word_place l n) (drop_past ms i h ∙ drop-end ms)

-- The numbers of a table's words, and the codes of what stands beside them, with 255 behind them.
abbrev pub numbers_in : {X : Type 0} → List (Token × X) → List ℕ
numbers_in es = map (λ e. word_number e.0) es

abbrev pub codes_in : {X : Type 0} → (X → ℕ) → List (Token × X) → List ℕ
codes_in f es = map (λ e. f e.1) es ++ (255 ∷ [])

abbrev pub all_short : List Token → Bool
all_short [] = true
all_short (w ∷ ws) = is_short w && all_short ws

module _ {t : Token} {n : ℕ} (k : TellsWord t n) where
  code-place : {X : Type 0} (f : X → ℕ) (es : List (Token × X)) → T (all_keys is_short es) → get_or (codes_in f es) (word_place (numbers_in es) n) 0 ≡ code_or255 f (look_up es t)
  unfolding word_place
  code-place f [] h = refl
  code-place {X} f (e ∷ es) h =
      by (eqb n (word_number e.0)) (code-place f es (and_right (is_short e.0) (all_keys is_short es) h))
      ∙ ap (λ b. code_or255 f (cond b (some e.1) (look_up es t))) (sym (k.same e.0 (and_left (is_short e.0) (all_keys is_short es) h)))
    where
      by : (b : Bool) → get_or (codes_in f es) (word_place (numbers_in es) n) 0 ≡ code_or255 f (look_up es t)
          → get_or (f e.1 ∷ codes_in f es) (cond b 0 (suc (word_place (numbers_in es) n))) 0 ≡ code_or255 f (cond b (some e.1) (look_up es t))
      by true q = refl
      by false q = q

  -- What stands in a stored table of codes at the place of a token's number in the stored table of numbers is the token's code.
  pub code-found : {X : Type 0} (f : X → ℕ) (es : List (Token × X)) → T (all_keys is_short es) → {numbers codes : List ℕ} → numbers ≡ numbers_in es → codes ≡ codes_in f es
      → {p : ℕ} → p ≡ word_place numbers n → get_or codes p 0 ≡ code_or255 f (look_up es t)
  code-found f es h {numbers} {codes} a b {p} e =
      ap (λ i. get_or codes i 0) (e ∙ ap (λ l. word_place l n) a) ∙ ap (λ l. get_or l (word_place (numbers_in es) n) 0) b ∙ code-place f es h

  -- A token is one of the words exactly if its number has a place in the table.
  pub member-place : (ws : List Token) → T (all_short ws) → ltb (word_place (map word_number ws) n) (length ws) ≡ is_one_of ws t
  unfolding word_place
  member-place [] h = refl
  member-place (w ∷ ws) h =
      by (eqb n (word_number w)) (member-place ws (and_right (is_short w) (all_short ws) h)) ∙ ap (λ b. b || is_one_of ws t) (sym (k.same w (and_left (is_short w) (all_short ws) h)))
    where
      by : (b : Bool) → ltb (word_place (map word_number ws) n) (length ws) ≡ is_one_of ws t → ltb (cond b 0 (suc (word_place (map word_number ws) n))) (suc (length ws)) ≡ (b || is_one_of ws t)
      by true q = to_true (ltb_reflects 0 (suc (length ws))) (omega arith)
      by false q = ltb_suc (word_place (map word_number ws) n) (length ws) ∙ q

-- What a table's number says: 255 where the table has nothing, as no number in it is as large.
module _ {X : Type 0} (f : X → ℕ) where
  pub code-none : ((x : X) → f x < 255) → (o : Option X) → code_or255 f o ≡ 255 → o ≡ none
  code-none small none e = refl
  code-none small (some x) e = let z = small x in absurd (omega arith)

  pub code-some : (o : Option X) → (code_or255 f o ≡ 255 → ⊥) → (x : X) × (o ≡ some x) × (code_or255 f o ≡ f x)
  code-some none n = absurd (n refl)
  code-some (some x) n = (x, refl, refl)
