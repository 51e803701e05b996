-- Keys of records of letters in range are equal exactly if their situations are, where a key has room for the letters and the firsts and the
-- values of the firsts are none or within the magnitude bound. From the parts of a key, one by one.
use Prim.Native.Nat.{ℕ, zero, suc, ◌-◌, ◌≤◌, ◌<◌, min}
use native.Mathlib.Omega.{arith}
use native.Mathlib.Decide.{dec_le}
use mathlib.Core.Path.{◌≡◌, refl, sym, ◌∙◌, ap, ap₂}
use mathlib.Core.Bool.{Bool, true, false, cond}
use mathlib.Core.List.{List, [], ◌∷◌, ◌++◌, map}
use lib.ListN.{length, get_or, take, drop, replicate, length-drop, length-map}
use lib.Seq.{take-take, take-append_seam, take_at, drop_at}
use borrow.Author.Tests.{le-leb, lt-leb}
use Rattle.basics.specs.Lists.{All}
use Rattle.sheet.specs.Refusal.{window_bound, first_bound}
use Rattle.automaton.specs.Words.{AllBelow}
use Rattle.meaning.specs.Value.{Value}
use Rattle.meaning.specs.Expression.{Stream, Sheet}
use Rattle.meaning.specs.Letter.{Record, letter_count, letter_number, letter_of, record_of}
use Rattle.meaning.specs.Window.{all_firsts, all_untils}
use Rattle.meaning.specs.Situation.{first_values, until_marks, whole, cut}
use Rattle.meaning.proofs.Letter.{letter_number-letter_of}
use Rattle.meaning.proofs.Lawful.{situation-whole, situation-cut, whole_injective, cut_injective, whole≢cut}
use Rattle.nodes.specs.Bounded.{stored_value, SmallValue}
use Rattle.prepare.specs.Key.{with_zeros, encoded_key, raised, lowered, marks_number, width, key_of}
use Rattle.explore.specs.Rows.{situation_of, letter_numbers}
use Rattle.prepare.proofs.KeyLists.{length-padded}
use Rattle.prepare.proofs.KeyNumbers.{stored-raised}

-- ---- the parts of a key

pub padded-take : (k : ℕ) (l : List ℕ) → length l ≤ k → take (length l) (with_zeros k l) ≡ l
padded-take k l h = take-take (length l) k (l ++ replicate k 0) h ∙ take-append_seam l (replicate k 0)

padded_injective : (k : ℕ) (l m : List ℕ) → length l ≡ length m → length l ≤ k → with_zeros k l ≡ with_zeros k m → l ≡ m
padded_injective k l m e h p =
    sym (padded-take k l h) ∙ (λ i. take (e i) (p i)) ∙ padded-take k m (omega arith)

encoded_injective : (n n' : ℕ) (l l' f f' : List ℕ) (m m' : ℕ) → encoded_key n l f m ≡ encoded_key n' l' f' m'
    → (n ≡ n') × (with_zeros window_bound l ≡ with_zeros window_bound l') × (with_zeros first_bound f ≡ with_zeros first_bound f') × (m ≡ m')
unfolding encoded_key
encoded_injective n n' l l' f f' m m' e =
    let tails : with_zeros window_bound l ++ (with_zeros first_bound f ++ (m ∷ [])) ≡ with_zeros window_bound l' ++ (with_zeros first_bound f' ++ (m' ∷ [])) = ap (drop 1) e in
    let rest : with_zeros first_bound f ++ (m ∷ []) ≡ with_zeros first_bound f' ++ (m' ∷ []) =
    sym (drop_at (with_zeros window_bound l) (with_zeros first_bound f ++ (m ∷ [])) window_bound (length-padded window_bound l)) ∙ ap (drop window_bound) tails ∙ drop_at (with_zeros window_bound l') (with_zeros first_bound f' ++ (m' ∷ [])) window_bound (length-padded window_bound l') in
    let last : m ∷ [] ≡ m' ∷ [] =
    sym (drop_at (with_zeros first_bound f) (m ∷ []) first_bound (length-padded first_bound f)) ∙ ap (drop first_bound) rest ∙ drop_at (with_zeros first_bound f') (m' ∷ []) first_bound (length-padded first_bound f') in (
      ap (λ k. get_or k 0 0) e,
      sym (take_at (with_zeros window_bound l) (with_zeros first_bound f ++ (m ∷ [])) window_bound (length-padded window_bound l)) ∙ ap (take window_bound) tails ∙ take_at (with_zeros window_bound l') (with_zeros first_bound f' ++ (m' ∷ [])) window_bound (length-padded window_bound l'),
      sym (take_at (with_zeros first_bound f) (m ∷ []) first_bound (length-padded first_bound f)) ∙ ap (take first_bound) rest ∙ take_at (with_zeros first_bound f') (m' ∷ []) first_bound (length-padded first_bound f'),
      ap (λ k. get_or k 0 0) last,
    )

marks_injective : (l m : List Bool) → length l ≡ length m → marks_number l ≡ marks_number m → l ≡ m
unfolding marks_number
marks_injective [] [] h e = refl
marks_injective [] (b ∷ m) h e = let z : ◌≡◌ {A = ℕ} 0 1 = omega arith in absurd (omega arith)
marks_injective (b ∷ l) [] h e = let z : ◌≡◌ {A = ℕ} 0 1 = omega arith in absurd (omega arith)
marks_injective (true ∷ l) (true ∷ m) h e = ap (true ∷◌) (marks_injective l m (omega arith) (omega arith))
marks_injective (false ∷ l) (false ∷ m) h e = ap (false ∷◌) (marks_injective l m (omega arith) (omega arith))
marks_injective (true ∷ l) (false ∷ m) h e = absurd (omega arith)
marks_injective (false ∷ l) (true ∷ m) h e = absurd (omega arith)

-- What the numbers in a key that are made of values stand for.
abbrev pub read_back : List ℕ → List Value
read_back l = map stored_value (map lowered l)

-- Values are read back as they were.
pub stored-all : (l : List Value) → All SmallValue l → read_back (map raised l) ≡ l
stored-all [] h = refl
stored-all (v ∷ l) h = ap₂ ◌∷◌ (stored-raised v h.0) (stored-all l h.1)

-- ---- letter numbers

numbers-back : (ss : List Stream) (r : List ℕ) → AllBelow (letter_count ss) r → map (letter_number ss) (record_of ss r) ≡ r
numbers-back ss [] h = refl
numbers-back ss (a ∷ r) h = ap₂ ◌∷◌ (letter_number-letter_of ss a h.0) (numbers-back ss r h.1)

record_injective : (ss : List Stream) (r t : List ℕ) → AllBelow (letter_count ss) r → AllBelow (letter_count ss) t → record_of ss r ≡ record_of ss t → r ≡ t
record_injective ss r t h k e = sym (numbers-back ss r h) ∙ ap (map (letter_number ss)) e ∙ numbers-back ss t k

pub drop-below : (k n : ℕ) (r : List ℕ) → AllBelow k r → AllBelow k (drop n r)
drop-below k zero r h = h
drop-below k (suc n) [] h = h
drop-below k (suc n) (a ∷ r) h = drop-below k n r h.1

pub drop_record : (ss : List Stream) (n : ℕ) (r : List ℕ) → drop n (record_of ss r) ≡ record_of ss (drop n r)
drop_record ss zero r = refl
drop_record ss (suc n) [] = refl
drop_record ss (suc n) (a ∷ r) = drop_record ss n r

-- ---- keys and situations

module _ (s : Sheet) where
  abbrev w : ℕ
  w = width s

  abbrev records : List ℕ → Record
  records r = record_of s.streams r

  abbrev values : List ℕ → List Value
  values r = first_values s.constraints (records r)

  abbrev marks : List ℕ → List Bool
  marks r = until_marks s.constraints (records r)

  pub record_long : (r : List ℕ) → length (records r) ≡ length r
  record_long r = length-map r (letter_of s.streams)

  pub key-whole : (r : List ℕ) → length r ≤ w → key_of s r ≡ encoded_key (length r) r [] (marks_number (marks r))
  unfolding key_of
  key-whole r h =
      let size : min (length r) (suc w) ≡ length r = omega arith in
      let none : length r - w ≡ 0 = omega arith in
      (λ i. encoded_key (size i) (drop (none i) r) (cond (le-leb (length r) w h i) [] (map raised (values r))) (marks_number (marks r)))

  pub key-cut : (r : List ℕ) → w < length r → key_of s r ≡ encoded_key (suc w) (drop (length r - w) r) (map raised (values r)) (marks_number (marks r))
  unfolding key_of
  key-cut r h =
      let size : min (length r) (suc w) ≡ suc w = omega arith in
      (λ i. encoded_key (size i) (drop (length r - w) r) (cond (lt-leb (length r) w h i) [] (map raised (values r))) (marks_number (marks r)))

  shown-whole : (r : List ℕ) → length r ≤ w → situation_of s r ≡ whole (records r)
  shown-whole r h = situation-whole s.constraints (records r) (omega (arith, record_long r))

  shown-cut : (r : List ℕ) → w < length r → situation_of s r ≡ cut (records (drop (length r - w) r)) (values r) (marks r)
  shown-cut r h =
      situation-cut s.constraints (records r) (omega (arith, record_long r))
      ∙ ap (λ n. cut (drop (n - w) (records r)) (values r) (marks r)) (record_long r)
      ∙ ap (λ l. cut l (values r) (marks r)) (drop_record s.streams (length r - w) r)

  -- Equal situations have equal keys.
  pub situation_key : (r t : List ℕ) → AllBelow (letter_numbers s) r → AllBelow (letter_numbers s) t → situation_of s r ≡ situation_of s t → key_of s r ≡ key_of s t
  situation_key r t hr ht e = by (dec_le (length r) w) (dec_le (length t) w)
    where
      by : Dec (length r ≤ w) → Dec (length t ≤ w) → key_of s r ≡ key_of s t
      by (yes a) (yes b) = ap (key_of s) (record_injective s.streams r t hr ht (whole_injective (sym (shown-whole r a) ∙ e ∙ shown-whole t b)))
      by (yes a) (no b) = absurd (whole≢cut (sym (shown-whole r a) ∙ e ∙ shown-cut t (omega arith)))
      by (no a) (yes b) = absurd (whole≢cut (sym (shown-whole t b) ∙ sym e ∙ shown-cut r (omega arith)))
      by (no a) (no b) =
          let c = cut_injective (sym (shown-cut r (omega arith)) ∙ e ∙ shown-cut t (omega arith)) in
          let letters = record_injective s.streams (drop (length r - w) r) (drop (length t - w) t) (drop-below _ (length r - w) r hr) (drop-below _ (length t - w) t ht) c.0 in
          key-cut r (omega arith) ∙ (λ i. encoded_key (suc w) (letters i) (map raised (c.1 i)) (marks_number (c.2 i))) ∙ sym (key-cut t (omega arith))

  pub firsts-long : (r : List ℕ) → length (map raised (values r)) ≡ length (all_firsts s.constraints)
  unfolding first_values
  firsts-long r = length-map (values r) raised ∙ length-map (all_firsts s.constraints) _

  marks-long : (r : List ℕ) → length (marks r) ≡ length (all_untils s.constraints)
  unfolding until_marks
  marks-long r = length-map (all_untils s.constraints) _

  -- Equal keys have equal situations.
  module _ (narrow : width s ≤ window_bound) (few : length (all_firsts s.constraints) ≤ first_bound)
      (bounded : (r : List ℕ) → AllBelow (letter_numbers s) r → width s < length r → All SmallValue (first_values s.constraints (record_of s.streams r))) where
    pub key_situation : (r t : List ℕ) → AllBelow (letter_numbers s) r → AllBelow (letter_numbers s) t → key_of s r ≡ key_of s t → situation_of s r ≡ situation_of s t
    key_situation r t hr ht e = by (dec_le (length r) w) (dec_le (length t) w)
      where
        by : Dec (length r ≤ w) → Dec (length t ≤ w) → situation_of s r ≡ situation_of s t
        by (yes a) (yes b) =
            let p = encoded_injective _ _ _ _ _ _ _ _ (sym (key-whole r a) ∙ e ∙ key-whole t b) in
            ap (situation_of s) (padded_injective window_bound r t p.0 (omega arith) p.1)
        by (yes a) (no b) = let p = encoded_injective _ _ _ _ _ _ _ _ (sym (key-whole r a) ∙ e ∙ key-cut t (omega arith)) in absurd (omega (arith, p.0))
        by (no a) (yes b) = let p = encoded_injective _ _ _ _ _ _ _ _ (sym (key-whole t b) ∙ sym e ∙ key-cut r (omega arith)) in absurd (omega (arith, p.0))
        by (no a) (no b) =
            let p = encoded_injective _ _ _ _ _ _ _ _ (sym (key-cut r (omega arith)) ∙ e ∙ key-cut t (omega arith)) in
            let letters = padded_injective window_bound (drop (length r - w) r) (drop (length t - w) t) (omega (arith, length-drop (length r - w) r, length-drop (length t - w) t)) (omega (arith, length-drop (length r - w) r)) p.1 in
            let numbers = padded_injective first_bound (map raised (values r)) (map raised (values t)) (firsts-long r ∙ sym (firsts-long t)) (omega (arith, firsts-long r)) p.2 in
            let firsts : values r ≡ values t = sym (stored-all (values r) (bounded r hr (omega arith))) ∙ ap read_back numbers ∙ stored-all (values t) (bounded t ht (omega arith)) in
            let told = marks_injective (marks r) (marks t) (marks-long r ∙ sym (marks-long t)) p.3 in
            shown-cut r (omega arith) ∙ (λ i. cut (records (letters i)) (firsts i) (told i)) ∙ sym (shown-cut t (omega arith))
