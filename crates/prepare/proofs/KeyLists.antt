-- Lists that loops fill from the front: copies, padded copies, images under a function, the letters of a window, and a key. From the laws of
-- lists alone.
use Prim.Native.Nat.{ℕ, suc, ◌+◌, ◌-◌, ◌*◌, ◌≤◌, ◌<◌}
use native.Mathlib.Omega.{arith}
use native.Mathlib.Nat.{zero-mul, suc-mul}
use native.Mathlib.Numerals.{add-one}
use native.Mathlib.Decide.{dec_lt}
use mathlib.Core.Path.{◌≡◌, refl, sym, ◌∙◌, ap}
use mathlib.Core.List.{List, [], ◌∷◌, ◌++◌, map, map-append, append_assoc, append-nil}
use lib.IntN.{ℤ}
use lib.ListN.{length, get_or, take, drop, set, replicate, length-append, length-drop, length-replicate, length-set, get_or-replicate, replicate-append-replicate, get_or-append, get_or-eq_default, drop_of_length-le}
use lib.Seq.{take-suc, take-suc-set, take-set-lt, set_split, get_or-take, get_or-append-add, get_or-append_seam, length-take-le, take_all, take-length, take-take, take_at, drop_at, drop-drop, take-append-add, paste, paste-suc, take-paste, drop-paste, length-paste}
use Rattle.sheet.specs.Refusal.{window_bound, first_bound}
use Rattle.sizes.specs.Room.{key_size}
use Rattle.prepare.specs.Key.{with_zeros, encoded_key}
use Rattle.prepare.specs.Prepared.{letter_at, window_of}
use Rattle.prepare.proofs.Parts.{part-long}

-- ---- images under a function

module _ {X Y : Type 0} (f : X → Y) where
  pub mapped_more : (from : List X) (to : List Y) (i : ℕ) (d : X) (v : Y) → i < length from → i < length to → v ≡ f (get_or from i d) → take i to ≡ map f (take i from)
      → take (i + 1) (set to i v) ≡ map f (take (i + 1) from)
  mapped_more from to i d v h k e t =
      ap (λ n. take n (set to i v)) (add-one i) ∙ take-suc-set to i v k
      ∙ (λ j. t j ++ (e j ∷ []))
      ∙ sym (map-append f (take i from) (get_or from i d ∷ []))
      ∙ ap (map f) (sym (take-suc from i d h) ∙ ap (λ n. take n from) (sym (add-one i)))

  pub mapped_all : (from : List X) (to : List Y) (i : ℕ) → i ≡ length from → take i to ≡ map f (take i from) → take (length from) to ≡ map f from
  mapped_all from to i e t = ap (λ n. take n to) (sym e) ∙ t ∙ ap (map f) (ap (λ n. take n from) e ∙ take_all (length from) from (omega arith))

-- ---- copies

pub copied_all : (to from : List ℕ) → length from ≤ length to → take (length from) (paste to 0 from (length from)) ≡ from
copied_all to from h =
    let e : 0 + length from ≡ length from = omega arith in
    ap (λ n. take n (paste to 0 from (length from))) (sym e) ∙ take-paste to 0 from (length from) (omega arith) (omega arith) ∙ take_all (length from) from (omega arith)

-- One more number is put after a copy.
pub copied_more : (to : List ℕ) (at : ℕ) (from : List ℕ) (x : ℕ) → at + length from < length to → set (paste to at from (length from)) (at + length from) x ≡ paste to at (from ++ (x ∷ [])) (length (from ++ (x ∷ [])))
copied_more to at from x h =
    let longer = from ++ (x ∷ []) in
    let n = length from in
    let e : length longer ≡ suc n = omega (arith, length-append from (x ∷ [])) in
    ap (λ l. set ((take at to ++ l) ++ drop (at + n) to) (at + n) x) (take_all n from (omega arith) ∙ sym (take_at from (x ∷ []) n refl))
    ∙ ap (set (paste to at longer n) (at + n)) (sym (get_or-append_seam from x [] 0))
    ∙ paste-suc to at longer n 0 h (omega arith) ∙ ap (paste to at longer) (sym e)

-- ---- padded copies

pub length-padded : (k : ℕ) (l : List ℕ) → length (with_zeros k l) ≡ k
length-padded k l = length-take-le k (l ++ replicate k 0) (omega (arith, length-append l (replicate k 0), length-replicate {A = ℕ} k 0))

pub get_or-padded : (k : ℕ) (l : List ℕ) (i : ℕ) → i < k → get_or (with_zeros k l) i 0 ≡ get_or l i 0
get_or-padded k l i h = get_or-take k (l ++ replicate k 0) i 0 h ∙ by (dec_lt i (length l))
  where
    by : Dec (i < length l) → get_or (l ++ replicate k 0) i 0 ≡ get_or l i 0
    by (yes b) = get_or-append l (replicate k 0) 0 i b
    by (no b) =
        let e : length l + (i - length l) ≡ i = omega arith in
        ap (λ n. get_or (l ++ replicate k 0) n 0) (sym e) ∙ get_or-append-add l (replicate k 0) (i - length l) 0
        ∙ get_or-replicate k (i - length l) 0 0 (omega arith) ∙ sym (get_or-eq_default l 0 {n = i} (omega arith))

abbrev zeros : ℕ → List ℕ
zeros n = replicate n 0

zeros-split : (n k : ℕ) → n ≤ k → zeros k ≡ zeros n ++ zeros (k - n)
zeros-split n k h =
    let e : n + (k - n) ≡ k = omega arith in
    sym (replicate-append-replicate n (k - n) 0 ∙ ap zeros e)

padded-zeros : (k : ℕ) (l : List ℕ) → length l ≤ k → with_zeros k l ≡ l ++ zeros (k - length l)
padded-zeros k l h =
    let e : length l + (k - length l) ≡ k = omega arith in
    let n = k - length l in
    ap (λ j. take j (l ++ zeros k)) (sym e) ∙ take-append-add l (zeros k) n
    ∙ ap (l ++◌) (ap (take n) (zeros-split n k (omega arith)) ∙ take_at (zeros n) (zeros (k - n)) n (length-replicate n 0))

-- Numbers that are put over zeros are padded by them.
module _ (d : List ℕ) (at k m : ℕ) (l : List ℕ) (fits : length l ≤ k) (inside : k ≤ m) (behind : drop at d ≡ zeros m) where
  zeros-from : (n : ℕ) → n ≤ m → drop (at + n) d ≡ zeros (m - n)
  zeros-from n h =
      sym (drop-drop n at d) ∙ ap (drop n) (behind ∙ zeros-split n m h) ∙ drop_at (zeros n) (zeros (m - n)) n (length-replicate n 0)

  beyond : drop (at + length l) d ≡ zeros (k - length l) ++ drop (at + k) d
  beyond =
      let e : m - length l - (k - length l) ≡ m - k = omega arith in
      zeros-from (length l) (omega arith) ∙ zeros-split (k - length l) (m - length l) (omega arith)
      ∙ ap (zeros (k - length l) ++◌) (ap zeros e ∙ sym (zeros-from k inside))

  pub put-over-zeros : paste d at l (length l) ≡ paste d at (with_zeros k l) k
  put-over-zeros =
      let pad = zeros (k - length l) in
      (λ i. (take at d ++ take_all (length l) l (omega arith) i) ++ beyond i)
      ∙ sym (append_assoc (take at d ++ l) pad (drop (at + k) d))
      ∙ ap (◌++ drop (at + k) d) (append_assoc (take at d) l pad ∙ ap (take at d ++◌) (sym (take_all k (with_zeros k l) (omega (arith, length-padded k l)) ∙ padded-zeros k l fits)))

-- ---- a key

module _ (key p q : List ℕ) (size marks : ℕ) (long : length key ≡ key_size) (lp : length p ≡ window_bound) (lq : length q ≡ first_bound) where
  abbrev with_letters : List ℕ
  with_letters = paste key 1 p 6

  abbrev with_firsts : List ℕ
  with_firsts = paste with_letters 7 q 8

  pub letters-long : length with_letters ≡ key_size
  letters-long = length-paste key 1 p 6 (omega arith) (omega arith) ∙ long

  pub firsts-long : length with_firsts ≡ key_size
  firsts-long = length-paste with_letters 7 q 8 (omega (arith, letters-long)) (omega arith) ∙ letters-long

  front : take 15 with_firsts ≡ get_or key 0 0 ∷ (p ++ q)
  front =
      take-paste with_letters 7 q 8 (omega (arith, letters-long)) (omega arith)
      ∙ (λ i. take-paste key 1 p 6 (omega arith) (omega arith) i ++ take_all 8 q (omega arith) i)
      ∙ (λ i. (take-suc key 0 0 (omega arith) i ++ take_all 6 p (omega arith) i) ++ q)

  pub key-written : set (set with_firsts 0 size) 15 marks ≡ size ∷ (p ++ (q ++ (marks ∷ [])))
  key-written =
      let l : length (set with_firsts 0 size) ≡ key_size = length-set with_firsts 0 size ∙ firsts-long in
      let rest : drop 16 (set with_firsts 0 size) ≡ [] = drop_of_length-le (set with_firsts 0 size) {i = 16} (omega arith) in
      set_split (set with_firsts 0 size) 15 marks (omega arith)
      ∙ (λ i. (take-set-lt 15 with_firsts 0 size (omega arith) ∙ ap (λ x. set x 0 size) front) i ++ (marks ∷ rest i))
      ∙ ap (size ∷◌) (append_assoc p q (marks ∷ []))

-- The letters are written over zeros: with one more after them, or none at all.
module _ (letters : List ℕ) (a count : ℕ) where
  abbrev held : List ℕ
  held = take count (letters ++ (a ∷ []))

  pub few_letters : count ≤ window_bound → (0 < count → count ≡ length letters + 1) → (count ≡ 0 → length letters ≡ 0) → length letters ≤ window_bound
  few_letters few some none = by (dec_lt 0 count)
    where
      by : Dec (0 < count) → length letters ≤ window_bound
      by (yes h) = omega (arith, some h)
      by (no h) = omega (arith, none (omega arith))

  pub letter-written : count ≤ window_bound → count ≡ length letters + 1 → set (paste (zeros key_size) 1 letters (length letters)) count a ≡ paste (zeros key_size) 1 held (length held)
  letter-written few e =
      let at : count ≡ 1 + length letters = omega arith in
      let all : held ≡ letters ++ (a ∷ []) = take_all count (letters ++ (a ∷ [])) (omega (arith, length-append letters (a ∷ []))) in
      ap (λ n. set (paste (zeros key_size) 1 letters (length letters)) n a) at ∙ copied_more (zeros key_size) 1 letters a (omega arith)
      ∙ ap (λ l. paste (zeros key_size) 1 l (length l)) (sym all)

  pub none_written : count ≡ 0 → length letters ≡ 0 → paste (zeros key_size) 1 letters (length letters) ≡ paste (zeros key_size) 1 held (length held)
  none_written e h =
      let none : held ≡ [] = ap (λ n. take n (letters ++ (a ∷ []))) e in
      ap (paste (zeros key_size) 1 letters) h ∙ sym (ap (λ l. paste (zeros key_size) 1 l (length l)) none)

-- A key is written over zeros.
pub key-over-zeros : (letters firsts : List ℕ) (size marks : ℕ) → length letters ≤ window_bound → length firsts ≤ first_bound
    → set (set (paste (paste (zeros key_size) 1 letters (length letters)) 7 firsts (length firsts)) 0 size) 15 marks ≡ encoded_key size letters firsts marks
unfolding encoded_key
key-over-zeros letters firsts size marks few_letters few_firsts =
    let blank = zeros key_size in
    let p = with_zeros window_bound letters in
    let q = with_zeros first_bound firsts in
    let letters-padded = length-padded window_bound letters in
    ap (λ (k : List ℕ). set (set k 0 size) 15 marks)
    (ap (λ (k : List ℕ). paste k 7 firsts (length firsts)) (put-over-zeros blank 1 window_bound 15 letters few_letters (omega arith) refl)
    ∙ put-over-zeros (paste blank 1 p window_bound) 7 first_bound 9 firsts few_firsts (omega arith) (drop-paste blank 1 p window_bound (omega arith) (omega arith)))
    ∙ key-written blank p q size marks refl letters-padded (length-padded first_bound firsts)

-- ---- the letters of a window

module _ (streams : ℕ) (values : List ℤ) where
  pub window_of-snoc : (l : List ℕ) (a : ℕ) → window_of streams values (l ++ (a ∷ [])) ≡ window_of streams values l ++ letter_at streams values a
  unfolding window_of
  window_of-snoc [] a = append-nil (letter_at streams values a)
  window_of-snoc (b ∷ l) a = ap (letter_at streams values b ++◌) (window_of-snoc l a) ∙ sym (append_assoc (letter_at streams values b) (window_of streams values l) (letter_at streams values a))

  pub window_of-none : window_of streams values [] ≡ []
  unfolding window_of
  window_of-none = refl

  -- As many values as the letters have, if they are there.
  pub window_of-long : (l : List ℕ) → ((p : ℕ) → p < length l → get_or l p 0 * streams + streams ≤ length values) → length (window_of streams values l) ≡ length l * streams
  unfolding window_of
  window_of-long [] h = sym (zero-mul streams)
  window_of-long (a ∷ l) h =
      let here : length (letter_at streams values a) ≡ streams = length-take-le streams (drop (a * streams) values) (omega (arith, length-drop (a * streams) values, h 0 (omega arith))) in
      omega (arith, length-append (letter_at streams values a) (window_of streams values l), here, window_of-long l (λ p b. h (suc p) (omega arith)), suc-mul (length l) streams)

  -- One letter's values are put into a window, as the first of those that are copied.
  module _ (copied a at from : ℕ) (window : List ℤ) (few : streams ≤ copied) (is : from ≡ a * streams) (inside : from + copied ≤ length values) (room : at + copied ≤ length window) where
    abbrev part : List ℤ
    part = take (from + copied - from) (drop from values)

    part-start : take streams part ≡ letter_at streams values a
    part-start =
        let e : from + copied - from ≡ copied = omega arith in
        ap (λ n. take streams (take n (drop from values))) e ∙ take-take streams copied (drop from values) few ∙ ap (λ n. take streams (drop n values)) is

    long : length part ≡ copied
    long = part-long values from copied inside

    pub letter-put : take (at + streams) (paste window at part (length part)) ≡ take at window ++ letter_at streams values a
    letter-put =
        let pasted = paste window at part (length part) in
        let front : length (take at window) + streams ≡ at + streams = omega (arith, length-take-le at window (omega arith)) in
        sym (take-take (at + streams) (at + length part) pasted (omega (arith, long)))
        ∙ ap (take (at + streams)) (take-paste window at part (length part) (omega arith) (omega arith) ∙ ap (take at window ++◌) (take-length part))
        ∙ ap (λ n. take n (take at window ++ part)) (sym front)
        ∙ take-append-add (take at window) part streams
        ∙ ap (take at window ++◌) part-start

    pub window_long : length (paste window at part (length part)) ≡ length window
    window_long = length-paste window at part (length part) (omega (arith, long)) (omega arith)

  -- What stands behind the values that are put there is as it was.
  pub behind_more : (a at from : ℕ) (window₀ window : List ℤ) → from ≡ a * streams → from + streams ≤ length values → at + streams ≤ length window → drop at window ≡ drop at window₀
      → drop (at + streams) (paste window at (take (from + streams - from) (drop from values)) (length (take (from + streams - from) (drop from values)))) ≡ drop (at + streams) window₀
  behind_more a at from window₀ window is inside room so_far =
      let put = take (from + streams - from) (drop from values) in
      let size : length put ≡ streams = part-long values from streams inside in
      ap (λ n. drop (at + n) (paste window at put (length put))) (sym size) ∙ drop-paste window at put (length put) (omega arith) (omega arith)
      ∙ ap (λ n. drop (at + n) window) size ∙ sym (drop-drop streams at window) ∙ ap (drop streams) so_far ∙ drop-drop streams at window₀

  pub window_more : (letters : List ℕ) (p at from : ℕ) (window : List ℤ) → p < length letters → from ≡ get_or letters p 0 * streams → from + streams ≤ length values
      → at + streams ≤ length window → take at window ≡ window_of streams values (take p letters)
      → take (at + streams) (paste window at (take (from + streams - from) (drop from values)) (length (take (from + streams - from) (drop from values)))) ≡ window_of streams values (take (p + 1) letters)
  window_more letters p at from window more is inside room so_far =
      letter-put streams (get_or letters p 0) at from window (omega arith) is inside room
      ∙ ap (◌++ letter_at streams values (get_or letters p 0)) so_far
      ∙ sym (window_of-snoc (take p letters) (get_or letters p 0))
      ∙ ap (window_of streams values) (sym (take-suc letters p 0 more) ∙ ap (λ n. take n letters) (sym (add-one p)))
