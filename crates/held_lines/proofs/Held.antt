-- How many lines hold a value of a stream, from the counts of the letters, is how many value lines hold it. From the laws of sums (Sums) and of the digits
-- of a letter's number (Digits), by induction over the lines.
use Prim.Native.Nat.{ℕ, suc, ◌+◌, ◌*◌, ◌/◌, ◌%◌, ◌≤◌, ◌<◌}
use native.Mathlib.Omega.{arith}
use native.Mathlib.Decide.{ℕ_discrete}
use native.Mathlib.Nat.{mul_assoc}
use mathlib.Core.Path.{◌≡◌, refl, sym, ◌∙◌, ap, ap₂, subst}
use mathlib.Core.Bool.{Bool, true, false, cond}
use mathlib.Core.List.{List, [], ◌∷◌, map}
use lib.Arith.{digits_lt}
use lib.Dec.{eqb}
use lib.IntN.{pos, ◌+ℤ◌}
use lib.ListN.{length, get_or, take, drop, replicate, length-replicate}
use lib.Seq.{get_or-set_same, get_or-set_other}
use borrow.Author.Tests.{lt-ltb, eq-eqb, ne_eqb}
use Rattle.basics.specs.Lists.{All}
use Rattle.basics.proofs.Clearing.{zeros}
use Rattle.meaning.specs.Expression.{Stream, range_of}
use Rattle.meaning.specs.Letter.{IsLetter, size, letter_count, letter_number}
use Rattle.meaning.proofs.Letter.{letter-within, letter_number-bound}
use Rattle.letters.specs.Described.{cut_count}
use Rattle.records.specs.Line.{line_values, record_of_lines, letters_of}
use Rattle.records.specs.Machine.{stream_at}
use Rattle.record_lines.specs.Runs.{one_more}
use Rattle.held_lines.specs.Counts.{how_many, holds_value, lines_holding}
use Rattle.held_lines.specs.Held.{raised_count}
use Rattle.held_lines.specs.Held.{cut_lines, sum_below, blocks_lines, stream_lines, digit_lines, held_lines}
use Rattle.held_lines.proofs.Raised.{raised-length}
use Rattle.held_lines.proofs.Sums.{cut_sum, hit, sum_same, sum_add, sum-none, blocks_hit}
use Rattle.held_lines.proofs.Digits.{count_at, count-around, factors, number-digit, value-digit}

-- ---- how many members pass a test

module _ {X : Type 0} where
  pub how_many-more : (test : X → Bool) (x : X) (xs : List X) → how_many test (x ∷ xs) ≡ cond (test x) 1 0 + how_many test xs
  unfolding how_many
  how_many-more test x xs = by (test x)
    where
      by : (t : Bool) → cond t (suc (how_many test xs)) (how_many test xs) ≡ cond t 1 0 + how_many test xs
      by true = omega arith
      by false = omega arith

  pub how_many-few : (test : X → Bool) (xs : List X) → how_many test xs ≤ length xs
  unfolding how_many
  how_many-few test [] = omega arith
  how_many-few test (x ∷ xs) = by (test x) (how_many-few test xs)
    where
      by : (t : Bool) → how_many test xs ≤ length xs → cond t (suc (how_many test xs)) (how_many test xs) ≤ suc (length xs)
      by true h = omega arith
      by false h = omega arith

  -- Tests that agree on each member.
  pub how_many-same : (test other : X → Bool) (xs : List X) → All (λ x. test x ≡ other x) xs → how_many test xs ≡ how_many other xs
  unfolding how_many
  how_many-same test other [] h = refl
  how_many-same test other (x ∷ xs) h = ap₂ (λ t n. cond t (suc n) n) h.0 (how_many-same test other xs h.1)

how_many-map : {X Y : Type 0} (test : Y → Bool) (f : X → Y) (xs : List X) → how_many test (map f xs) ≡ how_many (λ x. test (f x)) xs
unfolding how_many
how_many-map test f [] = refl
how_many-map test f (x ∷ xs) = ap (λ n. cond (test (f x)) (suc n) n) (how_many-map test f xs)

-- ---- the counts of letters

-- One more line for each letter.
abbrev pub raised_by : List ℕ → List ℕ → List ℕ
raised_by counts [] = counts
raised_by counts (n ∷ ns) = raised_by (raised_count counts n) ns

-- A count stays at the highest number of the machine, so that it is told up to there.
raised_at : (counts : List ℕ) (n a : ℕ) → a < length counts → cut_lines (get_or (raised_count counts n) a 0) ≡ cut_lines (get_or counts a 0 + hit a n)
raised_at counts n a known = by (ℕ_discrete a n)
  where
    by : Dec (a ≡ n) → cut_lines (get_or (raised_count counts n) a 0) ≡ cut_lines (get_or counts a 0 + hit a n)
    by (yes e) =
        let v : get_or (raised_count counts n) n 0 ≡ one_more (get_or counts n 0) = get_or-set_same counts n (one_more (get_or counts n 0)) 0 (subst (λ m. m < length counts) e known) in
        let x = ap (λ m. get_or (raised_count counts n) m 0) e in
        let y = ap (λ m. get_or counts m 0) e in
        let one : hit a n ≡ 1 = ap (λ t. cond t 1 0) (eq-eqb a n e) in
        omega arith
    by (no e) =
        let v : get_or (raised_count counts n) a 0 ≡ get_or counts a 0 = get_or-set_other counts n a (one_more (get_or counts n 0)) 0 e in
        let none : hit a n ≡ 0 = ap (λ t. cond t 1 0) (ne_eqb a n e) in
        omega arith

-- A letter's count is how many of the letters are this one, for any number of letters.
raised_all : (ns counts : List ℕ) (a : ℕ) → a < length counts → cut_lines (get_or (raised_by counts ns) a 0) ≡ cut_lines (get_or counts a 0 + how_many (eqb a) ns)
unfolding how_many
raised_all [] counts a known = omega arith
raised_all (n ∷ ns) counts a known =
    let one = raised_at counts n a known in
    let more = how_many-more (eqb a) n ns in
    let rest = raised_all ns (raised_count counts n) a (omega (arith, raised-length counts n)) in
    omega arith

-- ---- the letters that hold a value

module _ (before size behind digit : ℕ) (some : 0 < behind) (known : digit < size) where
  abbrev place : ℕ → ℕ → ℕ
  place i j = (i * size + digit) * behind + j

  place-below : (i j : ℕ) → i < before → j < behind → place i j < before * (size * behind)
  place-below i j h k = subst (λ m. place i j < m) (mul_assoc before size behind) (digits_lt (digits_lt h known) k)

  -- The sum over the letters with this digit of how many of the numbers are each.
  abbrev times_sum : List ℕ → ℕ
  times_sum ns = sum_below (λ i. sum_below (λ j. how_many (eqb (place i j)) ns) behind) before

  times-digit : (ns : List ℕ) → All (λ n. n < before * (size * behind)) ns → times_sum ns ≡ how_many (λ n. eqb (n / behind % size) digit) ns
  unfolding how_many
  times-digit [] h = sum-none (λ i. sum_below (λ j. 0) behind) before (λ i b. sum-none (λ j. 0) behind (λ j d. refl))
  times-digit (n ∷ ns) h =
      sum_same (λ i. sum_below (λ j. how_many (eqb (place i j)) (n ∷ ns)) behind) (λ i. sum_below (λ j. hit (place i j) n) behind + sum_below (λ j. how_many (eqb (place i j)) ns) behind) before
      (λ i b.
      sum_same (λ j. how_many (eqb (place i j)) (n ∷ ns)) (λ j. hit (place i j) n + how_many (eqb (place i j)) ns) behind (λ j d. how_many-more (eqb (place i j)) n ns)
      ∙ sum_add (λ j. hit (place i j) n) (λ j. how_many (eqb (place i j)) ns) behind)
      ∙ sum_add (λ i. sum_below (λ j. hit (place i j) n) behind) (λ i. sum_below (λ j. how_many (eqb (place i j)) ns) behind) before
      ∙ ap₂ ◌+◌ (blocks_hit before size behind digit n some known h.0) (times-digit ns h.1)
      ∙ sym (how_many-more (λ m. eqb (m / behind % size) digit) n ns)

  -- From the counts after these letters.
  blocks_counted : (room : ℕ) → before * (size * behind) ≤ room → (ns : List ℕ) → All (λ n. n < before * (size * behind)) ns
      → cut_lines (blocks_lines (raised_by (replicate room 0) ns) before size behind digit) ≡ cut_lines (how_many (λ n. eqb (n / behind % size) digit) ns)
  blocks_counted room fits ns h =
      let counts = raised_by (replicate room 0) ns in
      cut_sum (λ i. sum_below (λ j. get_or counts (place i j) 0) behind) (λ i. sum_below (λ j. how_many (eqb (place i j)) ns) behind) before
      (λ i b.
      cut_sum (λ j. get_or counts (place i j) 0) (λ j. how_many (eqb (place i j)) ns) behind
      (λ j d.
      let z = zeros room (place i j) in
      let p = place-below i j b d in
      let l : length (replicate {A = ℕ} room 0) ≡ room = length-replicate room 0 in
      let e = raised_all ns (replicate room 0) (place i j) (omega arith) in
      omega arith))
      ∙ ap cut_lines (times-digit ns h)

-- ---- the lines that hold a value

module _ (ss : List Stream) where
  -- The lines have the values of letters.
  abbrev pub HaveLetters : List (List ℕ) → Type 0
  HaveLetters ls = All (λ l. IsLetter ss (line_values l)) ls

module _ (ss : List Stream) (bounded : letter_count ss ≤ 1024) (some : 0 < letter_count ss) where
  letters-below : (ls : List (List ℕ)) → HaveLetters ss ls → {n : ℕ} → letter_count ss ≡ n → All (λ m. m < n) (letters_of ss ls)
  letters-below [] h e = tt
  letters-below (l ∷ ls) h e = (subst (λ n. letter_number ss (line_values l) < n) e (letter_number-bound h.0), letters-below ls h.1 e)

  module _ (k digit : ℕ) (there : k < length ss) (known : digit < size (range_of ss k)) where
    same_test : (ls : List (List ℕ)) → HaveLetters ss ls
        → All (λ l. eqb (letter_number ss (line_values l) / letter_count (drop (suc k) ss) % size (range_of ss k)) digit ≡ holds_value k ((range_of ss k).low +ℤ pos digit) l) ls
    same_test [] h = tt
    same_test (l ∷ ls) h =
        (ap (λ n. eqb n digit) (number-digit h.0 k there) ∙ sym (value-digit (range_of ss k).low (get_or (line_values l) k (pos 0)) (letter-within h.0 k there).above digit), same_test ls h.1)

    -- "how many value lines hold it", for any number of lines: a count is exact up to the highest number of the machine, and stays there.
    pub held-counted : (ls : List (List ℕ)) → HaveLetters ss ls
        → held_lines (raised_by (replicate 1024 0) (letters_of ss ls)) ss k digit ≡ cut_lines (lines_holding k ((range_of ss k).low +ℤ pos digit) ls)
    unfolding held_lines
    held-counted ls h =
        let counts = raised_by (replicate 1024 0) (letters_of ss ls) in
        let before = letter_count (take k ss) in
        let values = size (range_of ss k) in
        let behind = letter_count (drop (suc k) ss) in
        let around = count-around ss k there in
        let f = factors before values behind (letter_count ss) around some in
        let x : cut_count before ≡ before = omega arith in
        let y : cut_count (letter_count (stream_at ss k)) ≡ values = let e = count_at ss k there in omega arith in
        let z : cut_count behind ≡ behind = omega arith in
        let counted = blocks_counted before values behind digit f.some_third known 1024 (subst (λ n. n ≤ 1024) around bounded) (letters_of ss ls) (letters-below ls h around) in
        let lines = how_many-map (λ n. eqb (n / behind % values) digit) (letter_number ss) (record_of_lines ls)
        ∙ how_many-map (λ v. eqb (letter_number ss v / behind % values) digit) line_values ls
        ∙ how_many-same (λ l. eqb (letter_number ss (line_values l) / behind % values) digit) (holds_value k ((range_of ss k).low +ℤ pos digit)) ls (same_test ls h) in
        ap (λ t. cond t (digit_lines counts ss k digit) 0) (lt-ltb k (length ss) there)
        ∙ ap (λ t. cond t (stream_lines counts ss k digit) 0) (lt-ltb digit (cut_count (letter_count (stream_at ss k))) (omega arith))
        ∙ (λ i. cut_lines (blocks_lines counts (x i) (y i) (z i) digit)) ∙ counted ∙ ap cut_lines lines
