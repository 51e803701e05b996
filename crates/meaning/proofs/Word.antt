-- Streams in range are spelled by exactly one endless word of letter numbers, and every such word spells streams in range. So solutions and
-- solution words are the same thing. From the numbers of letters (Letter).
use Prim.Native.Nat.{ℕ, zero, suc, ◌%◌, ◌<◌}
use native.Mathlib.Omega.{arith}
use native.Mathlib.Nat.{le_of_suc-le-suc, not-suc-le-zero}
use mathlib.Core.Path.{◌≡◌, refl, sym, ◌∙◌, ap}
use mathlib.Core.Logic.{◌↔◌}
use mathlib.Core.List.{List, [], ◌∷◌}
use lib.IntN.{ℤ, pos}
use lib.ListN.{length, get_or}
use lib.Seq.{ext_get_or}
use Rattle.meaning.specs.Value.{Streams}
use Rattle.meaning.specs.Arithmetic.{Within}
use Rattle.meaning.specs.Expression.{Stream, Sheet, range_of, Solution}
use Rattle.meaning.specs.Letter.{Letter, IsLetter, none, more, letter_count, letter_number, letter_of, spell, letter_with, word_of, SolutionWord}
use Rattle.meaning.specs.Scope.{AgreeBelow, NamesKnown}
use Rattle.meaning.proofs.Scope.{AgreeBelow-sym, Solution-agree}
use Rattle.meaning.proofs.Interval.{InRange}
use Rattle.meaning.proofs.Letter.{letter-within, letter_number-bound, letter_of-letter_number, letter_of-letter, letter_number-letter_of, letter-letter_of}

-- A word of the streams' letter numbers whose letters have the values of w.
pub record Spells (ss : List Stream) (x : ℕ → ℕ) (w : Streams) : Type 0 where
  pub letters : (i : ℕ) → x i < letter_count ss
  pub agrees : AgreeBelow (length ss) (spell ss x) w

-- Exactly one word spells w.
pub record SpelledOnce (ss : List Stream) (w : Streams) : Type 0 where
  pub word : ℕ → ℕ
  pub spells : Spells ss word w
  pub only : (x : ℕ → ℕ) → Spells ss x w → (i : ℕ) → x i ≡ word i

-- ---- a letter as one value per stream

letter_of-length : (ss : List Stream) (n : ℕ) → length (letter_of ss n) ≡ length ss
unfolding letter_of
letter_of-length [] n = refl
letter_of-length (s ∷ ss) n = ap suc (letter_of-length ss (n % letter_count ss))

within-letter : (ss : List Stream) (l : Letter) → length l ≡ length ss → ((k : ℕ) → k < length ss → Within (range_of ss k) (get_or l k (pos 0))) → IsLetter ss l
within-letter [] [] e h = none
within-letter [] (v ∷ l) e h = absurd (omega arith)
within-letter (s ∷ ss) [] e h = absurd (omega arith)
within-letter (s ∷ ss) (v ∷ l) e h = more (h zero (omega arith)) (within-letter ss l (omega arith) (λ k b. h (suc k) (omega arith)))

letter_with-letter : (ss : List Stream) (f : ℕ → ℤ) → ((k : ℕ) → k < length ss → Within (range_of ss k) (f k)) → IsLetter ss (letter_with ss f)
letter_with-letter [] f h = none
letter_with-letter (s ∷ ss) f h = more (h zero (omega arith)) (letter_with-letter ss (λ k. f (suc k)) (λ k l. h (suc k) (omega arith)))

letter_with-get_or : (ss : List Stream) (f : ℕ → ℤ) (d : ℤ) (k : ℕ) → k < length ss → get_or (letter_with ss f) k d ≡ f k
letter_with-get_or [] f d k l = absurd (not-suc-le-zero l)
letter_with-get_or (s ∷ ss) f d zero l = refl
letter_with-get_or (s ∷ ss) f d (suc k) l = letter_with-get_or ss (λ k. f (suc k)) d k (le_of_suc-le-suc l)

-- ---- words

pub spell-ranged : (ss : List Stream) (x : ℕ → ℕ) → ((i : ℕ) → x i < letter_count ss) → InRange ss (spell ss x)
spell-ranged ss x h k i l = letter-within (letter_of-letter ss (x i) (h i)) k l

-- Letter numbers whose letters have the same values are the same.
letter_of_injective : (ss : List Stream) (m n : ℕ) → m < letter_count ss → n < letter_count ss
    → ((k : ℕ) → k < length ss → get_or (letter_of ss m) k (pos 0) ≡ get_or (letter_of ss n) k (pos 0)) → m ≡ n
letter_of_injective ss m n h h' g =
    let e = ext_get_or (pos 0) (letter_of ss m) (letter_of ss n) (letter_of-length ss m ∙ sym (letter_of-length ss n)) (λ k l. g k (rw letter_of-length at l)) in
    sym (letter_number-letter_of ss m h) ∙ ap (letter_number ss) e ∙ letter_number-letter_of ss n h'

pub word_of-spells : (ss : List Stream) (w : Streams) → InRange ss w → Spells ss (word_of ss w) w
word_of-spells ss w ranged =
    let letter : (i : ℕ) → IsLetter ss (letter_with ss (λ k. w k i)) = λ i. letter_with-letter ss (λ k. w k i) (λ k l. ranged k i l) in
    record {
      letters = λ i. letter_number-bound (letter i);
      agrees = record { same = λ k i l. ap (λ m. get_or m k (pos 0)) (letter_of-letter_number (letter i)) ∙ letter_with-get_or ss (λ k. w k i) (pos 0) k l };
    }

-- Two words that spell the same streams are the same.
pub spells_unique : (ss : List Stream) {x y : ℕ → ℕ} {w : Streams} → Spells ss x w → Spells ss y w → (i : ℕ) → x i ≡ y i
spells_unique ss {x} {y} p q i = letter_of_injective ss (x i) (y i) (p.letters i) (q.letters i) (λ k l. p.agrees.same k i l ∙ sym (q.agrees.same k i l))

pub spelled_once : (ss : List Stream) (w : Streams) → InRange ss w → SpelledOnce ss w
spelled_once ss w ranged =
    let spells = word_of-spells ss w ranged in
    record { word = word_of ss w; spells = spells; only = λ x p. spells_unique ss p spells }

-- ---- solutions

-- A word is a solution word exactly if the streams that it spells, whatever stands beyond the sheet's, are a solution.
pub solution-word : {s : Sheet} → NamesKnown s → {x : ℕ → ℕ} {w : Streams} → Spells s.streams x w → SolutionWord s x ↔ Solution s w
solution-word known p =
    (λ h. Solution-agree known p.agrees h.solves, λ h. record { solves = Solution-agree known (AgreeBelow-sym p.agrees) h })

-- The letters of a solution word are numbered below their count, where there is a stream.
pub solution-letters : (s : Sheet) → 0 < length s.streams → {x : ℕ → ℕ} → SolutionWord s x → (i : ℕ) → x i < letter_count s.streams
solution-letters s some {x} h i =
    below s.streams some (within-letter s.streams (letter_of s.streams (x i)) (letter_of-length s.streams (x i)) (λ k l. h.solves.ranged k i l))
  where
    below : (ss : List Stream) → 0 < length ss → IsLetter ss (letter_of ss (x i)) → x i < letter_count ss
    below [] l h = absurd (not-suc-le-zero l)
    below (t ∷ ss) l h = letter-letter_of t ss (x i) h
