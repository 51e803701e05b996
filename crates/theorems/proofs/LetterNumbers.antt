-- Letter numbers in 32 bits: the file to open for request S-4 of document 02. A call of `letters::letter_count` takes the lowest and the highest values
-- of ranges, a call of `letters::letter_number` the values of a letter too; `LetterCountCall` and `LetterNumberCall` (crate letters) are what they
-- ensure for all arguments: any ends of 64 bits, a low end above the high one, lists of any lengths. The true product is `letter_count` (crate
-- meaning), over numbers of any size: how many values each range holds, multiplied. First the count, then the number of a letter, then the widths in
-- which both are reckoned. From the laws of letters (meaning, letters).
use Prim.Native.Nat.{ℕ, zero, suc, ◌+◌, ◌*◌, ◌^◌, ◌≤◌, ◌<◌, min}
use native.Mathlib.Omega.{arith}
use native.Mathlib.Nat.{mul-zero, zero-mul}
use mathlib.Core.Path.{◌≡◌, refl, sym, ◌∙◌, ap, subst}
use mathlib.Core.Logic.{◌↔◌}
use mathlib.Core.Bool.{Bool, true, false}
use mathlib.Core.List.{List, [], ◌∷◌}
use lib.Dec.{leb, leb→le}
use lib.IntN.{ℤ, pos}
use lib.ListN.{length, get_or}
use lib.Signed.{lt_z, ◌<ℤ◌}
use borrow.Author.Tests.{le-leb}
use Rattle.basics.specs.Lists.{All}
use Rattle.basics.proofs.Tests.{true_of_T, T-of_true}
use Rattle.meaning.specs.Expression.{Stream}
use Rattle.meaning.specs.Letter.{Letter, IsLetter, size, letter_count, letter_number, letter_of}
use Rattle.meaning.proofs.Letter.{letter_number-bound, letter_of-letter_number}
use Rattle.sheet.specs.Refusal.{letter_bound}
use Rattle.nodes.specs.Bounds.{lows_of, highs_of}
use Rattle.letters.specs.Described.{ranged, described, cut_count, is_letter, number_of, LetterCountCall, LetterNumberCall}
use Rattle.letters.proofs.Counts.{empty-size, cut_product}
use Rattle.letters.proofs.Streams.{letter_count-unnamed, is_letter-sound, is_letter-complete}
use Rattle.letters.proofs.Widths.{wide_enough, product_fits, next-number-fits}
use Rattle.theorems.specs.LetterNumbers.{ExactUpTo, worked_counts, HasCount}

-- ---- the count

-- "The count must be exact up to 1,024, and above 1,024 exactly when the true product is."
pub count-exact : (lows highs : List ℤ) {r : ℕ} → LetterCountCall lows highs r → ExactUpTo letter_bound (letter_count (described lows highs)) r
count-exact lows highs call = record { exact = λ few. omega arith; above = (λ many. omega arith, λ many. omega arith) }

-- The same for the streams of a sheet, whose count refusal 7 judges.
pub sheet-count-exact : (ss : List Stream) {r : ℕ} → LetterCountCall (lows_of ss) (highs_of ss) r → ExactUpTo letter_bound (letter_count ss) r
sheet-count-exact ss {r} call = subst (λ n. ExactUpTo letter_bound n r) (letter_count-unnamed ss) (count-exact (lows_of ss) (highs_of ss) call)

empty_product : (lows highs : List ℤ) (i : ℕ) → i < min (length lows) (length highs) → get_or highs i (pos 0) <ℤ get_or lows i (pos 0) → letter_count (described lows highs) ≡ 0
unfolding letter_count
empty_product [] highs i inside empty = absurd (omega arith)
empty_product (l ∷ lows) [] i inside empty = absurd (omega arith)
empty_product (l ∷ lows) (h ∷ highs) zero inside empty =
    ap (λ n. n * letter_count (described lows highs)) (sym (empty-size l h (true_of_T (lt_z h l) empty.lt))) ∙ zero-mul (letter_count (described lows highs))
empty_product (l ∷ lows) (h ∷ highs) (suc i) inside empty =
    ap (λ n. size (ranged l h).range * n) (empty_product lows highs i (omega arith) empty) ∙ mul-zero (size (ranged l h).range)

-- One empty range, wherever it stands, leaves no letter, whatever the others hold.
pub empty-range-count : (lows highs : List ℤ) (i : ℕ) → i < min (length lows) (length highs) → get_or highs i (pos 0) <ℤ get_or lows i (pos 0)
    → {r : ℕ} → LetterCountCall lows highs r → r ≡ 0
empty-range-count lows highs i inside empty call = omega (arith, empty_product lows highs i inside empty)

-- Worked counts, by computation.
pub worked_counts_hold : All HasCount worked_counts
unfolding worked_counts letter_count
worked_counts_hold = (refl, (refl, (refl, (refl, (refl, (refl, (refl, (refl, (refl, (refl, tt))))))))))

-- ---- the number of a letter

module _ (lows highs : List ℤ) (values : Letter) {r : ℕ} (call : LetterNumberCall lows highs values r) where
  abbrev streams : List Stream
  streams = described lows highs

  -- Of values that are a letter, one of at most 1,024: "Its number counts with the last stream fastest, values rising from the lowest, from 0."
  pub number-exact : letter_count streams ≤ letter_bound → IsLetter streams values → r ≡ letter_number streams values
  unfolding number_of
  number-exact few letter = call ∙ simp (le-leb (letter_count streams) letter_bound few, is_letter-complete letter)

  number-cases : (few : Bool) → leb (letter_count streams) letter_bound ≡ few → (letter : Bool) → is_letter streams values ≡ letter
      → r < letter_bound → (letter_count streams ≤ letter_bound) × IsLetter streams values
  unfolding number_of
  number-cases true f true e below = (leb→le (letter_count streams) letter_bound (T-of_true _ f), is_letter-sound streams values e)
  number-cases true f false e below = let z : r ≡ letter_bound = call ∙ simp (f, e) in absurd (omega arith)
  number-cases false f letter e below = let z : r ≡ letter_bound = call ∙ simp f in absurd (omega arith)

  -- Of no other values is a number below 1,024 given,
  pub number-below : (r < letter_bound) ↔ ((letter_count streams ≤ letter_bound) × IsLetter streams values)
  number-below = (
    number-cases (leb (letter_count streams) letter_bound) refl (is_letter streams values) refl,
    λ h. let b = letter_number-bound h.1 in omega (arith, number-exact h.0 h.1),
  )

  -- and the letter can be had back from its number.
  pub number-letter : r < letter_bound → letter_of streams r ≡ values
  number-letter below = let h = number-below.0 below in ap (letter_of streams) (number-exact h.0 h.1) ∙ letter_of-letter_number h.1

-- ---- "Use 32 bits inside; a range can hold over two thousand million values, so it must be cut before it is multiplied."

-- A product that is taken of cut counts and cut again is that of the counts, cut: nothing is lost;
pub cut-before_multiplied : (a b : ℕ) → cut_count (cut_count a * cut_count b) ≡ cut_count (a * b)
cut-before_multiplied = cut_product

-- it fits every width from 21 bits on, 32 among them;
pub cut_product_fits : (n : ℕ) → 21 ≤ n → (a b : ℕ) → cut_count a * cut_count b < 2 ^ n
cut_product_fits n wide a b = product_fits n (wide_enough wide) (omega arith) (omega arith)

-- and so does the number of a letter with the digit of one more stream.
pub cut-number-fits : (n : ℕ) → 21 ≤ n → (number a d : ℕ) → number < letter_bound → number * cut_count a + cut_count d < 2 ^ n
cut-number-fits n wide number a d below = next-number-fits n (wide_enough wide) below (omega arith) (omega arith)
