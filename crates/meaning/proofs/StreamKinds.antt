-- Nothing that a sheet means depends on the kinds of its streams (document 02, S-6: "do not alter the table"): not the letters and their numbers, not
-- the intervals, not the solutions, not the situations and their count. From the laws of streams with the same ranges.
use Prim.Native.Nat.{ℕ, ◌<◌}
use mathlib.Core.Path.{◌≡◌, refl, sym, ap, subst, ◌∙◌}
use mathlib.Core.List.{List, [], ◌∷◌, Memᴰ}
use lib.Dec.{T}
use lib.ListN.{length}
use Rattle.basics.proofs.Count.{count_same}
use Rattle.meaning.specs.Value.{Streams}
use Rattle.meaning.specs.Arithmetic.{Interval, Within}
use Rattle.meaning.specs.Expression.{Expression, Stream, Sheet, range_of, Solution}
use Rattle.meaning.specs.Interval.{interval}
use Rattle.meaning.specs.Letter.{Letter, IsLetter, letter_count, letter_number, letter_of}
use Rattle.meaning.specs.Situation.{lawful, Situation, situation, IsSituation, SituationCount}
use Rattle.meaning.specs.StreamKinds.{without_kinds, SameNamesAndRanges, DifferOnlyInKinds}
use Rattle.meaning.proofs.SameRanges.{SameRanges, none, more, ranges_sym, ranges_trans, ranges_length, ranges_range_of, ranges_interval, ranges_count, ranges_number, ranges_letter, ranges_is_letter}

-- ---- streams with the same names and ranges

without_ranges : (ss : List Stream) → SameRanges (without_kinds ss) ss
without_ranges [] = none
without_ranges (s ∷ ss) = more refl (without_ranges ss)

module _ {ss ts : List Stream} (alike : SameNamesAndRanges ss ts) where
  ranges : SameRanges ss ts
  ranges = ranges_trans (subst (SameRanges ss) alike.same (ranges_sym (without_ranges ss))) (without_ranges ts)

  pub kinds-length : length ss ≡ length ts
  kinds-length = ranges_length ranges

  pub kinds-range_of : (k : ℕ) → range_of ss k ≡ range_of ts k
  kinds-range_of = ranges_range_of ranges

  pub kinds-interval : (e : Expression) → interval ss e ≡ interval ts e
  kinds-interval = ranges_interval ranges

  pub kinds-letter_count : letter_count ss ≡ letter_count ts
  kinds-letter_count = ranges_count ranges

  pub kinds-letter_number : (l : Letter) → letter_number ss l ≡ letter_number ts l
  kinds-letter_number = ranges_number ranges

  pub kinds-letter_of : (n : ℕ) → letter_of ss n ≡ letter_of ts n
  kinds-letter_of = ranges_letter ranges

  pub kinds-letter : {l : Letter} → IsLetter ss l → IsLetter ts l
  kinds-letter = ranges_is_letter ranges

  pub kinds-ranged : {w : Streams} → ((k i : ℕ) → k < length ss → Within (range_of ss k) (w k i)) → (k i : ℕ) → k < length ts → Within (range_of ts k) (w k i)
  kinds-ranged {w} h k i l = subst (λ (I : Interval). Within I (w k i)) (kinds-range_of k) (h k i (subst (λ n. k < n) (sym kinds-length) l))

-- ---- sheets that differ only in kinds

pub differ_sym : {s t : Sheet} → DifferOnlyInKinds s t → DifferOnlyInKinds t s
differ_sym d = record { streams = record { same = sym d.streams.same }; constraints = sym d.constraints }

module _ {s t : Sheet} (d : DifferOnlyInKinds s t) where
  pub kinds-solution : {w : Streams} → Solution s w → Solution t w
  kinds-solution {w} h = record { ranged = kinds-ranged d.streams h.ranged; meets = λ c m. h.meets c (subst (Memᴰ c) (sym d.constraints) m) }

  -- The situation of a record depends on the constraints alone.
  pub kinds-situation : {u : Situation} → IsSituation s u → IsSituation t u
  kinds-situation {u} h =
      let r = h.lawful_record in
      record {
        lawful_record = r;
        letters = λ l m. kinds-letter d.streams (h.letters l m);
        is_lawful = subst (λ cs. T (lawful cs r)) d.constraints h.is_lawful;
        same = ap (λ cs. situation cs r) (sym d.constraints) ∙ h.same;
      }

pub kinds-count : {s t : Sheet} → DifferOnlyInKinds s t → {m : ℕ} → SituationCount s m → SituationCount t m
kinds-count d = count_same (λ u. kinds-situation d) (λ u. kinds-situation (differ_sym d))
