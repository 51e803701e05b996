-- The ranges of a sheet as it is stored are numbers of the machine, eight of each. From what is settled of an accepted sheet.
use Prim.Native.Nat.{ℕ, zero, suc, ◌-◌}
use native.Mathlib.Omega.{arith}
use mathlib.Core.Path.{◌≡◌, refl, sym, subst}
use mathlib.Core.List.{List, [], ◌∷◌, ◌++◌, map, Memᴰ}
use lib.IntN.{ℤ, pos, neg_ℤ}
use lib.ListN.{length, replicate, length-append, length-map, length-replicate}
use mir.Syntax.{w64}
use mir.Val.{SFits}
use Rattle.meaning.specs.Expression.{Stream, Sheet}
use Rattle.meaning.proofs.Order.{≤ℤ_trans}
use Rattle.sheet.specs.Refusal.{Answer, refused, sheet, AnswerTo, magnitude_bound}
use Rattle.sheet.specs.Reading.{answer_to}
use Rattle.sheet.specs.Accepted.{AcceptedStreams}
use Rattle.sheet.proofs.Reading.{answer_correct}
use Rattle.sheet.proofs.Accepted.{accepted_facts}
use Rattle.nodes.specs.Bounds.{lows_of, highs_of}
use Rattle.letters.proofs.Above.{between-fits}
use Rattle.reader.specs.declared.Reading.{Reading}
use Rattle.reader.specs.Stored.{stored_sheet, reading_of}
use Rattle.print.specs.Lines.{AllFit}
use Rattle.stored_ranges.specs.Ranges.{HasRanges}

fit_append : (l m : List ℤ) → AllFit l → AllFit m → AllFit (l ++ m)
fit_append [] m h k = k
fit_append (v ∷ l) m h k = (h.0, fit_append l m h.1 k)

fit-zeros : (n : ℕ) → AllFit (replicate n (pos 0))
fit-zeros zero = tt
fit-zeros (suc n) = (record { sfits = omega arith }, fit-zeros n)

fit-map : (f : Stream → ℤ) (ss : List Stream) → ((x : Stream) → Memᴰ x ss → SFits w64 (f x)) → AllFit (map f ss)
fit-map f [] h = tt
fit-map f (x ∷ ss) h = (h x (Memᴰ.head refl), fit-map f ss (λ y m. h y (Memᴰ.tail m)))

bound-low : SFits w64 (neg_ℤ (pos magnitude_bound))
bound-low = record { sfits = omega arith }

bound-high : SFits w64 (pos magnitude_bound)
bound-high = record { sfits = omega arith }

-- Streams that an accepted sheet could have.
module _ {ss : List Stream} (accepted : AcceptedStreams ss) where
  low_fits : (x : Stream) → Memᴰ x ss → SFits w64 x.range.low
  low_fits x m =
      let i = accepted.ranges_in_bounds x m in
      between-fits (neg_ℤ (pos magnitude_bound)) x.range.low (pos magnitude_bound) bound-low bound-high i.above (≤ℤ_trans (accepted.ranges_ordered x m) i.below)

  high_fits : (x : Stream) → Memᴰ x ss → SFits w64 x.range.high
  high_fits x m =
      let i = accepted.ranges_in_bounds x m in
      between-fits (neg_ℤ (pos magnitude_bound)) x.range.high (pos magnitude_bound) bound-low bound-high (≤ℤ_trans i.above (accepted.ranges_ordered x m)) i.below

  pub lows-fit : AllFit (lows_of ss)
  lows-fit = fit-map (λ x. x.range.low) ss low_fits

  pub highs-fit : AllFit (highs_of ss)
  highs-fit = fit-map (λ x. x.range.high) ss high_fits

stored_ranges : (s : Sheet) → AcceptedStreams s.streams → HasRanges (stored_sheet s)
unfolding stored_sheet
stored_ranges s accepted =
    let few = accepted.stream_count in
    record {
      low_count = omega (arith, length-append (lows_of s.streams) (replicate (8 - length (lows_of s.streams)) (pos 0)), length-map s.streams (λ x. x.range.low), length-replicate (8 - length (lows_of s.streams)) (pos 0));
      high_count = omega (arith, length-append (highs_of s.streams) (replicate (8 - length (highs_of s.streams)) (pos 0)), length-map s.streams (λ x. x.range.high), length-replicate (8 - length (highs_of s.streams)) (pos 0));
      lows = fit_append (lows_of s.streams) (replicate (8 - length (lows_of s.streams)) (pos 0)) (lows-fit accepted) (fit-zeros (8 - length (lows_of s.streams)));
      highs = fit_append (highs_of s.streams) (replicate (8 - length (highs_of s.streams)) (pos 0)) (highs-fit accepted) (fit-zeros (8 - length (highs_of s.streams)));
    }

pub read_ranges : (text : List ℕ) {reading : Reading} → reading ≡ reading_of (answer_to text) → HasRanges reading.sheet
read_ranges text read_as = subst (λ x. HasRanges x.sheet) (sym read_as) (go (answer_to text) (answer_correct text))
  where
    go : (x : Answer) → AnswerTo text x → HasRanges (reading_of x).sheet
    go (refused n) r = record { low_count = refl; high_count = refl; lows = fit-zeros 8; highs = fit-zeros 8 }
    go (sheet s) r = stored_ranges s (accepted_facts r).streams
