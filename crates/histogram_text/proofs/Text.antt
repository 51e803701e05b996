-- Without a refusal the whole text of a printout is the text of the histogram, where the names and ranges are those of a sheet's streams and the counts those
-- of a record's value lines. From the laws of blocks of places (Blocks) and of the names as the reader stores them (records).
use Prim.Native.Nat.{ℕ, suc, ◌+◌, ◌*◌, ◌/◌, ◌%◌, ◌≤◌, ◌<◌}
use native.Mathlib.Omega.{arith}
use native.Mathlib.Nat.{mul-div_cancel, div-one}
use mathlib.Core.Path.{◌≡◌, ◌∙◌, ap, ap₂}
use mathlib.Core.Bool.{cond}
use mathlib.Core.List.{List, [], ◌∷◌, ◌++◌, map}
use lib.Arith.{digits_div, digits_mod}
use lib.Dec.{ltb}
use lib.IntN.{pos, ◌+ℤ◌}
use lib.ListN.{length, get_or, take, length-map}
use lib.Seq.{drop-cons}
use borrow.Author.Tests.{lt-ltb, le-ltb}
use Rattle.basics.proofs.Reflects.{to_true, to_false}
use Rattle.meaning.specs.Expression.{Stream, absent_stream, range_of}
use Rattle.meaning.specs.Letter.{size, letter_count, letter_of}
use Rattle.meaning.specs.Window.{join_over}
use Rattle.sheet.specs.Form.{names_of}
use Rattle.sheet.specs.Refusal.{letter_bound}
use Rattle.sheet.specs.Names.{eight_bytes, ShortNames}
use Rattle.nodes.specs.Bounds.{lows_of, highs_of}
use Rattle.letters.specs.Described.{described, has_letter}
use Rattle.letters.proofs.Streams.{unnamed, length-unnamed, letter_reflects}
use Rattle.sheet.specs.Names.{name_in}
use Rattle.records.specs.Machine.{stream_at}
use Rattle.record_names.proofs.Names.{names-found}
use Rattle.print.specs.Text.{line, decimal}
use Rattle.print.specs.Lines.{lines_from}
use Rattle.pages.proofs.Refused.{given-text}
use Rattle.held_lines.specs.Counts.{lines_holding}
use Rattle.held_lines.specs.Held.{held_lines}
use Rattle.held_lines.proofs.Digits.{count_at}
use Rattle.tally.proofs.Record.{range-unnamed}
use Rattle.histogram_text.specs.Histogram.{histogram_heading, count_line, total_line, range_value, stream_text, histogram_text}
use Rattle.histogram_text.specs.Output.{HistogramPrintout, printed_stream_count, printed_streams, value_text, histogram_line, histogram_output}
use Rattle.histogram_text.proofs.Blocks.{lines_same, lines-front, lines_blocks}

-- The letter of one stream with a number.
one-letter : (ss : List Stream) (k digit : ℕ) → k < length ss → letter_of (stream_at ss k) digit ≡ ((range_of ss k).low +ℤ pos digit) ∷ []
unfolding letter_of letter_count
one-letter ss k digit there = ap (λ l. letter_of (take 1 l) digit) (drop-cons ss k absent_stream there) ∙ ap (λ n. ((range_of ss k).low +ℤ pos n) ∷ []) (div-one digit)

module _ (ss : List Stream) (few : length ss ≤ 8) (bounded : (k : ℕ) → k < length ss → size (range_of ss k) ≤ letter_bound) (short : ShortNames ss) (ls : List (List ℕ))
    (p : HistogramPrintout) (given : p.refusal ≡ 0) (total : p.total ≡ length ls) (rest : List ℕ) (names : p.names ≡ join_over eight_bytes ss ++ rest)
    (lengths : p.lengths ≡ map (λ x. length x.name) ss) (lows : p.lows ≡ lows_of ss) (highs : p.highs ≡ highs_of ss)
    (held : (k digit : ℕ) → k < length ss → digit < size (range_of ss k) → held_lines p.counts (unnamed ss) k digit ≡ lines_holding k (range_value ss k digit) ls) where
  streams_are : printed_streams p ≡ unnamed ss
  streams_are = ap₂ described lows highs

  count_is : printed_stream_count p.lows p.highs ≡ length ss
  count_is = let a = ap length lows ∙ length-map ss (λ x. x.range.low) in let b = ap length highs ∙ length-map ss (λ x. x.range.high) in omega arith

  module _ (k : ℕ) (there : k < length ss) where
    known : k < length (unnamed ss)
    known = omega (arith, length-unnamed ss, there)

    letters-at : letter_count (stream_at (unnamed ss) k) ≡ size (range_of ss k)
    letters-at = count_at (unnamed ss) k known ∙ ap size (range-unnamed ss k)

    one_at : length (stream_at (unnamed ss) k) ≤ 8
    one_at = omega (arith, ap length (ap (take 1) (drop-cons (unnamed ss) k absent_stream known)))

    name-is : name_in p.names p.lengths k ≡ get_or (names_of ss) k []
    name-is = ap₂ (λ n l. name_in n l k) names lengths ∙ names-found ss short rest k

    abbrev told : ℕ → List ℕ
    told digit = line (name_in p.names p.lengths k ∷ map decimal (letter_of (stream_at (unnamed ss) k) digit)) (decimal (pos (held_lines p.counts (unnamed ss) k digit)))

    -- The line of a value of the range, and no line beyond it.
    value-is : (digit : ℕ) → digit < size (range_of ss k) → value_text p k digit ≡ count_line (get_or (names_of ss) k []) (range_value ss k digit) (lines_holding k (range_value ss k digit) ls)
    unfolding value_text
    value-is digit h =
        ap (λ us. cond (has_letter (stream_at us k) digit 8) (line (name_in p.names p.lengths k ∷ map decimal (letter_of (stream_at us k) digit)) (decimal (pos (held_lines p.counts us k digit)))) []) streams_are
        ∙ ap (λ t. cond t (told digit) []) (to_true (letter_reflects (stream_at (unnamed ss) k) digit 8) (record { few = omega (arith, letters-at, bounded k there); known = omega (arith, letters-at, h); fits = one_at }))
        ∙ (λ i. line (name-is i ∷ map decimal ((one-letter (unnamed ss) k digit known ∙ ap (λ I. (I.low +ℤ pos digit) ∷ []) (range-unnamed ss k)) i)) (decimal (pos (held k digit there h i))))

    value_none : (digit : ℕ) → size (range_of ss k) ≤ digit → value_text p k digit ≡ []
    unfolding value_text
    value_none digit h =
        ap (λ us. cond (has_letter (stream_at us k) digit 8) (line (name_in p.names p.lengths k ∷ map decimal (letter_of (stream_at us k) digit)) (decimal (pos (held_lines p.counts us k digit)))) []) streams_are
        ∙ ap (λ t. cond t (told digit) []) (to_false (letter_reflects (stream_at (unnamed ss) k) digit 8) (λ f. omega (arith, letters-at, f.known)))

    -- The places of the stream.
    abbrev line_at : ℕ → List ℕ
    line_at place = histogram_line p (suc place)

    value-place : (digit : ℕ) → digit < letter_bound → line_at (k * letter_bound + digit) ≡ value_text p k digit
    value-place digit h =
        (λ i. cond (ltb (digits_div k h i) (count_is i)) (value_text p (digits_div k h i) (digits_mod k h i)) (total_line p.total))
        ∙ ap (λ t. cond t (value_text p k digit) (total_line p.total)) (lt-ltb k (length ss) there)

    stream-is : lines_from (λ place. histogram_line p (suc place)) (k * letter_bound) letter_bound ≡ stream_text ss ls k
    stream-is =
        lines_same line_at (value_text p k) (k * letter_bound) 0 letter_bound (λ digit h. value-place digit h ∙ ap (value_text p k) (let z : digit ≡ 0 + digit = omega arith in z))
        ∙ lines-front (value_text p k) (size (range_of ss k)) letter_bound (bounded k there) (λ digit h b. value_none digit h)
        ∙ lines_same (value_text p k) (λ digit. count_line (get_or (names_of ss) k []) (range_value ss k digit) (lines_holding k (range_value ss k digit) ls)) 0 0 (size (range_of ss k))
        (λ digit h. let z : 0 + digit ≡ digit = omega arith in value-is (0 + digit) (omega arith))

  -- The last place.
  total-is : histogram_line p (suc (length ss * letter_bound)) ≡ total_line (length ls)
  total-is =
      (λ i. cond (ltb (mul-div_cancel (length ss) {n = letter_bound} (omega arith) i) (count_is i)) (value_text p (length ss * letter_bound / letter_bound) (length ss * letter_bound % letter_bound)) (total_line (total i)))
      ∙ ap (λ t. cond t (value_text p (length ss * letter_bound / letter_bound) (length ss * letter_bound % letter_bound)) (total_line (length ls))) (le-ltb (length ss) (length ss) (omega arith))

  -- "print from a record `stream value lines`, then for each stream, in order, and each value of its range, rising, how many value lines hold it. A last line
  -- is `total` and the number of value lines."
  pub histogram_text_lem : histogram_output p ≡ histogram_text ss ls
  unfolding histogram_text lines_from
  histogram_text_lem =
      let n = length ss * letter_bound in
      let last : 0 + n ≡ n = omega arith in
      given-text p.refusal (histogram_line p) given (suc (printed_stream_count p.lows p.highs * letter_bound))
      ∙ ap (λ m. histogram_heading ++ lines_from (λ place. histogram_line p (suc place)) 0 (suc (m * letter_bound))) count_is
      ∙ ap₂ (λ a b. histogram_heading ++ (a ++ b)) (lines_blocks (λ place. histogram_line p (suc place)) (stream_text ss ls) letter_bound (length ss) stream-is) (ap (λ m. histogram_line p (suc m)) last ∙ total-is)
