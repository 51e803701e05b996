-- The lines of a histogram's printout by their places: the value of a stream, or the total; and no line is longer than there is room for. From the
-- definitions, the laws of a text or a refusal (pages) and those of the crate print.
use Prim.Native.Nat.{ℕ, zero, suc, ◌-◌, ◌*◌, ◌/◌, ◌%◌, ◌≤◌, ◌<◌, min}
use native.Mathlib.Omega.{arith}
use mathlib.Core.Path.{◌≡◌, sym, ◌∙◌, ap, subst}
use mathlib.Core.Bool.{Bool, true, false, cond}
use mathlib.Core.List.{List, [], ◌∷◌, map}
use lib.Dec.{ltb}
use lib.IntN.{ℤ, pos}
use lib.ListN.{length, take, drop, get_or, length-take, length-drop}
use borrow.Author.Tests.{lt-ltb, le-ltb}
use Rattle.basics.proofs.Tests.{cond_cases, true_of_T}
use Rattle.basics.proofs.Reflects.{from_true}
use Rattle.text.specs.Bytes.{Token, bytes_of}
use Rattle.meaning.specs.Expression.{Stream}
use Rattle.meaning.specs.Letter.{IsLetter, letter_count, letter_of}
use Rattle.meaning.proofs.Letter.{letter_of-letter}
use Rattle.nodes.proofs.Record.{letter-length}
use Rattle.letters.specs.Described.{described, cut_count, has_letter, with_letter}
use Rattle.letters.proofs.Counts.{length-described}
use Rattle.letters.proofs.Streams.{letter_reflects}
use Rattle.sheet.specs.Names.{name_in}
use Rattle.records.specs.Machine.{stream_at}
use Rattle.print.specs.Text.{line, decimal}
use Rattle.print.specs.Lines.{AllFit}
use Rattle.table_text.proofs.Places.{letter-front}
use Rattle.print.proofs.Lengths.{named-length, letter-fits, fit-take, fit-drop}
use Rattle.pages.specs.Lines.{line_room}
use Rattle.pages.proofs.Refused.{later-given, short-or_refused}
use Rattle.held_lines.specs.Held.{stream_lines, digit_lines, held_lines}
use Rattle.held_lines.proofs.Streams.{described-take, described-drop}
use Rattle.histogram_text.specs.Histogram.{total_line}
use Rattle.histogram_text.specs.Output.{HistogramPrintout, printed_stream_count, printed_streams, value_text, histogram_line, histogram_at}

-- ---- the line of a value

module _ (p : HistogramPrintout) (stream digit : ℕ) {ts : List Stream} (one : ts ≡ stream_at (printed_streams p) stream) where
  abbrev told : Token → List ℤ → ℕ → List ℕ
  told name values held = line (name ∷ map decimal values) (decimal (pos held))

  abbrev whole : List ℕ
  whole = told (name_in p.names p.lengths stream) (letter_of (stream_at (printed_streams p) stream) digit) (held_lines p.counts (printed_streams p) stream digit)

  pub no_value : has_letter ts digit 8 ≡ false → [] ≡ value_text p stream digit
  unfolding value_text
  no_value e = sym (ap (λ t. cond t whole []) (ap (λ ss. has_letter ss digit 8) (sym one) ∙ e))

  pub value_there : has_letter ts digit 8 ≡ true → stream < min (length p.lows) (length p.highs) → (out : List ℤ) → length out ≡ 8 → {values : List ℤ} → values ≡ with_letter ts digit out
      → {held : ℕ} → held ≡ held_lines p.counts (printed_streams p) stream digit → {name : Token} → name ≡ name_in p.names p.lengths stream
      → line (name ∷ map decimal (take 1 values)) (decimal (pos held)) ≡ value_text p stream digit
  unfolding value_text
  value_there e there out l {values} w {held} h {name} n =
      let long : 1 ≡ length ts = sym (ap length one ∙ length-take 1 (drop stream (printed_streams p))
      ∙ (let d = length-drop stream (printed_streams p) in let m = length-described p.lows p.highs in let z : min 1 (length (drop stream (printed_streams p))) ≡ 1 = omega arith in z)) in
      let values_are = letter-front ts digit e out l w long ∙ ap (λ ss. letter_of ss digit) one in
      (λ i. told (n i) (values_are i) (h i)) ∙ sym (ap (λ t. cond t whole []) (ap (λ ss. has_letter ss digit 8) (sym one) ∙ e))

-- ---- the lines after the heading

module _ (p : HistogramPrintout) (given : p.refusal ≡ 0) {k : ℕ} (s : k ≡ 0 → ⊥) where
  abbrev stream_of : ℕ
  stream_of = (k - 1) / 1024

  place-line : {n : ℕ} → n ≡ printed_stream_count p.lows p.highs → {t : Bool} → ltb stream_of n ≡ t → cond t (value_text p stream_of ((k - 1) % 1024)) (total_line p.total) ≡ histogram_at p k
  place-line {n} e {t} b =
      ap (λ u. cond u (value_text p stream_of ((k - 1) % 1024)) (total_line p.total)) (sym (ap (λ m. ltb stream_of m) (sym e) ∙ b)) ∙ later-given p.refusal (histogram_line p) given s

  pub value-place : {n : ℕ} → n ≡ printed_stream_count p.lows p.highs → stream_of < n → value_text p stream_of ((k - 1) % 1024) ≡ histogram_at p k
  value-place {n} e h = place-line e (lt-ltb stream_of n h)

  pub total-place : {n : ℕ} → n ≡ printed_stream_count p.lows p.highs → n ≤ stream_of → total_line p.total ≡ histogram_at p k
  total-place {n} e h = place-line e (le-ltb stream_of n h)

-- ---- how long a line is

-- A count is a number of the machine.
held_fits : (counts : List ℕ) (ss : List Stream) (stream digit : ℕ) → held_lines counts ss stream digit < 18446744073709551616
unfolding held_lines
held_fits counts ss stream digit =
    cond_cases (λ n. n < 18446744073709551616) (ltb stream (length ss)) {x = digit_lines counts ss stream digit} {y = 0}
    (λ t.
    cond_cases (λ n. n < 18446744073709551616) (ltb digit (cut_count (letter_count (stream_at ss stream)))) {x = stream_lines counts ss stream digit} {y = 0} (λ u. omega arith) (λ u. omega arith))
    (λ t. omega arith)

stored-name-short : (names lengths : List ℕ) (i : ℕ) → length (name_in names lengths i) ≤ 8
stored-name-short names lengths i = omega (arith, length-take (min (get_or lengths i 0) 8) (drop (i * 8) names))

module _ (p : HistogramPrintout) (refusal : p.refusal < 4294967296) (total : p.total < 18446744073709551616) (lows : AllFit p.lows) (highs : AllFit p.highs) where
  value-short : (stream digit : ℕ) → length (value_text p stream digit) ≤ line_room
  unfolding value_text
  value-short stream digit =
      let ts = stream_at (printed_streams p) stream in
      cond_cases (λ (l : List ℕ). length l ≤ line_room) (has_letter ts digit 8)
      {x = line (name_in p.names p.lengths stream ∷ map decimal (letter_of ts digit)) (decimal (pos (held_lines p.counts (printed_streams p) stream digit)))} {y = []}
      (λ t.
      let f = from_true (letter_reflects ts digit 8) (true_of_T (has_letter ts digit 8) t) in
      let l = letter_of-letter ts digit f.known in
      let lows' = take 1 (drop stream p.lows) in
      let highs' = take 1 (drop stream p.highs) in
      let same : described lows' highs' ≡ ts = described-take 1 (drop stream p.lows) (drop stream p.highs) ∙ ap (take 1) (described-drop stream p.lows p.highs) in
      named-length (name_in p.names p.lengths stream) (letter_of ts digit) (held_lines p.counts (printed_streams p) stream digit) (stored-name-short p.names p.lengths stream)
      (letter-fits lows' highs' (letter_of ts digit) (fit-take 1 (drop stream p.lows) (fit-drop stream p.lows lows)) (fit-take 1 (drop stream p.highs) (fit-drop stream p.highs highs)) (subst (λ ss. IsLetter ss (letter_of ts digit)) (sym same) l))
      (omega (arith, letter-length l, f.fits)) (held_fits p.counts (printed_streams p) stream digit))
      (λ t. omega arith)

  histogram_short : (k : ℕ) → length (histogram_line p k) ≤ line_room
  histogram_short zero = omega arith
  histogram_short (suc i) =
      cond_cases (λ (l : List ℕ). length l ≤ line_room) (ltb (i / 1024) (printed_stream_count p.lows p.highs)) {x = value_text p (i / 1024) (i % 1024)} {y = total_line p.total}
      (λ t. value-short (i / 1024) (i % 1024)) (λ t. named-length (bytes_of "total") [] p.total (omega arith) tt (omega arith) total)

  pub line-short : (k : ℕ) → length (histogram_at p k) ≤ line_room
  line-short = short-or_refused p.refusal (histogram_line p) refusal histogram_short
