-- The lines of a record to an accepted sheet: what is read byte by byte, with the sheet's ranges and names as they are stored, comes to what
-- document 02 says of the line. From the laws of lines of values and of names.
use Prim.Native.Nat.{ℕ, zero, suc, ◌≤◌}
use native.Mathlib.Omega.{arith}
use mathlib.Core.Path.{◌≡◌, refl, sym, ◌∙◌, ap, subst}
use mathlib.Core.List.{List, [], ◌∷◌, ◌++◌, map, Memᴰ}
use lib.ListN.{length, get_or, length-map}
use lib.Signed.{◌≤ℤ◌}
use Rattle.text.specs.Bytes.{Token}
use Rattle.text.specs.Fold.{run_bytes}
use Rattle.meaning.specs.Arithmetic.{Interval}
use Rattle.meaning.specs.Expression.{Stream, Sheet}
use Rattle.meaning.specs.Window.{join_over}
use Rattle.sheet.specs.Form.{names_of}
use Rattle.sheet.specs.Refusal.{InBounds}
use Rattle.sheet.specs.Names.{eight_bytes, ShortNames, name_in}
use Rattle.sheet.specs.Accepted.{Accepted}
use Rattle.sheet.proofs.Names.{short-names}
use Rattle.letters.proofs.Streams.{unnamed, letter_count-unnamed, letter_number-unnamed, is_letter-unnamed, length-unnamed}
use Rattle.records.specs.Line.{value_line}
use Rattle.record_names.specs.Line.{is_names_line}
use Rattle.records.specs.Machine.{line_start, line_byte, line_end, end_of}
use Rattle.record_names.specs.Machine.{names_start, names_byte, names_end}
use Rattle.records.proofs.Values.{AcceptedRanges, line_read}
use Rattle.record_names.proofs.Names.{names_read, names-found}

-- ---- the values

-- Each of them has the range of a stream of the sheet.
unnamed-member : (ss : List Stream) (x : Stream) → Memᴰ x (unnamed ss) → (y : Stream) × Memᴰ y ss × (y.range ≡ x.range)
unnamed-member [] x x3 = elim x3 [ ]
unnamed-member (s ∷ ss) x (Memᴰ.head e) = (s, Memᴰ.head refl, sym (ap (λ z. z.range) e))
unnamed-member (s ∷ ss) x (Memᴰ.tail m) = let h = unnamed-member ss x m in (h.0, Memᴰ.tail h.1, h.2)

pub value_line-unnamed : (ss : List Stream) (l : List ℕ) → value_line (unnamed ss) l ≡ value_line ss l
unfolding value_line
value_line-unnamed ss l = simp (length-unnamed, is_letter-unnamed, letter_number-unnamed)

module _ {s : Sheet} (a : Accepted s) where
  abbrev streams : List Stream
  streams = s.streams

  accepted_ranges : AcceptedRanges (unnamed streams)
  accepted_ranges =
      record {
        few = subst (λ n. n ≤ 8) (sym (length-unnamed streams)) a.streams.stream_count;
        ordered = λ x m. let h = unnamed-member streams x m in subst (λ (I : Interval). I.low ≤ℤ I.high) h.2 (a.streams.ranges_ordered h.0 h.1);
        in_bounds = λ x m. let h = unnamed-member streams x m in subst InBounds h.2 (a.streams.ranges_in_bounds h.0 h.1);
        few_letters = subst (λ n. n ≤ 1024) (sym (letter_count-unnamed streams)) a.letters;
      }

  -- A line of values, read with the lowest and highest values of the sheet's streams.
  pub accepted-line : (l : List ℕ) → line_end (unnamed streams) (run_bytes (line_byte (unnamed streams)) line_start l) ≡ end_of (value_line streams l)
  accepted-line l = line_read (unnamed streams) accepted_ranges l ∙ ap end_of (value_line-unnamed streams l)

  -- ---- the names

  short : (k : ℕ) → length (get_or (names_of streams) k []) ≤ 8
  short k = by streams (short-names a.streams) k
    where
      by : (ss : List Stream) → ShortNames ss → (j : ℕ) → length (get_or (names_of ss) j []) ≤ 8
      by [] h j = omega arith
      by (x ∷ ss) h zero = h x (Memᴰ.head refl)
      by (x ∷ ss) h (suc j) = by ss (λ y m. h y (Memᴰ.tail m)) j

  abbrev lengths : List ℕ
  lengths = map (λ x. length x.name) streams

  module _ (rest : List ℕ) where
    abbrev name : ℕ → Token
    name = name_in (join_over eight_bytes streams ++ rest) lengths

    -- The line of names, read with the names in eight bytes each, any bytes behind them, and their lengths.
    pub accepted-names : (l : List ℕ) → names_end name (length lengths) (run_bytes (names_byte name) names_start l) ≡ is_names_line (names_of streams) l
    accepted-names l =
        let named = names-found streams (short-names a.streams) rest in
        let e : length lengths ≡ length (names_of streams) = length-map streams (λ x. length x.name) ∙ sym (length-map streams (λ x. x.name)) in
        let few : length (names_of streams) ≤ 8 = subst (λ n. n ≤ 8) (sym (length-map streams (λ x. x.name))) a.streams.stream_count in
        ap (λ n. names_end name n (run_bytes (names_byte name) names_start l)) e
        ∙ names_read name (λ k. subst (λ n. length n ≤ 8) (sym (named k)) (short k)) (names_of streams) few named l
