-- The whole text of a printout without a refusal is the table's text; no line is longer than there is room for. From the definition, the laws of a text or
-- a refusal (Refused) and those of the crate print.
use Prim.Native.Nat.{ℕ, zero, suc, ◌*◌, ◌≤◌, ◌<◌, min}
use native.Mathlib.Omega.{arith}
use mathlib.Core.Path.{◌≡◌, refl, ◌∙◌, ap, ap₂}
use mathlib.Core.Bool.{Bool, true, false}
use mathlib.Core.List.{List, ◌++◌, map}
use lib.Dec.{ltb}
use lib.ListN.{length, get_or, length-map}
use borrow.Author.Tests.{ltb-true, ltb-false}
use Rattle.meaning.specs.Expression.{Stream}
use Rattle.meaning.specs.Letter.{letter_count}
use Rattle.meaning.specs.Window.{join_over}
use Rattle.sheet.specs.Refusal.{letter_bound}
use Rattle.sheet.specs.Names.{eight_bytes, ShortNames}
use Rattle.nodes.specs.Bounds.{lows_of, highs_of}
use Rattle.automaton.specs.Table.{no_state}
use Rattle.letters.specs.Described.{described, cut_count}
use Rattle.letters.proofs.Streams.{letter_count-unnamed}
use Rattle.print.specs.Text.{heading_line}
use Rattle.table_text.specs.Table.{printed, place_text}
use Rattle.print.specs.Lines.{lines_from, stored_names, AllFit}
use Rattle.table_text.proofs.Places.{get_or-inside, nothing-beyond}
use Rattle.table_text.proofs.Lengths.{place-length}
use Rattle.print.proofs.Lengths.{heading_length}
use Rattle.table_text.proofs.Table.{printed-whole}
use Rattle.pages.specs.Lines.{line_room, places_or}
use Rattle.pages.specs.Output.{Printout, table_line, output_at, output_text}
use Rattle.pages.proofs.Refused.{given-text, short-or_refused}

-- ---- the whole text

module _ (p : Printout) where
  pub heading : (ss : List Stream) (more_names more_lengths : List ℕ) → p.names ≡ join_over eight_bytes ss ++ more_names → p.lengths ≡ map (λ x. length x.name) ss ++ more_lengths → p.lows ≡ lows_of ss
      → table_line p 0 ≡ heading_line (stored_names (join_over eight_bytes ss ++ more_names) (map (λ x. length x.name) ss ++ more_lengths) (min (length ss) 8))
  heading ss more_names more_lengths names lengths lows =
      let n : min (length p.lows) 8 ≡ min (length ss) 8 = ap (λ l. min (length l) 8) lows ∙ ap (λ k. min k 8) (length-map ss (λ s. s.range.low)) in
      ap heading_line (ap₂ (λ a b. stored_names a b (min (length p.lows) 8)) names lengths ∙ ap (stored_names (join_over eight_bytes ss ++ more_names) (map (λ x. length x.name) ss ++ more_lengths)) n)

  module _ (given : p.refusal ≡ 0) {ss : List Stream} (few : length ss ≤ 8) (bounded : letter_count ss ≤ letter_bound) (short : ShortNames ss) (more_names more_lengths : List ℕ)
      (names : p.names ≡ join_over eight_bytes ss ++ more_names) (lengths : p.lengths ≡ map (λ x. length x.name) ss ++ more_lengths) (lows : p.lows ≡ lows_of ss) (highs : p.highs ≡ highs_of ss)
      (whole : p.states * letter_count ss ≤ length p.entries) where
    used : min (p.states * cut_count (letter_count (described p.lows p.highs))) (length p.entries) ≡ p.states * letter_count ss
    used =
        let c : letter_count (described p.lows p.highs) ≡ letter_count ss = ap₂ (λ l h. letter_count (described l h)) lows highs ∙ letter_count-unnamed ss in
        let d : cut_count (letter_count (described p.lows p.highs)) ≡ letter_count ss = ap cut_count c ∙ omega arith in
        ap (λ n. min (p.states * n) (length p.entries)) d ∙ omega arith

    -- "a heading with the names, then a line for each entry that is not 65,535, by state and letter"
    pub table-text : output_text p ≡ printed ss p.states p.entries p.finals
    table-text =
        ap (λ n. lines_from (output_at p) 0 (places_or p.refusal (suc n))) used
        ∙ given-text p.refusal (table_line p) given (p.states * letter_count ss)
        ∙ ap₂ ◌++◌ (heading ss more_names more_lengths names lengths lows) (ap₂ (λ l h. lines_from (place_text l h p.entries p.finals) 0 (p.states * letter_count ss)) lows highs)
        ∙ printed-whole ss p.entries p.finals few bounded short more_names more_lengths p.states

-- ---- how long a line is

module _ (p : Printout) (refusal : p.refusal < 4294967296) (lows : AllFit p.lows) (highs : AllFit p.highs) (entries : (i : ℕ) → get_or p.entries i 0 < 65536)
    (finals : (i : ℕ) → get_or p.finals i 0 < 256) (size : length p.entries < 18446744073709551616) where
  pub place_short : (place : ℕ) → length (place_text p.lows p.highs p.entries p.finals place) ≤ line_room
  place_short place = by (ltb place (length p.entries)) refl
    where
      by : (t : Bool) → ltb place (length p.entries) ≡ t → length (place_text p.lows p.highs p.entries p.finals place) ≤ line_room
      by true e =
          let h = ltb-true place (length p.entries) e in
          place-length p.lows p.highs p.entries p.finals place lows highs (omega (arith, entries place, get_or-inside p.entries place no_state 0 h)) finals (omega arith)
      by false e = omega (arith, ap length (nothing-beyond p.lows p.highs p.entries p.finals place (ltb-false place (length p.entries) e)))

  table-short : (k : ℕ) → length (table_line p k) ≤ line_room
  table-short zero = omega (arith, heading_length p.names p.lengths (length p.lows))
  table-short (suc place) = place_short place

  pub line-short : (k : ℕ) → length (output_at p k) ≤ line_room
  line-short = short-or_refused p.refusal (table_line p) refusal table-short
