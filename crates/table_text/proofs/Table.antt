-- The entries place by place, as the program prints them, are those by state and letter (document 01, P1), and with the heading they are the
-- table's text, which is that of the rows of its states alone.
use Prim.Native.Nat.{ℕ, zero, suc, ◌+◌, ◌*◌, ◌/◌, ◌%◌, ◌≤◌, ◌<◌, min}
use native.Mathlib.Omega.{arith}
use native.Mathlib.Nat.{lt_of_lt_of_le}
use mathlib.Core.Path.{◌≡◌, refl, sym, ◌∙◌, ap, ap₂}
use mathlib.Core.Bool.{true, cond}
use mathlib.Core.List.{List, [], ◌++◌, map, append_assoc, append-nil}
use lib.Arith.{digits_lt, digits_div, digits_mod}
use lib.Dec.{eqb}
use lib.ListN.{length, get_or, take}
use lib.Seq.{get_or-take}
use Rattle.basics.proofs.Reflects.{to_true}
use Rattle.meaning.specs.Expression.{Stream}
use Rattle.meaning.specs.Letter.{letter_count, letter_of}
use Rattle.meaning.specs.Window.{join_over}
use Rattle.sheet.specs.Refusal.{letter_bound}
use Rattle.sheet.specs.Names.{eight_bytes, ShortNames}
use Rattle.nodes.specs.Bounds.{lows_of, highs_of}
use Rattle.automaton.specs.Table.{no_state}
use Rattle.letters.specs.Described.{has_letter}
use Rattle.letters.proofs.Streams.{unnamed, length-unnamed, letter_count-unnamed, letter_of-unnamed, letter_reflects}
use Rattle.print.specs.Text.{heading_line, entry_line}
use Rattle.table_text.specs.Table.{entry_text, row_text, table_text, printed, place_text}
use Rattle.print.specs.Lines.{lines_from, stored_names}
use Rattle.print.proofs.Names.{stored-names}

-- A number below the count of a sheet's letters is that of a letter.
pub has_letter_lem : (ss : List Stream) → length ss ≤ 8 → letter_count ss ≤ letter_bound → (letter : ℕ) → letter < letter_count ss → has_letter (unnamed ss) letter 8 ≡ true
has_letter_lem ss few bounded letter h =
    let c = letter_count-unnamed ss in
    let n = length-unnamed ss in
    to_true (letter_reflects (unnamed ss) letter 8) (record { few = omega arith; known = omega arith; fits = omega arith })

-- The heading of the stored names is that of the names.
pub heading_stored : (ss : List Stream) → length ss ≤ 8 → ShortNames ss → (more_names more_lengths : List ℕ)
    → heading_line (stored_names (join_over eight_bytes ss ++ more_names) (map (λ x. length x.name) ss ++ more_lengths) (min (length ss) 8)) ≡ heading_line (map (λ x. x.name) ss)
heading_stored ss few short more_names more_lengths =
    let e : min (length ss) 8 ≡ length ss = omega arith in
    ap heading_line (ap (stored_names (join_over eight_bytes ss ++ more_names) (map (λ x. length x.name) ss ++ more_lengths)) e ∙ stored-names more_names more_lengths ss short)

module _ (ss : List Stream) (entries finals : List ℕ) (few : length ss ≤ 8) (bounded : letter_count ss ≤ letter_bound) where
  -- The streams' names have no part in an entry's text.
  entry-unnamed : (state letter : ℕ) → entry_text (unnamed ss) entries finals state letter ≡ entry_text ss entries finals state letter
  entry-unnamed state letter =
      ap₂ (λ n l. cond (eqb (get_or entries (state * n + letter) no_state) no_state) [] (entry_line state (get_or finals state 0) l (get_or entries (state * n + letter) no_state))) (letter_count-unnamed ss)
      (letter_of-unnamed ss letter)

  pub place-text : (state letter : ℕ) → letter < letter_count ss
      → place_text (lows_of ss) (highs_of ss) entries finals (state * letter_count ss + letter) ≡ entry_text ss entries finals state letter
  unfolding place_text
  place-text state letter h =
      let c = letter_count-unnamed ss in
      ap (λ n. cond (has_letter (unnamed ss) ((state * letter_count ss + letter) % n) 8) (entry_text (unnamed ss) entries finals ((state * letter_count ss + letter) / n) ((state * letter_count ss + letter) % n)) []) c
      ∙ ap₂ (λ q r. cond (has_letter (unnamed ss) r 8) (entry_text (unnamed ss) entries finals q r) []) (digits_div state h) (digits_mod state h)
      ∙ ap (λ t. cond t (entry_text (unnamed ss) entries finals state letter) []) (has_letter_lem ss few bounded letter h)
      ∙ entry-unnamed state letter

  abbrev up_to : ℕ → List ℕ
  up_to n = lines_from (place_text (lows_of ss) (highs_of ss) entries finals) 0 n

  row-places : (state letter : ℕ) → letter ≤ letter_count ss → up_to (state * letter_count ss + letter) ≡ up_to (state * letter_count ss) ++ row_text ss entries finals state letter
  unfolding lines_from row_text
  row-places state zero h = let e : state * letter_count ss + 0 ≡ state * letter_count ss = omega arith in ap up_to e ∙ sym (append-nil (up_to (state * letter_count ss)))
  row-places state (suc letter) h =
      let e : state * letter_count ss + suc letter ≡ suc (state * letter_count ss + letter) = omega arith in
      let z : 0 + (state * letter_count ss + letter) ≡ state * letter_count ss + letter = omega arith in
      ap up_to e ∙ ap₂ ◌++◌ (row-places state letter (omega arith)) (ap (place_text (lows_of ss) (highs_of ss) entries finals) z ∙ place-text state letter h)
      ∙ append_assoc (up_to (state * letter_count ss)) (row_text ss entries finals state letter) (entry_text ss entries finals state letter)

  pub table-places : (states : ℕ) → up_to (states * letter_count ss) ≡ table_text ss states entries finals
  unfolding lines_from table_text
  table-places zero = let e : 0 * letter_count ss ≡ 0 = omega arith in ap up_to e
  table-places (suc state) =
      let e : suc state * letter_count ss ≡ state * letter_count ss + letter_count ss = omega arith in
      ap up_to e ∙ row-places state (letter_count ss) (omega arith) ∙ ap (λ l. l ++ row_text ss entries finals state (letter_count ss)) (table-places state)

  -- The heading of the stored names and the entries of the states' places are what `sluice` prints.
  pub printed-whole : ShortNames ss → (more_names more_lengths : List ℕ) (states : ℕ)
      → heading_line (stored_names (join_over eight_bytes ss ++ more_names) (map (λ x. length x.name) ss ++ more_lengths) (min (length ss) 8)) ++ up_to (states * letter_count ss)
      ≡ printed ss states entries finals
  unfolding printed
  printed-whole short more_names more_lengths states = ap₂ ◌++◌ (heading_stored ss few short more_names more_lengths) (table-places states)

-- What stands behind the rows of the states has no part in the text.
module _ (ss : List Stream) (entries finals : List ℕ) {states m n : ℕ} (fits : states * letter_count ss ≤ m) (fits' : states ≤ n) where
  entry-part : (state letter : ℕ) → state < states → letter < letter_count ss → entry_text ss entries finals state letter ≡ entry_text ss (take m entries) (take n finals) state letter
  entry-part state letter h k =
      ap₂ (λ e f. cond (eqb e no_state) [] (entry_line state f (letter_of ss letter) e)) (sym (get_or-take m entries (state * letter_count ss + letter) no_state (lt_of_lt_of_le (digits_lt h k) fits)))
      (sym (get_or-take n finals state 0 (omega arith)))

  row-part : (state letter : ℕ) → state < states → letter ≤ letter_count ss → row_text ss entries finals state letter ≡ row_text ss (take m entries) (take n finals) state letter
  unfolding row_text
  row-part state zero h k = refl
  row-part state (suc letter) h k = ap₂ ◌++◌ (row-part state letter h (omega arith)) (entry-part state letter h k)

  table-part : (count : ℕ) → count ≤ states → table_text ss count entries finals ≡ table_text ss count (take m entries) (take n finals)
  unfolding table_text
  table-part zero h = refl
  table-part (suc state) h = ap₂ ◌++◌ (table-part state (omega arith)) (row-part state (letter_count ss) h (omega arith))

  pub printed-part : printed ss states entries finals ≡ printed ss states (take m entries) (take n finals)
  unfolding printed
  printed-part = ap (heading_line (map (λ s. s.name) ss) ++◌) (table-part states (omega arith))
