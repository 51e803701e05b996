-- What `join` prints by its calls is what document 02 says of the two sheets: the used rows of the tables that `open_table` gives are passed to `join_tables`, in
-- the rows lent for the letters that `join_streams` counts, and the table that it leaves, or the refusal, is written. Said in the terms of the calls' contracts.
-- From the outcome of a join (theorems), the text of a table (pages) and the used rows of what is opened (opened_tables).
use Prim.Native.Nat.{ℕ, ◌-◌, ◌*◌, ◌≤◌, min}
use native.Mathlib.Omega.{arith}
use native.Mathlib.Decide.{ℕ_discrete}
use mathlib.Core.Path.{◌≡◌, refl, sym, ap, subst, transport, ◌∙◌}
use mathlib.Core.Logic.{◌⊎◌, inl, inr}
use mathlib.Core.List.{List, [], ◌∷◌, ◌++◌}
use mathlib.Core.Option.{none}
use lib.IntN.{ℤ, pos}
use lib.ListN.{length, take, replicate, length-map, length-append}
use lib.Seq.{take_at}
use Rattle.meaning.specs.Expression.{Stream}
use Rattle.meaning.specs.Letter.{letter_count}
use Rattle.sheet.proofs.Names.{short-names}
use Rattle.nodes.specs.Bounds.{lows_of, highs_of}
use Rattle.header.specs.Streams.{name_bytes, name_lengths}
use Rattle.outcome.specs.Room.{LentTable}
use Rattle.outcome.specs.Compile.{Room, Tables, all_zero}
use Rattle.lend.specs.Lend.{rows_lent}
use Rattle.lend.proofs.Outcome.{refused-positive}
use Rattle.table_text.specs.Table.{printed}
use Rattle.table_text.proofs.Table.{printed-part}
use Rattle.pages.specs.Output.{output_text}
use Rattle.pages.proofs.Output.{table-text}
use Rattle.streams.specs.declared.StreamsDescription.{StreamsDescription}
use Rattle.given_tables.specs.Given.{GivenTable}
use Rattle.joined_streams.specs.declared.JoinedStreams.{JoinedStreams}
use Rattle.joined_streams.specs.Outcome.{JoinedStreamsOutcome, JoinedStreamsOutcome.unfit as streams_unfit, JoinedStreamsOutcome.clash as streams_clash, JoinedStreamsOutcome.bounded as streams_bounded, BoundsOutcome.over_bounds as streams_large, BoundsOutcome.joined as streams_joined}
use Rattle.join_tables.specs.Outcome.{river_streams, CanJoin, JoinOutcome, JoinOutcome.unfit as join_unfit, JoinOutcome.clash as join_clash, JoinOutcome.over_bounds as join_large, JoinOutcome.together as join_together}
use Rattle.join_tables.specs.declared.JoinAnswer.{JoinAnswer}
use Rattle.theorems.proofs.JoinedStreams.{joined-accepted}
use Rattle.theorems.proofs.Joins.{join_given, can_join, join_leaves, joined-table-fit}
use Rattle.table_pages.specs.Printout.{described_printout, WritesTable}
use Rattle.table_pages.proofs.Pages.{refused-is}
use Rattle.output.specs.Output.{Hands}
use Rattle.output.specs.declared.Handed.{Handed}
use Rattle.opening.specs.declared.OpenedTable.{OpenedTable}
use Rattle.opening.specs.Opens.{OpensTable, OpensTable.refused_sheet as gives_no_table, OpensTable.no_start as gives_no_state, OpensTable.opened as table}
use Rattle.opening.proofs.Plays.{none≢some}
use Rattle.opened_tables.specs.Used.{opened_given, compiled_given}
use Rattle.opened_tables.proofs.Used.{opened-given, start_none}
use Rattle.show_join.specs.Prints.{join_room_of_rows, join_lent_room, join_tables_of_rows, JoinedLent, PrintsTables, turned_away, joined, PrintsJoin, refused_first, refused_second, together}
use Rattle.show_join.specs.Shows.{Shows, PrintsBoth, first_is, second_is, both, PrintsFrom, first_refused, second_refused, with_second}

-- ---- a join in the tables of so many rows

-- A table with this many numbers, and one number a row.
abbrev single : ℕ → LentTable
single size = record { per_row = 1; size = size }

abbrev sized_work : (keys live class next heads links envelopes : ℕ) → List LentTable
sized_work keys live class next heads links envelopes = single keys ∷ (single live ∷ (single class ∷ (single next ∷ (single heads ∷ (single links ∷ (single envelopes ∷ []))))))

pub in_rows : {a b : GivenTable} {r : JoinAnswer} {m n rows keys live class next heads links envelopes : ℕ} {entries finals : List ℕ} {work : List (List ℕ)}
    → rows ≡ keys → rows ≡ live → rows ≡ class → rows ≡ next → rows ≡ heads → rows ≡ links → rows ≡ envelopes
    → JoinOutcome a b (record { entries = m; finals = n; work = sized_work keys live class next heads links envelopes }) r (record { entries = entries; finals = finals; work = work })
    → JoinOutcome a b (join_room_of_rows m n rows) r (join_tables_of_rows rows entries finals)
in_rows {a} {b} {r} {m} {n} {rows} {entries = entries} {finals} {work} hk hl hc hn hh hi hs call =
    let sized = subst (λ w. JoinOutcome a b (record { entries = m; finals = n; work = w }) r (record { entries = entries; finals = finals; work = work }))
    (λ i. sized_work (sym hk i) (sym hl i) (sym hc i) (sym hn i) (sym hh i) (sym hi i) (sym hs i)) call in
    subst (λ w. JoinOutcome a b (join_room_of_rows m n rows) r (record { entries = entries; finals = finals; work = w })) (join_leaves sized).work_zero sized

-- ---- the rows lent

module _ {a b : GivenTable} where
  -- Where 11, 17 or 7 applies, the room does not matter.
  anywhere : {room : Room} {r : JoinAnswer} {t : Tables} → JoinOutcome a b room r t → ¬ CanJoin a b → (other : Room) → JoinOutcome a b other r (all_zero other)
  anywhere (join_unfit x) n other = join_unfit x
  anywhere (join_clash f g d) n other = join_clash f g d
  anywhere (join_large f g s d) n other = join_large f g s d
  anywhere (join_together can p) n other = absurd (n can)

  -- The letters that are counted are the joined ones, unless one of these applies.
  letters-counted : {q : JoinedStreams} → JoinedStreamsOutcome a.streams b.streams a.letters b.letters q → (¬ CanJoin a b) ⊎ (q.letters ≡ letter_count (river_streams a b))
  letters-counted (streams_unfit x) = inl (λ can. x (can.left_fit.streams_fit, can.right_fit.streams_fit))
  letters-counted (streams_clash f g d) = inl (λ can. d can.shared)
  letters-counted (streams_bounded f g s (streams_large d)) = inl (λ can. d can.bounds)
  letters-counted (streams_bounded f g s (streams_joined w x)) = inr x.letters

-- ---- the text of the joined table

-- The values that are described, without the zeros behind them.
described-part : (js : List Stream) → length js ≤ 8 → (l : List ℤ) → length l ≡ length js → take (min (length js) 8) (l ++ replicate (8 - length l) (pos 0)) ≡ l
described-part js few l long = let e : min (length js) 8 ≡ length js = omega arith in ap (λ n. take n (l ++ replicate (8 - length l) (pos 0))) e ∙ take_at l (replicate (8 - length l) (pos 0)) (length js) long

module _ {a b : GivenTable} {room : Room} {r : JoinAnswer} {t : Tables} (call : JoinOutcome a b room r t) (z : r.refusal ≡ 0) where
  abbrev js : List Stream
  js = river_streams a b

  river_text : (entries finals : List ℕ) → r.states * letter_count js ≤ length entries → output_text (described_printout r.streams r.refusal r.states entries finals) ≡ printed js r.states entries finals
  river_text entries finals fits =
      let can = can_join call z in
      let few = can.bounds.few_streams in
      let accepted = joined-accepted can.left_fit.streams_fit.accepted can.right_fit.streams_fit.accepted can.shared can.bounds in
      let same = (join_given call z).streams in
      table-text (described_printout r.streams r.refusal r.states entries finals) z few can.bounds.few_letters (short-names accepted) (replicate (64 - length (name_bytes js)) 0) (replicate (8 - length (name_lengths js)) 0)
      (ap (λ (d : StreamsDescription). d.names) same) (ap (λ (d : StreamsDescription). d.lengths) same)
      (ap (λ (d : StreamsDescription). take (min d.count 8) d.lows) same ∙ described-part js few (lows_of js) (length-map js (λ x. x.range.low)))
      (ap (λ (d : StreamsDescription). take (min d.count 8) d.highs) same ∙ described-part js few (highs_of js) (length-map js (λ x. x.range.high))) fits

-- ---- what the calls print of two tables

module _ {a b : GivenTable} {q : JoinedStreams} (counted : JoinedStreamsOutcome a.streams b.streams a.letters b.letters q) {rows m n : ℕ} (lent : rows ≡ rows_lent q.letters) {r : JoinAnswer}
    {back back' : List ℕ} (behind behind' : List ℕ) (fit : rows * q.letters ≡ m) (fit' : rows ≡ n) (call : JoinOutcome a b (join_room_of_rows m n rows) r (join_tables_of_rows rows back back')) where
  abbrev k : ℕ
  k = letter_count (river_streams a b)

  -- The join was made in the rows lent for the joined letters.
  in_lent : q.letters ≡ k → JoinedLent a b r (join_tables_of_rows (rows_lent k) back back')
  in_lent e =
      let own : rows ≡ rows_lent k = lent ∙ ap rows_lent e in
      let entries : m ≡ rows_lent k * k = sym fit ∙ (λ i. own i * e i) in
      let finals : n ≡ rows_lent k = sym fit' ∙ own in
      transport (λ i. JoinOutcome a b (join_room_of_rows (entries i) (finals i) (own i)) r (join_tables_of_rows (own i) back back')) call

  pub tables_print : PrintsTables a b (output_text (described_printout r.streams r.refusal r.states (back ++ behind) (back' ++ behind')))
  tables_print = by (ℕ_discrete r.refusal 0) (letters-counted counted)
    where
      by : Dec (r.refusal ≡ 0) → (¬ CanJoin a b) ⊎ (q.letters ≡ k) → PrintsTables a b (output_text (described_printout r.streams r.refusal r.states (back ++ behind) (back' ++ behind')))
      by (no d) (inl f) = subst (PrintsTables a b) (sym (refused-is r.streams r.refusal r.states (back ++ behind) (back' ++ behind') d)) (turned_away (anywhere call f (join_lent_room k)) (omega arith))
      by (no d) (inr e) = subst (PrintsTables a b) (sym (refused-is r.streams r.refusal r.states (back ++ behind) (back' ++ behind') d)) (turned_away (in_lent e) (omega arith))
      by (yes z) (inl f) = absurd (f (can_join call z))
      by (yes z) (inr e) =
          let own = in_lent e in
          let held = (join_given own z).held in
          let size = held.entries_size in
          let size' = held.finals_size in
          let inside = held.table.entries_fit in
          let whole : r.states * k ≤ length (back ++ behind) = let l = length-append back behind in omega (arith, inside, l) in
          let text = river_text own z (back ++ behind) (back' ++ behind') whole
          ∙ printed-part (river_streams a b) (back ++ behind) (back' ++ behind') {m = length back} {n = length back'} inside held.table.finals_fit
          ∙ (λ i. printed (river_streams a b) r.states (take_at back behind (length back) refl i) (take_at back' behind' (length back') refl i)) in
          subst (PrintsTables a b) (sym text) (joined own z)

  pub shown-tables : {w : Handed} → WritesTable r.streams r.letters r.refusal r.states (back ++ behind) (back' ++ behind') w → Shows (PrintsTables a b) w
  shown-tables {w} written = record { bytes = output_text (described_printout r.streams r.refusal r.states (back ++ behind) (back' ++ behind')); prints = tables_print; hands = by (ℕ_discrete r.refusal 0) }
    where
      by : Dec (r.refusal ≡ 0) → Hands (output_text (described_printout r.streams r.refusal r.states (back ++ behind) (back' ++ behind'))) w.size w.whole
      by (yes z) = written.table z (joined-table-fit call z).streams_fit
      by (no d) = subst (λ l. Hands l w.size w.whole) (sym (refused-is r.streams r.refusal r.states (back ++ behind) (back' ++ behind') d)) (written.refused d)

-- ---- what the calls print for two sheets

module _ {second : List ℕ} where
  pub both_print : {first opened : OpenedTable} {a : GivenTable} {entries finals bytes : List ℕ} → OpensTable second none opened entries finals → PrintsBoth first opened a (opened_given opened entries finals) bytes
      → PrintsFrom first.refusal a second bytes
  both_print o (first_is d) = first_refused d
  both_print (gives_no_table x) (second_is y d) = second_refused y x
  both_print (gives_no_state c z x) (second_is y d) = absurd (none≢some x (start_none _))
  both_print (table c z x) (second_is y d) = absurd (d refl)
  both_print (gives_no_table x) (both y w p) = absurd (omega (arith, refused-positive x))
  both_print (gives_no_state c z x) (both y w p) = absurd (none≢some x (start_none _))
  both_print {a = a} {bytes = bytes} (table {t = t} {state} c z x) (both y w p) =
      with_second y c z (subst (λ g. PrintsTables a g bytes) (opened-given c z state (32768 - length t.entries) (256 - length t.finals)) p)

  pub calls_print : {first : List ℕ} {x : OpenedTable} {entries finals bytes : List ℕ} → OpensTable first none x entries finals
      → PrintsFrom x.refusal (opened_given x entries finals) second bytes → PrintsJoin first second bytes
  calls_print (gives_no_table r) (first_refused d) = refused_first r
  calls_print (gives_no_table r) (second_refused e q) = absurd (omega (arith, refused-positive r))
  calls_print (gives_no_table r) (with_second e c z p) = absurd (omega (arith, refused-positive r))
  calls_print (gives_no_state c z x) p = absurd (none≢some x (start_none _))
  calls_print (table c z x) (first_refused d) = absurd (d refl)
  calls_print (table c z x) (second_refused e q) = refused_second c z q
  calls_print (table {s} {a} {t} {state} c z x) (with_second {q} {b} {u} {bytes} e d y p) =
      together c z d y (subst (λ g. PrintsTables g (compiled_given q b u) bytes) (opened-given c z state (32768 - length t.entries) (256 - length t.finals)) p)
