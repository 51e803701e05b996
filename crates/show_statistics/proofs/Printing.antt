-- What `show_statistics` prints by its calls is what docs/statistics.md says of the text: the sizes of the stored sheet, with the answer of its compile in the
-- rows lent, and with 9 the situations that exploring counts in as many rows. Said in the terms of the calls' contracts. From the one answer to a text
-- (outcome), the rows lent (lend) and what exploring finds (situations).
use Prim.Native.Nat.{ℕ, ◌*◌, ◌/◌, ◌≤◌, ◌<◌, min}
use native.Mathlib.Omega.{arith}
use native.Mathlib.Nat.{le_trans}
use mathlib.Core.Path.{◌≡◌, refl, sym, ◌∙◌, ap, subst, transport}
use mathlib.Core.Logic.{inl, inr}
use mathlib.Core.List.{List, append-nil}
use lib.ListN.{length}
use borrow.Author.Tests.{ne_eqb, le-ltb}
use Rattle.basics.proofs.Count.{count_unique, count_excludes_more}
use Rattle.meaning.specs.Expression.{Sheet}
use Rattle.meaning.specs.Letter.{letter_count}
use Rattle.meaning.specs.Window.{B, D}
use Rattle.meaning.specs.Situation.{SituationCount}
use Rattle.sheet.specs.Reading.{answer_to}
use Rattle.sheet.specs.Accepted.{Accepted}
use Rattle.sheet.proofs.Accepted.{accepted_facts}
use Rattle.reader.specs.declared.Reading.{Reading}
use Rattle.reader.specs.declared.StoredSheet.{StoredSheet}
use Rattle.reader.specs.Stored.{stored_sheet, reading_of}
use Rattle.explore.specs.Exploration.{ExploreTables}
use Rattle.situations.specs.Found.{SituationsFound, RoomFor, values_list, ExploredSheet}
use Rattle.situations.proofs.Found.{explored-situations}
use Rattle.situations.proofs.Stored.{sheet-letters}
use Rattle.outcome.specs.Room.{LentTable, fewest_rows}
use Rattle.outcome.specs.Compile.{CompileAnswer, room_rows, Tables, SheetOutcome, too_many_situations, too_few_rows, no_solution, compiled, CompileCall, unread as text_unread, read}
use Rattle.outcome.proofs.AcceptedCompile.{refusal-in_range}
use Rattle.outcome.proofs.CompileTotal.{fewest_first}
use Rattle.lend.specs.Lend.{rows_lent, lent_room}
use Rattle.lend.proofs.Rows.{lent-entries, lent_rows}
use Rattle.lend.proofs.Outcome.{stored_is, in_lent_room}
use Rattle.print.specs.Text.{refusal_line}
use Rattle.statistics_text.specs.declared.Statistics.{Statistics}
use Rattle.statistics_text.specs.Text.{known_line, statistics_text}
use Rattle.show_statistics.specs.Prints.{sizes_text, situations_line, PrintsSizes, uncounted, unsolved, solved, PrintsStatistics, unread, sized}
use Rattle.show_statistics.specs.Shows.{CountsSituations, KnowsSituations, told, counted}
use Rattle.show_statistics.proofs.Prints.{sheet-outcome}

-- ---- situations that are counted

-- Exploring a stored sheet in tables of the rows lent counts its situations.
pub explored-counts : {x : StoredSheet} {rows n : ℕ} {before after : ExploreTables} → rows ≡ rows_lent x.letters → length before.keys ≡ 4096 → length before.heads ≡ 256 → length before.links ≡ 256
    → length before.entries ≡ 32768 → length before.flags ≡ 256 → ExploredSheet x (values_list x.letters) rows before after n → CountsSituations x n
explored-counts {rows = rows} {n} {before} {after} cut keys heads links entries flags e s accepted same m count few = go (explored-situations e s accepted same room)
  where
    lent : rows ≡ rows_lent (letter_count s.streams)
    lent = cut ∙ ap rows_lent (sheet-letters s same)

    inside : rows * letter_count s.streams ≤ 32768
    inside = subst (λ k. k * letter_count s.streams ≤ 32768) (sym lent) (lent-entries (letter_count s.streams))

    within : rows ≤ 256
    within = omega (arith, lent, lent_rows (letter_count s.streams))

    room : RoomFor rows (letter_count s.streams) before
    room =
        record {
          few = omega (arith, within);
          keys_fit = omega (arith, within);
          heads_fit = omega (arith, within);
          links_fit = omega (arith, within);
          entries_fit = omega (arith, inside);
          finals_fit = omega (arith, within);
        }

    go : SituationsFound s rows n after.entries after.flags → n ≡ m
    go (inl p) = absurd (count_excludes_more count rows (omega (arith, few, lent)) p.1)
    go (inr q) = count_unique q.1 count

-- ---- the text

-- The sizes of a sheet, with the answer of its compile and so many situations.
abbrev sheet_statistics : Sheet → CompileAnswer → ℕ → Statistics
sheet_statistics s a n =
    record {
      refusal = a.refusal;
      letters = letter_count s.streams;
      ahead = D s.constraints;
      back = B s.constraints;
      situations = n;
      states = a.states;
      rows = rows_lent (letter_count s.streams);
    }

-- The room of the rows lent has no more rows than these.
few_rows : (letters : ℕ) → room_rows (lent_room letters) letters ≤ rows_lent letters
few_rows letters =
    let finals : LentTable = record { per_row = 1; size = rows_lent letters } in
    inside (rows_lent letters * letters / letters) (fewest_rows finals (lent_room letters).work) (rows_lent letters) (fewest_first finals (lent_room letters).work)
  where
    inside : (first rest rows : ℕ) → rest ≤ rows / 1 → min first rest ≤ rows
    inside first rest rows h = omega arith

sizes-printed : {s : Sheet} {stored : StoredSheet} {a : CompileAnswer} {t : Tables} {n : ℕ} → Accepted s → stored ≡ stored_sheet s → SheetOutcome s (lent_room (letter_count s.streams)) a t
    → KnowsSituations stored a n → PrintsSizes s a (statistics_text (sheet_statistics s a n))
unfolding statistics_text known_line
sizes-printed f same (too_many_situations h x) k = uncounted (λ e. omega arith) (λ e. omega arith)
sizes-printed f same (too_few_rows h x) k = uncounted (λ e. omega arith) (λ e. omega arith)
sizes-printed f same (no_solution fits x) (told d e) = absurd (d refl)
sizes-printed {s} {n = n} f same (no_solution {m} fits x) (counted e k) =
    let number = k s f same m fits.counted (le_trans fits.within_room (few_rows (letter_count s.streams))) in
    subst (PrintsSizes s _) (ap (λ l. sizes_text s l (refusal_line 9)) (sym (append-nil (situations_line n)))) (unsolved refl (subst (SituationCount s) (sym number) fits.counted))
sizes-printed {s} f same (compiled fits x) (told d e) = solved refl (subst (SituationCount s) (sym e) fits.counted)
sizes-printed f same (compiled fits x) (counted e k) = absurd (omega arith)

-- With a refusal 1 to 7 its line alone is printed.
unread-text : (x : Statistics) → 0 < x.refusal → x.refusal ≤ 7 → refusal_line x.refusal ≡ statistics_text x
unfolding statistics_text known_line
unread-text x some small =
    let zero = ne_eqb x.refusal 0 (λ e. omega arith) in let nine = ne_eqb x.refusal 9 (λ e. omega arith) in let seven = le-ltb 7 x.refusal small in simp (zero, nine, seven)

module _ (text : List ℕ) {reading : Reading} (read_as : reading ≡ reading_of (answer_to text)) {rows : ℕ} (lent : rows ≡ rows_lent reading.sheet.letters) where
  -- The sizes of a stored sheet, with so many rows.
  abbrev stored_statistics : StoredSheet → (rows : ℕ) → CompileAnswer → ℕ → Statistics
  stored_statistics x k a n = record { refusal = a.refusal; letters = x.letters; ahead = x.ahead; back = x.back; situations = n; states = a.states; rows = k }

  pub call-prints : {a : CompileAnswer} {t : Tables} {n : ℕ} → CompileCall text (lent_room reading.sheet.letters) a t → KnowsSituations reading.sheet a n
      → PrintsStatistics text (statistics_text (stored_statistics reading.sheet rows a n))
  unfolding stored_sheet
  call-prints {a} {n = n} (text_unread r) k =
      let range = refusal-in_range r in subst (PrintsStatistics text) (unread-text (stored_statistics reading.sheet rows a n) range.0 range.1) (unread r)
  call-prints {a} {t} {n} (read {s} r o) k =
      let same = stored_is text read_as r in
      let c = in_lent_room text read_as r (read r o) in
      let printed = sized c (sizes-printed (accepted_facts r) same (sheet-outcome r c.call) k) in
      transport (λ i. PrintsStatistics text (statistics_text (stored_statistics (sym same i) (sym (lent ∙ ap (λ x. rows_lent x.letters) same) i) a n))) printed
