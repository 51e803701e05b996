-- What `show_counts` prints by its calls is what document 02 says of the number and the text: the table that `open_table` gives is passed to `count_records` cut
-- to its used rows, and the figures that it leaves, or the refusal, are printed. Said in the terms of the calls' contracts. From what is opened (opening), the
-- rows that a compile leaves and the records that they count (theorems), and the lines of figures (counts_text).
use Prim.Native.Nat.{ℕ, suc, ◌+◌, ◌-◌, ◌*◌, ◌≤◌, ◌<◌, min}
use native.Mathlib.Omega.{arith}
use native.Mathlib.Decide.{dec_le}
use mathlib.Core.Path.{◌≡◌, refl, sym, ◌∙◌, ap, subst, transport}
use mathlib.Core.Bool.{Bool, true, false, cond}
use mathlib.Core.List.{List, ◌++◌}
use mathlib.Core.Option.{none, some}
use lib.Dec.{eqb}
use lib.ListN.{length, take, get_or}
use lib.Seq.{length-take-le, take_all, take-append-le, get_or-take}
use borrow.Author.Tests.{ne_eqb}
use Rattle.meaning.specs.Expression.{Sheet}
use Rattle.meaning.specs.Letter.{letter_count}
use Rattle.sheet.specs.Reading.{answer_to}
use Rattle.reader.specs.Stored.{reading_of}
use Rattle.situations.proofs.Stored.{sheet-letters}
use Rattle.outcome.specs.Room.{zeros}
use Rattle.outcome.specs.Compile.{CompileAnswer, Tables}
use Rattle.theorems.specs.UsedRows.{used_entries, used_finals}
use Rattle.theorems.proofs.Courses.{compiled-well_formed}
use Rattle.theorems.proofs.RecordCounts.{finals-fewer, counted-records, counted-finals, more-records}
use Rattle.lend.specs.Lend.{CompiledLent, RefusedLent}
use Rattle.lend.proofs.Outcome.{compiled-held, refused-positive, stored_is}
use Rattle.print.specs.Text.{refusal_line}
use Rattle.opening.specs.declared.OpenedTable.{OpenedTable}
use Rattle.opening.specs.Start.{start_state}
use Rattle.opening.specs.Opens.{OpensTable, OpensTable.refused_sheet as gives_no_table, OpensTable.no_start as gives_no_state, OpensTable.opened as table}
use Rattle.std.specs.Prelude.{Option as MachineOption, Some, None, is_some, unwrap_or}
use Rattle.first_line.specs.Machine.{early_refusal}
use Rattle.figure_sums.specs.Sums.{highest_figure}
use Rattle.counting.specs.Counting.{HasFigures, CountsRecords}
use Rattle.counts_text.specs.Counts.{listed_text}
use Rattle.counts_text.proofs.Lines.{listed-figures}
use Rattle.show_counts.specs.Prints.{TooMany, too_high, PrintsCounts, first_refusal, second_refusal, no_number, refused_sheet, too_many, counted}
use Rattle.show_counts.specs.Shows.{number_given, FindsFigures, is_refused, are_found}
use Rattle.show_counts.proofs.Prints.{not-too_many, few_letters, bounded-figure, too_many_decided, Placed, is_first, is_second, is_later, sheet_passes, refused_placed}

-- Without a start the state is 0.
no_start : (states : ℕ) → start_state states none ≡ none → ⊥
unfolding start_state
no_start states e = let z : ◌≡◌ {A = ℕ} 0 1 = cc in omega arith

-- The refusal of the sheet with that of the line, by whether the line has a number.
abbrev early : Bool → ℕ → ℕ
early found n = cond (eqb n 1) 1 (cond (eqb n 2) 2 (cond found n 3))

-- A refusal of the sheet is not 0 beside the line's 3.
no_early : (n : ℕ) (found : Bool) → 0 < n → early found n ≡ 0 → ⊥
no_early n found h e = by (eqb n 1) (eqb n 2) found e
  where
    by : (first second found : Bool) → cond first 1 (cond second 2 (cond found n 3)) ≡ 0 → ⊥
    by true second found k = omega arith
    by false true found k = omega arith
    by false false true k = omega arith
    by false false false k = omega arith

-- Behind 1 and 2 the line decides.
later-refusal : (found : Bool) (n : ℕ) → 3 ≤ n → early found n ≡ cond found n 3
later-refusal found n l =
    ap (λ t. cond t 1 (cond (eqb n 2) 2 (cond found n 3))) (ne_eqb n 1 (λ e. omega arith)) ∙ ap (λ t. cond t 2 (cond found n 3)) (ne_eqb n 2 (λ e. omega arith))

given-some : (number : MachineOption ℕ) → is_some number ≡ true → number_given number ≡ some (unwrap_or number 0)
given-some None e = cc
given-some (Some n) e = refl

given-none : (number : MachineOption ℕ) → is_some number ≡ false → number_given number ≡ none
given-none None e = refl
given-none (Some n) e = cc

given-value : (number : MachineOption ℕ) {m : ℕ} → number_given number ≡ some m → unwrap_or number 0 ≡ m
given-value None e = absurd (let no : ⊥ = cc in no)
given-value (Some n) e = cc

module _ (text : List ℕ) (number : MachineOption ℕ) where
  given : is_some number ≡ true → number_given number ≡ some (unwrap_or number 0)
  given = given-some number

  not-given : is_some number ≡ false → number_given number ≡ none
  not-given = given-none number

  abbrev Prints : ℕ → Type 0
  Prints n = PrintsCounts (number_given number) text (refusal_line n)

  -- ---- the refusal of the sheet or of the line

  -- A sheet that is refused with n.
  sheet-refused : {n : ℕ} → RefusedLent text n → Prints (early_refusal number n)
  sheet-refused {n} r = at (refused_placed r)
    where
      by : (found : Bool) → (is_some number) ≡ found → (number_given number ≡ none → Prints 3) → Prints (cond found n 3)
      by true g p = refused_sheet (given g) r
      by false g p = p (not-given g)

      at : Placed text n → Prints (early_refusal number n)
      at (is_first e x) = subst (λ m. Prints (early_refusal number m)) (sym e) (first_refusal x)
      at (is_second e p x) = subst (λ m. Prints (early_refusal number m)) (sym e) (second_refusal p x)
      at (is_later l p q) = subst Prints (sym (later-refusal (is_some number) n l)) (by (is_some number) refl (λ e. no_number p q e))

  pub early_prints : {opened : OpenedTable} {entries finals : List ℕ} {r : ℕ} → OpensTable text none opened entries finals → r ≡ early_refusal number opened.refusal → (r ≡ 0 → ⊥) → Prints r
  early_prints (gives_no_table x) e h = subst Prints (sym e) (sheet-refused x)
  early_prints (gives_no_state {s} {a} {t} c z f) e h = absurd (no_start a.states f)
  early_prints {r = r} (table c z f) e h = by (is_some number) refl e
    where
      by : (found : Bool) → (is_some number) ≡ found → r ≡ early found 0 → Prints r
      by true g k = absurd (h k)
      by false g k = let p = sheet_passes c.reads in subst Prints (sym k) (no_number p.0 p.1 (not-given g))

  -- ---- the figures

  -- Where neither refuses there is a number.
  is-given : {r : ℕ} → r ≡ early_refusal number 0 → r ≡ 0 → (is_some number) ≡ true
  is-given e h = by (is_some number) (sym e ∙ h)
    where
      by : (found : Bool) → early found 0 ≡ 0 → found ≡ true
      by true k = refl
      by false k = absurd (omega arith)

  module _ (figures final_figures : List ℕ) where
    -- The rows that are counted are the used rows of the sheet.
    counted_used : {s : Sheet} {a : CompileAnswer} {t : Tables} (c : CompiledLent text s a t) (z : a.refusal ≡ 0) {r : Bool} (m n : ℕ)
        → CountsRecords (reading_of (answer_to text)).sheet.letters (take (a.states * (reading_of (answer_to text)).sheet.letters) (t.entries ++ zeros m)) (take a.states (t.finals ++ zeros n)) (unwrap_or number 0) 65 65 r figures final_figures
        → CountsRecords (letter_count s.streams) (used_entries s a t) (used_finals a t) (unwrap_or number 0) 65 65 r figures final_figures
    counted_used {s} {a} {t} c z {r} m n o =
        let k = letter_count s.streams in
        let held = (compiled-held c z).table in
        let entries = take-append-le (a.states * k) t.entries (zeros m) held.entries_fit in
        let finals = take-append-le a.states t.finals (zeros n) held.finals_fit in
        let letters : (reading_of (answer_to text)).sheet.letters ≡ k = sheet-letters s (stored_is text refl c.reads) in
        let same = subst (λ l. CountsRecords l (take (a.states * l) (t.entries ++ zeros m)) (take a.states (t.finals ++ zeros n)) (unwrap_or number 0) 65 65 r figures final_figures) letters o in
        transport (λ i. CountsRecords k (entries i) (finals i) (unwrap_or number 0) 65 65 r figures final_figures) same

    pub figures-found : {opened : OpenedTable} {entries finals : List ℕ} {r : ℕ} → OpensTable text none opened entries finals → r ≡ early_refusal number opened.refusal → r ≡ 0
        → CountsRecords opened.sheet.letters (take (opened.states * opened.sheet.letters) entries) (take opened.states finals) (unwrap_or number 0) 65 65 true figures final_figures
        → FindsFigures (number_given number) text 0 figures final_figures
    figures-found (gives_no_table {n} x) e h o = absurd (no_early n (is_some number) (refused-positive x) (sym e ∙ h))
    figures-found (gives_no_state {s} {a} {t} c z f) e h o = absurd (no_start a.states f)
    figures-found (table {s} {a} {t} c z f) e h o =
        let used = counted_used c z (32768 - length t.entries) (256 - length t.finals) o in
        let has = used.says in
        let held = used.counted refl in
        are_found (given (is-given e h)) c z (not-too_many (omega (arith, has.fits)) (λ u l x. has.bounded u l ((more-records c.call c.reads z u highest_figure).0 x)))
        (record { records = λ u l. counted-records c.call c.reads z u (held.0.held u l); finals = λ u l. counted-finals c.call c.reads z u (held.1.held u l) })

    pub figures_lack : {opened : OpenedTable} {entries finals : List ℕ} {r : ℕ} → OpensTable text none opened entries finals → r ≡ early_refusal number opened.refusal → r ≡ 0
        → CountsRecords opened.sheet.letters (take (opened.states * opened.sheet.letters) entries) (take opened.states finals) (unwrap_or number 0) 65 65 false figures final_figures → Prints 19
    figures_lack (gives_no_table {n} x) e h o = absurd (no_early n (is_some number) (refused-positive x) (sym e ∙ h))
    figures_lack (gives_no_state {s} {a} {t} c z f) e h o = absurd (no_start a.states f)
    figures_lack (table {s} {a} {t} c z f) e h o = by (too_many_decided c z (unwrap_or number 0))
      where
        lacks : ¬ HasFigures (letter_count s.streams) (used_entries s a t) (used_finals a t) (unwrap_or number 0) 65 65
        lacks = (counted_used c z (32768 - length t.entries) (256 - length t.finals) o).says

        by : Dec (TooMany s (unwrap_or number 0)) → Prints 19
        by (yes x) = too_many (given (is-given e h)) c z x
        by (no x) =
            let few = few_letters x in
            absurd (lacks (record {
              well_formed = compiled-well_formed c.call c.reads z;
              fits = omega arith;
              final_fits = omega arith;
              bounded = λ u l y. x (too_high l ((more-records c.call c.reads z u highest_figure).1 y));
            }))

    -- ---- what the calls come to

    abbrev Finds : ℕ → Type 0
    Finds n = FindsFigures (number_given number) text n figures final_figures

    pub early_found : {opened : OpenedTable} {entries finals : List ℕ} {r : ℕ} → OpensTable text none opened entries finals → r ≡ early_refusal number opened.refusal → (r ≡ 0 → ⊥) → Finds r
    early_found {r = r} o e h = let Some-number : 0 < r = omega arith in is_refused Some-number (early_prints o e h)

    abbrev Counts : OpenedTable → (entries finals : List ℕ) → (most : ℕ) → Bool → (room final_room : ℕ) → Type 0
    Counts opened entries finals most told room final_room =
        CountsRecords opened.sheet.letters (take (opened.states * opened.sheet.letters) entries) (take opened.states finals) most room final_room told figures final_figures

    pub counted-found : {opened : OpenedTable} {entries finals : List ℕ} {r most room final_room : ℕ} {told : Bool} → OpensTable text none opened entries finals → r ≡ early_refusal number opened.refusal → r ≡ 0
        → most ≡ unwrap_or number 0 → room ≡ 65 → final_room ≡ 65 → told ≡ true → Counts opened entries finals most told room final_room → Finds 0
    counted-found {opened} {entries} {finals} o e h v size final_size t x = figures-found o e h (transport (λ i. Counts opened entries finals (v i) (t i) (size i) (final_size i)) x)

    pub counted_lack : {opened : OpenedTable} {entries finals : List ℕ} {r most room final_room : ℕ} {told : Bool} → OpensTable text none opened entries finals → r ≡ early_refusal number opened.refusal → r ≡ 0
        → most ≡ unwrap_or number 0 → room ≡ 65 → final_room ≡ 65 → told ≡ false → Counts opened entries finals most told room final_room → Finds 19
    counted_lack {opened} {entries} {finals} o e h v size final_size t x =
        is_refused {n = 19} (omega arith) (figures_lack o e h (transport (λ i. Counts opened entries finals (v i) (t i) (size i) (final_size i)) x))

-- ---- what is printed

-- A part that is cut to the whole is the part.
pub take_within : (n : ℕ) (l : List ℕ) → take (min n (length l)) l ≡ take n l
take_within n l = by (dec_le n (length l))
  where
    by : Dec (n ≤ length l) → take (min n (length l)) l ≡ take n l
    by (yes h) = let e : min n (length l) ≡ n = omega arith in ap (λ m. take m l) e
    by (no h) = let e : min n (length l) ≡ length l = omega arith in ap (λ m. take m l) e ∙ take_all (length l) l (omega arith) ∙ sym (take_all n l (omega arith))

-- The bytes of the refusal, or of the lines of the figures.
module _ (text : List ℕ) (number : MachineOption ℕ) (figures final_figures : List ℕ) where
  pub refused-shown : {n : ℕ} → FindsFigures (number_given number) text n figures final_figures → (n ≡ 0 → ⊥) → PrintsCounts (number_given number) text (refusal_line n)
  refused-shown (is_refused h p) z = p
  refused-shown (are_found e c y x f) z = absurd (z refl)

  pub figures-shown : {n count : ℕ} → FindsFigures (number_given number) text n figures final_figures → n ≡ 0 → length figures ≡ 65 → length final_figures ≡ 65 → count ≡ min (unwrap_or number 0) 64 + 1
      → PrintsCounts (number_given number) text (listed_text (take count figures) (take count final_figures) (min (length (take count figures)) (length (take count final_figures))))
  figures-shown (is_refused h p) z l k e = absurd (omega arith)
  figures-shown {count = count} (are_found {m} {s} {a} {t} g c y x f) z l k e =
      let few = few_letters x in
      let v = given-value number g in
      let size : count ≡ suc m = omega arith in
      let both : min (length (take count figures)) (length (take count final_figures)) ≡ suc m =
      omega (arith, length-take-le count figures (omega arith), length-take-le count final_figures (omega arith)) in
      let lines = listed-figures (λ u. get_or figures u 0) (λ u. get_or final_figures u 0) (take count figures) (take count final_figures) (suc m) (omega arith)
      (λ i j. get_or-take count figures i 0 (omega arith)) (λ i j. get_or-take count final_figures i 0 (omega arith))
      (λ i j. bounded-figure x (omega arith) (f.records i (omega arith)))
      (λ i j. omega (arith, finals-fewer (f.finals i (omega arith)) (f.records i (omega arith)), bounded-figure x (omega arith) (f.records i (omega arith)))) in
      subst (PrintsCounts (number_given number) text) (sym (ap (listed_text (take count figures) (take count final_figures)) both ∙ lines)) (counted g c y x f)
