-- What `record_counts` prints is there for every number and every text, and is one; a number beyond the longest records and a text beyond the bytes of a sheet
-- print the same where they are cut. From the one outcome of a compile in the rows lent (lend), and the numbers of records (theorems, RecordCounts).
use Prim.Native.Nat.{ℕ, zero, suc, ◌≤◌, ◌<◌}
use native.Mathlib.Omega.{arith}
use native.Mathlib.Decide.{dec_le, dec_lt}
use mathlib.Core.Path.{◌≡◌, refl, sym, ◌∙◌, ap, subst}
use mathlib.Core.Logic.{◌⊎◌, inl, inr}
use mathlib.Core.List.{List}
use mathlib.Core.Option.{Option, none, some}
use lib.ListN.{length, take}
use lib.Seq.{length-take-le, take_all}
use Rattle.basics.specs.Count.{CountOf, MoreThan}
use Rattle.basics.proofs.Count.{count_unique, more_iff}
use Rattle.meaning.specs.Expression.{Sheet}
use Rattle.meaning.specs.Letter.{letter_count}
use Rattle.sheet.specs.Refusal.{byte_bound, Refusal1, too_many_bytes, Refusal2, refused, sheet, AnswerTo, refused1, refused2, refused3, refused4, refused5, refused6, refused7, accepted}
use Rattle.outcome.specs.Compile.{CompileAnswer, Tables, SheetOutcome, too_many_situations, too_few_rows, no_solution, compiled, CompileOutcome, unread as text_unread, read}
use Rattle.outcome.proofs.Answers.{refused≢sheet}
use Rattle.lend.specs.Lend.{lent_room, CompiledLent, RefusedLent, unread, not_compiled, HasOutcome, is_refused, is_compiled}
use Rattle.lend.proofs.Outcome.{compiled_unique, refused_unique, refused-not-compiled, lent_total}
use Rattle.print.specs.Text.{refusal_line}
use Rattle.opening.proofs.Plays.{none≢some}
use Rattle.theorems.specs.RecordCounts.{IsCountedRecord}
use Rattle.theorems.specs.UsedRows.{used_entries, used_finals}
use Rattle.theorems.proofs.RecordCounts.{sheet-figure, sheet-final-figure}
use Rattle.first_line.specs.Machine.{kept_bytes, cut_number}
use Rattle.figure_sums.specs.Sums.{highest_figure}
use Rattle.counting.specs.Figures.{figure_of, final_figure_of}
use Rattle.counts_text.specs.Counts.{figures_text}
use Rattle.counts_text.proofs.Lines.{same-figures}
use Rattle.show_counts.specs.Prints.{longest_record, TooMany, too_long, too_high, AreFigures, PrintsCounts, first_refusal, second_refusal, no_number, refused_sheet, too_many, counted, HasCountsOutput}

-- ---- 19

-- Some figure up to n is above the highest, or none is.
high_or_bounded : (figure : ℕ → ℕ) (n : ℕ) → ((t : ℕ) × (t ≤ n) × (highest_figure < figure t)) ⊎ ((t : ℕ) → t ≤ n → figure t ≤ highest_figure)
high_or_bounded figure zero = by (dec_lt highest_figure (figure 0))
  where
    by : Dec (highest_figure < figure 0) → ((t : ℕ) × (t ≤ 0) × (highest_figure < figure t)) ⊎ ((t : ℕ) → t ≤ 0 → figure t ≤ highest_figure)
    by (yes h) = inl (0, omega arith, h)
    by (no h) = inr (λ t l. let z : t ≡ 0 = omega arith in subst (λ m. figure m ≤ highest_figure) (sym z) (omega arith))
high_or_bounded figure (suc n) = by (high_or_bounded figure n) (dec_lt highest_figure (figure (suc n)))
  where
    last : ((t : ℕ) → t ≤ n → figure t ≤ highest_figure) → figure (suc n) ≤ highest_figure → (t : ℕ) → t ≤ suc n → figure t ≤ highest_figure
    last b h t l = at (dec_le t n)
      where
        at : Dec (t ≤ n) → figure t ≤ highest_figure
        at (yes k) = b t k
        at (no k) = let z : t ≡ suc n = omega arith in subst (λ m. figure m ≤ highest_figure) (sym z) h

    by : ((t : ℕ) × (t ≤ n) × (highest_figure < figure t)) ⊎ ((t : ℕ) → t ≤ n → figure t ≤ highest_figure) → Dec (highest_figure < figure (suc n))
        → ((t : ℕ) × (t ≤ suc n) × (highest_figure < figure t)) ⊎ ((t : ℕ) → t ≤ suc n → figure t ≤ highest_figure)
    by (inl x) d = inl (x.0, omega (arith, x.1), x.2)
    by (inr b) (yes h) = inl (suc n, omega arith, h)
    by (inr b) (no h) = inr (last b (omega arith))

pub not-too_many : {s : Sheet} {n : ℕ} → n ≤ longest_record → ((t : ℕ) → t ≤ n → MoreThan (IsCountedRecord s t) highest_figure → ⊥) → TooMany s n → ⊥
not-too_many few b (too_long h) = omega arith
not-too_many few b (too_high {t} l h) = b t l h

pub few_letters : {s : Sheet} {n : ℕ} → (TooMany s n → ⊥) → n ≤ longest_record
few_letters {n = n} x = by (dec_le n longest_record)
  where
    by : Dec (n ≤ longest_record) → n ≤ longest_record
    by (yes h) = h
    by (no h) = absurd (x (too_long (omega arith)))

-- What is not too many is not above the highest figure.
pub bounded-figure : {s : Sheet} {n t x : ℕ} → (TooMany s n → ⊥) → t ≤ n → CountOf (IsCountedRecord s t) x → x ≤ highest_figure
bounded-figure {s} {n} {t} {x} many l c = by (dec_le x highest_figure)
  where
    by : Dec (x ≤ highest_figure) → x ≤ highest_figure
    by (yes h) = h
    by (no h) = absurd (many (too_high l ((more_iff c highest_figure).1 (omega arith))))

-- ---- 1 and 2 of the sheet

-- Where the number of a refusal stands: 1, 2, or behind both.
pub data Placed (text : List ℕ) (n : ℕ) : Type 0 where
  is_first : n ≡ 1 → Refusal1 text → Placed text n
  is_second : n ≡ 2 → (Refusal1 text → ⊥) → Refusal2 text → Placed text n
  is_later : 3 ≤ n → (Refusal1 text → ⊥) → (Refusal2 text → ⊥) → Placed text n

module _ {text : List ℕ} where
  answer_placed : {n : ℕ} → AnswerTo text (refused n) → Placed text n
  answer_placed (refused1 x) = is_first refl x
  answer_placed (refused2 p x) = is_second refl p x
  answer_placed (refused3 p q x) = is_later (omega arith) p q
  answer_placed (refused4 p q a x) = is_later (omega arith) p q
  answer_placed (refused5 p q a b x) = is_later (omega arith) p q
  answer_placed (refused6 p q a b c x) = is_later (omega arith) p q
  answer_placed (refused7 p q a b c d x) = is_later (omega arith) p q

  pub sheet_passes : {s : Sheet} → AnswerTo text (sheet s) → (Refusal1 text → ⊥) × (Refusal2 text → ⊥)
  sheet_passes (accepted p q a b c d e f) = (p, q)

  compile_later : {s : Sheet} {a : CompileAnswer} {t : Tables} → CompiledLent text s a t → 0 < a.refusal → 3 ≤ a.refusal
  compile_later {s} c h = by c.call h
    where
      of : {q : Sheet} {a : CompileAnswer} {t : Tables} → SheetOutcome q (lent_room (letter_count s.streams)) a t → 0 < a.refusal → 3 ≤ a.refusal
      of (too_many_situations r x) l = omega arith
      of (too_few_rows r x) l = omega arith
      of (no_solution f x) l = omega arith
      of (compiled f x) l = absurd (omega arith)

      by : {a : CompileAnswer} {t : Tables} → CompileOutcome text (lent_room (letter_count s.streams)) a t → 0 < a.refusal → 3 ≤ a.refusal
      by (text_unread r) l = absurd (refused≢sheet r c.reads)
      by (read r o) l = of o l

  pub refused_placed : {n : ℕ} → RefusedLent text n → Placed text n
  refused_placed (unread r) = answer_placed r
  refused_placed (not_compiled c h) = let p = sheet_passes c.reads in is_later (compile_later c h) p.0 p.1

  first_refused : Refusal1 text → RefusedLent text 1
  first_refused x = unread (refused1 x)

  second_refused : (Refusal1 text → ⊥) → Refusal2 text → RefusedLent text 2
  second_refused p x = unread (refused2 p x)

-- ---- one outcome

some_same : {o : Option ℕ} {m n : ℕ} → o ≡ some m → o ≡ some n → m ≡ n
some_same e f = cc

module _ {number : Option ℕ} {text : List ℕ} where
  same-many : {m n : ℕ} {s q : Sheet} {a b : CompileAnswer} {t u : Tables} → number ≡ some m → number ≡ some n → CompiledLent text s a t → CompiledLent text q b u → TooMany s m → TooMany q n
  same-many {m} {n} {s} {q} e f c d x = subst (TooMany q) (some_same e f) (subst (λ z. TooMany z m) (compiled_unique c d).0 x)

  same_text : {m n : ℕ} {s q : Sheet} {a b : CompileAnswer} {t u : Tables} {figure final_figure other final_other : ℕ → ℕ} → number ≡ some m → number ≡ some n → CompiledLent text s a t → CompiledLent text q b u
      → AreFigures s m figure final_figure → AreFigures q n other final_other → figures_text figure final_figure (suc m) ≡ figures_text other final_other (suc n)
  same_text {m} {n} {s} {q} {figure = figure} {final_figure} {other} {final_other} e f c d x y =
      let l = some_same e f in
      let z = subst (λ r. AreFigures r m figure final_figure) (compiled_unique c d).0 x in
      same-figures figure final_figure other final_other (suc m) (λ t h. count_unique (z.records t (omega arith)) (y.records t (omega arith))) (λ t h. count_unique (z.finals t (omega arith)) (y.finals t (omega arith)))
      ∙ ap (λ k. figures_text other final_other (suc k)) l

  -- A refusal of the sheet is not printed beside another one, nor beside figures.
  refused-same : {n : ℕ} → RefusedLent text n → {b : List ℕ} → PrintsCounts number text b → {m : ℕ} → number ≡ some m → refusal_line n ≡ b
  refused-same r (first_refusal x) e = ap refusal_line (refused_unique r (first_refused x))
  refused-same r (second_refusal p x) e = ap refusal_line (refused_unique r (second_refused p x))
  refused-same r (no_number p q f) e = absurd (none≢some f e)
  refused-same r (refused_sheet f x) e = ap refusal_line (refused_unique r x)
  refused-same r (too_many f c z x) e = absurd (refused-not-compiled r c z)
  refused-same r (counted f c z x y) e = absurd (refused-not-compiled r c z)

  pub counts_unique : {b c : List ℕ} → PrintsCounts number text b → PrintsCounts number text c → b ≡ c
  counts_unique (first_refusal x) (first_refusal y) = refl
  counts_unique (first_refusal x) (second_refusal p y) = absurd (p x)
  counts_unique (first_refusal x) (no_number p q e) = absurd (p x)
  counts_unique (first_refusal x) (refused_sheet e r) = ap refusal_line (refused_unique (first_refused x) r)
  counts_unique (first_refusal x) (too_many e c z y) = absurd (refused-not-compiled (first_refused x) c z)
  counts_unique (first_refusal x) (counted e c z y w) = absurd (refused-not-compiled (first_refused x) c z)
  counts_unique (second_refusal p x) (first_refusal y) = absurd (p y)
  counts_unique (second_refusal p x) (second_refusal q y) = refl
  counts_unique (second_refusal p x) (no_number r q e) = absurd (q x)
  counts_unique (second_refusal p x) (refused_sheet e r) = ap refusal_line (refused_unique (second_refused p x) r)
  counts_unique (second_refusal p x) (too_many e c z y) = absurd (refused-not-compiled (second_refused p x) c z)
  counts_unique (second_refusal p x) (counted e c z y w) = absurd (refused-not-compiled (second_refused p x) c z)
  counts_unique (no_number p q e) (first_refusal y) = absurd (p y)
  counts_unique (no_number p q e) (second_refusal r y) = absurd (q y)
  counts_unique (no_number p q e) (no_number r s f) = refl
  counts_unique (no_number p q e) (refused_sheet f r) = absurd (none≢some e f)
  counts_unique (no_number p q e) (too_many f c z x) = absurd (none≢some e f)
  counts_unique (no_number p q e) (counted f c z x w) = absurd (none≢some e f)
  counts_unique (refused_sheet e r) y = refused-same r y e
  counts_unique (too_many e c z x) (first_refusal y) = absurd (refused-not-compiled (first_refused y) c z)
  counts_unique (too_many e c z x) (second_refusal p y) = absurd (refused-not-compiled (second_refused p y) c z)
  counts_unique (too_many e c z x) (no_number p q f) = absurd (none≢some f e)
  counts_unique (too_many e c z x) (refused_sheet f r) = absurd (refused-not-compiled r c z)
  counts_unique (too_many e c z x) (too_many f d y w) = refl
  counts_unique (too_many e c z x) (counted f d y w v) = absurd (w (same-many e f c d x))
  counts_unique (counted e c z x y) (first_refusal w) = absurd (refused-not-compiled (first_refused w) c z)
  counts_unique (counted e c z x y) (second_refusal p w) = absurd (refused-not-compiled (second_refused p w) c z)
  counts_unique (counted e c z x y) (no_number p q f) = absurd (none≢some f e)
  counts_unique (counted e c z x y) (refused_sheet f r) = absurd (refused-not-compiled r c z)
  counts_unique (counted e c z x y) (too_many f d w v) = absurd (x (same-many f e d c v))
  counts_unique (counted e c z x y) (counted f d w v u) = same_text e f c d y u

-- ---- and always one

-- Without a number.
no_number-total : {text : List ℕ} {number : Option ℕ} → number ≡ none → HasOutcome text → HasCountsOutput number text
no_number-total {text} {number} e (is_compiled c z) = let p = sheet_passes c.reads in record { bytes = _; prints = no_number p.0 p.1 e }
no_number-total {text} {number} e (is_refused {n} r) = by (refused_placed r)
  where
    by : Placed text n → HasCountsOutput number text
    by (is_first q x) = record { bytes = _; prints = first_refusal x }
    by (is_second q p x) = record { bytes = _; prints = second_refusal p x }
    by (is_later l p x) = record { bytes = _; prints = no_number p x e }

module _ {text : List ℕ} {s : Sheet} {a : CompileAnswer} {t : Tables} (c : CompiledLent text s a t) (z : a.refusal ≡ 0) where
  abbrev figure : ℕ → ℕ
  figure = figure_of (letter_count s.streams) (used_entries s a t) (used_finals a t)

  abbrev final_figure : ℕ → ℕ
  final_figure = final_figure_of (letter_count s.streams) (used_entries s a t) (used_finals a t)

  -- Whether there are too many is decided by the figures of the table.
  pub too_many_decided : (m : ℕ) → Dec (TooMany s m)
  too_many_decided m = by (dec_le m longest_record) (high_or_bounded figure m)
    where
      by : Dec (m ≤ longest_record) → ((t : ℕ) × (t ≤ m) × (highest_figure < figure t)) ⊎ ((t : ℕ) → t ≤ m → figure t ≤ highest_figure) → Dec (TooMany s m)
      by (no h) x = yes (too_long (omega arith))
      by (yes h) (inl x) = yes (too_high x.1 ((more_iff (sheet-figure c.call c.reads z x.0) highest_figure).1 x.2))
      by (yes h) (inr b) = no (not-too_many h (λ u l x. omega (arith, b u l, (more_iff (sheet-figure c.call c.reads z u) highest_figure).0 x)))

  counted-total : (m : ℕ) → HasCountsOutput (some m) text
  counted-total m = by (too_many_decided m)
    where
      by : Dec (TooMany s m) → HasCountsOutput (some m) text
      by (yes x) = record { bytes = _; prints = too_many refl c z x }
      by (no x) =
          record {
            bytes = figures_text figure final_figure (suc m);
            prints = counted refl c z x (record { records = λ u l. sheet-figure c.call c.reads z u; finals = λ u l. sheet-final-figure c.call c.reads z u });
          }

pub counts-total : (number : Option ℕ) (text : List ℕ) → HasCountsOutput number text
counts-total none text = no_number-total refl (lent_total text)
counts-total (some m) text = go (lent_total text)
  where
    go : HasOutcome text → HasCountsOutput (some m) text
    go (is_refused r) = record { bytes = _; prints = refused_sheet refl r }
    go (is_compiled c z) = counted-total c z m

-- ---- what is cut

-- A number is cut beyond the longest records.
pub cut-number : (n : ℕ) {text bytes : List ℕ} → PrintsCounts (some (cut_number n)) text bytes → PrintsCounts (some n) text bytes
cut-number n {text} {bytes} p = by (dec_le n longest_record)
  where
    beyond : longest_record < n → {m : Option ℕ} → m ≡ some (cut_number n) → {b : List ℕ} → PrintsCounts m text b → PrintsCounts (some n) text b
    beyond l e (first_refusal x) = first_refusal x
    beyond l e (second_refusal q x) = second_refusal q x
    beyond l e (no_number q r f) = absurd (none≢some f e)
    beyond l e (refused_sheet f r) = refused_sheet refl r
    beyond l e (too_many f c z x) = too_many refl c z (too_long l)
    beyond l e (counted f c z x y) = absurd (x (too_long (omega (arith, some_same e f))))

    by : Dec (n ≤ longest_record) → PrintsCounts (some n) text bytes
    by (yes h) = let same : cut_number n ≡ n = omega arith in subst (λ m. PrintsCounts (some m) text bytes) same p
    by (no h) = beyond (omega arith) refl p

-- A text of more bytes than a sheet may have is refused by its first.
pub too_large : {number : Option ℕ} {text : List ℕ} → byte_bound < length text → PrintsCounts number text (refusal_line 1)
too_large h = first_refusal (too_many_bytes h)

-- A text is cut beyond the bytes of a sheet.
pub cut-text : (number : Option ℕ) (text : List ℕ) {bytes : List ℕ} → PrintsCounts number (take kept_bytes text) bytes → PrintsCounts number text bytes
cut-text number text {bytes} p = by (dec_le (length text) kept_bytes)
  where
    by : Dec (length text ≤ kept_bytes) → PrintsCounts number text bytes
    by (yes h) = subst (λ t. PrintsCounts number t bytes) (take_all kept_bytes text h) p
    by (no h) = subst (PrintsCounts number text) (counts_unique (too_large (omega (arith, length-take-le kept_bytes text (omega arith)))) p) (too_large (omega arith))
