-- What `statistics` prints is there for every text, and is one. From the one outcome of a compile in the rows lent (lend, outcome) and the one number of
-- situations (basics).
use Prim.Native.Nat.{ℕ}
use native.Mathlib.Omega.{arith}
use mathlib.Core.Path.{◌≡◌, refl, ap, subst, transport}
use mathlib.Core.List.{List, [], ◌++◌}
use Rattle.basics.proofs.Count.{count_unique}
use Rattle.meaning.specs.Expression.{Sheet}
use Rattle.meaning.specs.Letter.{letter_count}
use Rattle.sheet.specs.Refusal.{Answer, refused, sheet, AnswerTo}
use Rattle.sheet.specs.Reading.{answer_to}
use Rattle.sheet.proofs.Reading.{answer_correct}
use Rattle.outcome.specs.Compile.{CompileAnswer, Room, Tables, SheetOutcome, too_many_situations, too_few_rows, no_solution, compiled, CompileCall, unread as text_unread, read}
use Rattle.outcome.proofs.Answers.{one_number, one-sheet, refused≢sheet}
use Rattle.outcome.proofs.CompileTotal.{compile_total}
use Rattle.lend.specs.Lend.{lent_room}
use Rattle.lend.proofs.Outcome.{compiled_unique}
use Rattle.print.specs.Text.{refusal_line}
use Rattle.show_statistics.specs.Prints.{sizes_text, situations_line, states_line, PrintsSizes, uncounted, unsolved, solved, PrintsStatistics, unread, sized, HasStatisticsOutput}

-- ---- one outcome

sizes-one : {s : Sheet} {a : CompileAnswer} {b d : List ℕ} → PrintsSizes s a b → PrintsSizes s a d → b ≡ d
sizes-one (uncounted h g) (uncounted h' g') = refl
sizes-one (uncounted h g) (unsolved e m) = absurd (g e)
sizes-one (uncounted h g) (solved e m) = absurd (h e)
sizes-one (unsolved e m) (uncounted h g) = absurd (g e)
sizes-one {s} (unsolved e m) (unsolved e' m') = ap (λ n. sizes_text s (situations_line n) (refusal_line 9)) (count_unique m m')
sizes-one (unsolved e m) (solved e' m') = absurd (omega arith)
sizes-one (solved e m) (uncounted h g) = absurd (h e)
sizes-one (solved e m) (unsolved e' m') = absurd (omega arith)
sizes-one {s} {a} (solved e m) (solved e' m') = ap (λ n. sizes_text s (situations_line n ++ states_line a.states) []) (count_unique m m')

pub prints_unique : {text b d : List ℕ} → PrintsStatistics text b → PrintsStatistics text d → b ≡ d
prints_unique (unread r) (unread q) = ap refusal_line (one_number r q)
prints_unique (unread r) (sized c p) = absurd (refused≢sheet r c.reads)
prints_unique (sized c p) (unread r) = absurd (refused≢sheet r c.reads)
prints_unique (sized {bytes = b} c p) (sized d q) = let same = compiled_unique c d in sizes-one (transport (λ i. PrintsSizes (same.0 i) (same.1.0 i) b) p) q

-- ---- and always one

-- The outcome of a compile is that of the sheet which the text is.
pub sheet-outcome : {text : List ℕ} {s : Sheet} {room : Room} {a : CompileAnswer} {t : Tables} → AnswerTo text (sheet s) → CompileCall text room a t → SheetOutcome s room a t
sheet-outcome x (text_unread r) = absurd (refused≢sheet r x)
sheet-outcome {room = room} {a} {t} x (read r o) = subst (λ q. SheetOutcome q room a t) (one-sheet r x) o

sizes-total : {s : Sheet} {room : Room} {a : CompileAnswer} {t : Tables} → SheetOutcome s room a t → (bytes : List ℕ) × PrintsSizes s a bytes
sizes-total (too_many_situations h x) = (_, uncounted (λ e. omega arith) (λ e. omega arith))
sizes-total (too_few_rows h x) = (_, uncounted (λ e. omega arith) (λ e. omega arith))
sizes-total (no_solution f x) = (_, unsolved refl f.counted)
sizes-total (compiled f x) = (_, solved refl f.counted)

pub prints-total : (text : List ℕ) → HasStatisticsOutput text
prints-total text = go (answer_to text) (answer_correct text)
  where
    go : (x : Answer) → AnswerTo text x → HasStatisticsOutput text
    go (refused n) r = record { bytes = _; prints = unread r }
    go (sheet s) r =
        let o = compile_total text (lent_room (letter_count s.streams)) in
        record { bytes = _; prints = sized (record { reads = r; call = o.outcome }) (sizes-total (sheet-outcome r o.outcome)).1 }
