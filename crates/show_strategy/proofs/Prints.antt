-- What `strategy` prints is there for every text, and is one but for the letters that a play table holds. From the one outcome of a call for a play table, and
-- that there is always one (outcome).
use Prim.Native.Nat.{ℕ, ◌*◌}
use native.Mathlib.Omega.{arith}
use mathlib.Core.Path.{◌≡◌, refl, sym, ap, subst, transport}
use mathlib.Core.Bool.{Bool, true, false}
use mathlib.Core.List.{List}
use lib.Dec.{ltb}
use borrow.Author.Tests.{ltb-true, ltb-false}
use Rattle.meaning.specs.Expression.{Sheet}
use Rattle.meaning.specs.Letter.{letter_count}
use Rattle.meaning.specs.Choice.{choice_count}
use Rattle.sheet.specs.Refusal.{Answer, refused, sheet, AnswerTo}
use Rattle.sheet.specs.Reading.{answer_to}
use Rattle.sheet.proofs.Reading.{answer_correct}
use Rattle.outcome.specs.Compile.{CompileAnswer, Tables}
use Rattle.outcome.specs.Force.{SamePlayRows, ForceCall}
use Rattle.outcome.proofs.Answers.{one_number, one-sheet, refused≢sheet}
use Rattle.outcome.proofs.ForceUnique.{force_unique}
use Rattle.outcome.proofs.ForceTotal.{force_total}
use Rattle.lend.specs.Lend.{rows_lent, lent_room}
use Rattle.print.specs.Text.{refusal_line}
use Rattle.play_text.specs.Play.{play_text}
use Rattle.show_strategy.specs.Prints.{ForcedLent, PrintsStrategy, refused_text, refused_sheet, played, HasStrategyOutput, SameOutput, same, same_plays}

-- ---- one outcome, but for the letters held

module _ {text : List ℕ} where
  forced_unique : {s q : Sheet} {a b : CompileAnswer} {t u : Tables} {play play' : List ℕ} → ForcedLent text s a t play → ForcedLent text q b u play'
      → (s ≡ q) × ((a ≡ b) × (t ≡ u) × SamePlayRows text a.states play play')
  forced_unique {q = q} {a} {t = t} {play = play} f g =
      let e = one-sheet f.reads g.reads in
      let moved = subst (λ z. ForceCall text (lent_room (letter_count z.streams)) (rows_lent (letter_count z.streams) * choice_count z.streams) a t play) e f.call in
      (e, force_unique text (lent_room (letter_count q.streams)) (rows_lent (letter_count q.streams) * choice_count q.streams) moved g.call)

  one-refusal : {s q : Sheet} {a b : CompileAnswer} {t u : Tables} {play play' : List ℕ} → ForcedLent text s a t play → ForcedLent text q b u play' → a.refusal ≡ b.refusal
  one-refusal f g = ap (λ x. x.refusal) (forced_unique f g).1.0

  equal_output : {b c : List ℕ} → b ≡ c → SameOutput text b c
  equal_output {b} e = subst (SameOutput text b) e same

  pub strategy_output_same : {b c : List ℕ} → PrintsStrategy text b → PrintsStrategy text c → SameOutput text b c
  strategy_output_same (refused_text r) (refused_text r') = equal_output (ap refusal_line (one_number r r'))
  strategy_output_same (refused_text r) (refused_sheet g h) = absurd (refused≢sheet r g.reads)
  strategy_output_same (refused_text r) (played g z) = absurd (refused≢sheet r g.reads)
  strategy_output_same (refused_sheet f h) (refused_text r) = absurd (refused≢sheet r f.reads)
  strategy_output_same (refused_sheet f h) (refused_sheet g h') = equal_output (ap refusal_line (one-refusal f g))
  strategy_output_same (refused_sheet f h) (played g z) = absurd (omega (arith, one-refusal f g))
  strategy_output_same (played f z) (refused_text r) = absurd (refused≢sheet r f.reads)
  strategy_output_same (played f z) (refused_sheet g h) = absurd (omega (arith, one-refusal f g))
  strategy_output_same (played {s} {a} {t} {play} f z) (played {play = play'} g z') =
      let one = forced_unique f g in
      let answers = one.1.0 in
      let tables = one.1.1 in
      let moved : ForcedLent text s a t play' = transport (λ i. ForcedLent text (sym one.0 i) (sym answers i) (sym tables i) play') g in
      transport (λ i. SameOutput text (play_text s.streams a.states t.entries t.finals play) (play_text (one.0 i).streams (answers i).states (tables i).entries (tables i).finals play')) (same_plays f moved one.1.2)

-- ---- and always one

pub strategy_output_total : (text : List ℕ) → HasStrategyOutput text
strategy_output_total text = go (answer_to text) (answer_correct text)
  where
    by : {s : Sheet} {a : CompileAnswer} {t : Tables} {play : List ℕ} → ForcedLent text s a t play → (b : Bool) → ltb 0 a.refusal ≡ b → HasStrategyOutput text
    by {a = a} f true e = record { bytes = _; prints = refused_sheet f (ltb-true 0 a.refusal e) }
    by {a = a} f false e = record { bytes = _; prints = played f (omega (arith, ltb-false 0 a.refusal e)) }

    go : (x : Answer) → AnswerTo text x → HasStrategyOutput text
    go (refused n) r = record { bytes = _; prints = refused_text r }
    go (sheet s) r =
        let o = force_total text (lent_room (letter_count s.streams)) (rows_lent (letter_count s.streams) * choice_count s.streams) in
        by (record { reads = r; call = o.outcome }) (ltb 0 o.answer.refusal) refl
