-- The play table that is made of a sheet's table is one of the sheet: a ranking of the lent rows is one of the sheet's game, where the list of the letters'
-- choices holds those of the sheet. From the laws of rankings (automaton) and of outcomes (outcome).
use Prim.Native.Nat.{ℕ, ◌-◌, ◌*◌, ◌<◌}
use native.Mathlib.Omega.{arith}
use mathlib.Core.Path.{◌≡◌, subst}
use mathlib.Core.Bool.{Bool, cond}
use mathlib.Core.List.{List}
use lib.ListN.{length, get_or, drop}
use Rattle.automaton.specs.Stored.{entry_at, final_at}
use Rattle.automaton.specs.PlayTable.{Game}
use Rattle.automaton.specs.Ranking.{IsRanking, PlaysRanking}
use Rattle.automaton.proofs.RankedPlay.{ranking_choice, play-choice}
use Rattle.meaning.specs.Expression.{Stream, Sheet}
use Rattle.meaning.specs.Letter.{letter_count}
use Rattle.meaning.specs.Choice.{choice_count, choice_of}
use Rattle.meaning.proofs.Choice.{choice-below}
use Rattle.sheet.specs.Refusal.{sheet, AnswerTo}
use Rattle.sheet.proofs.Accepted.{accepted_facts}
use Rattle.outcome.specs.Room.{zeros}
use Rattle.outcome.specs.Compile.{CompileAnswer, refused_answer, Room, Tables, all_zero, SheetOutcome, too_many_situations, too_few_rows, no_solution, compiled}
use Rattle.outcome.specs.Force.{sheet_game, with_play, with_zero_play, ForceOutcome}
use Rattle.outcome.proofs.StateCount.{states-at-most-situations}
use Rattle.outcome.proofs.ForceTotal.{play_fits, ranked-forced, unranked-prevented}
use Rattle.winning_rows.specs.Sweeps.{lent_game}
use Rattle.winning_rows.specs.Play.{PlayFits, HoldsRanking, PlayOutcome, unfit, lost, won}

-- A list holds the choices of all letters of some streams, and a number is that of the choices.
pub record AreSheetChoices (ss : List Stream) (choice : List ℕ) (choices : ℕ) : Type 0 where
  pub long : length choice ≡ letter_count ss
  pub agree : (a : ℕ) → a < letter_count ss → get_or choice a 0 ≡ choice_of ss a
  pub counted : choices ≡ choice_count ss

module _ (s : Sheet) {choice : List ℕ} {choices : ℕ} (C : AreSheetChoices s.streams choice choices) (n : ℕ) (t : Tables) where
  abbrev list_game : ℕ → ℕ → Game
  list_game letters choices = record { letters = letters; choices = choices; choice = λ a. get_or choice a 0; states = n; entry = entry_at letters t.entries; final = final_at t.finals }

  same_game : lent_game t.entries choice choices n (final_at t.finals) ≡ list_game (letter_count s.streams) (choice_count s.streams)
  same_game i = list_game (C.long i) (C.counted i)

  sheet_ranking : {safe ranks : List ℕ} → IsRanking (lent_game t.entries choice choices n (final_at t.finals)) safe ranks → IsRanking (sheet_game s n t) safe ranks
  sheet_ranking {safe} {ranks} R = ranking_choice (choice_of s.streams) C.agree (subst (λ G. IsRanking G safe ranks) same_game R)

  sheet_plays : {ranks : List ℕ} {room : ℕ} {play : List ℕ} → HoldsRanking (lent_game t.entries choice choices n (final_at t.finals)) ranks room play
      → PlaysRanking (sheet_game s n t) ranks (entry_at (choice_count s.streams) play) × (drop (n * choice_count s.streams) play ≡ zeros (room - n * choice_count s.streams))
  sheet_plays {ranks} {room} {play} H =
      let moved : HoldsRanking (list_game (letter_count s.streams) (choice_count s.streams)) ranks room play = subst (λ G. HoldsRanking G ranks room play) same_game H in
      (play-choice (choice_of s.streams) C.agree moved.plays, moved.beyond)

-- the rows of a sheet's table can be played
table_fits : {text : List ℕ} {s : Sheet} → AnswerTo text (sheet s) → {choice : List ℕ} {choices : ℕ} → AreSheetChoices s.streams choice choices → {room : Room} {size : ℕ} {a : CompileAnswer} {t : Tables}
    → SheetOutcome s (with_play s size room) a t → a.refusal ≡ 0 → PlayFits t.entries choice choices a.states size
table_fits read C (too_many_situations h x) z = absurd (omega arith)
table_fits read C (too_few_rows h x) z = absurd (omega arith)
table_fits read C (no_solution f x) z = absurd (omega arith)
table_fits {s = s} read C (compiled {m} {n} f h) z =
    let facts = accepted_facts read in
    record {
      some_row = h.table.table.some_state;
      rows_fit =
          record {
            choices_fit = record { few = omega (arith, C.long, facts.letters); below = λ a l. rw (C.agree a (omega (arith, C.long)), C.counted) (choice-below s.streams a (omega (arith, C.long))) };
            few_rows = omega (arith, states-at-most-situations s h.table.table f.counted, f.within_bound);
            entries_fit = rw C.long h.table.entries_fit;
          };
      play_fits = rw C.counted (play_fits f h);
    }

module _ {text : List ℕ} {room : Room} {size : ℕ} {s : Sheet} (read : AnswerTo text (sheet s)) {a : CompileAnswer} {t : Tables}
    (o : SheetOutcome s (with_play s size room) a (with_zero_play size t)) (z : a.refusal ≡ 0) {choice : List ℕ} {choices : ℕ} (C : AreSheetChoices s.streams choice choices) where
  pub play-call : {forced : Bool} {play : List ℕ} → PlayOutcome t.entries t.finals choice choices a.states size forced play
      → ForceOutcome text room size (cond forced a (refused_answer 16)) (cond forced t (all_zero room)) play
  play-call (unfit x) = absurd (x (table_fits read C o z))
  play-call (lost F R x) = unranked-prevented read o z (sheet_ranking s C a.states t R) x
  play-call (won {play = play} F R x H) = let p = sheet_plays s C a.states t H in ranked-forced read o z (sheet_ranking s C a.states t R) play p.0 H.size p.1 x
