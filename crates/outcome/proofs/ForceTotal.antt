-- Every call for a play table has an outcome, whatever the bytes and the room: the compile has one, and every table has a ranking of its states (automaton).
use Prim.Native.Nat.{ℕ, ◌+◌, ◌-◌, ◌*◌, ◌/◌, ◌≤◌, ◌<◌}
use native.Mathlib.Omega.{arith}
use native.Mathlib.Decide.{ℕ_discrete}
use mathlib.Core.Path.{◌≡◌, refl, sym, ◌∙◌, subst}
use mathlib.Core.List.{List, [], ◌∷◌, ◌++◌}
use lib.Arith.{digits_lt}
use lib.ListN.{length, drop, length-append, length-replicate, get_or-append}
use lib.Seq.{drop_at}
use Rattle.automaton.specs.Table.{no_state, IsTable}
use Rattle.automaton.specs.Stored.{entry_at, final_at}
use Rattle.automaton.specs.Strategies.{AreChoices}
use Rattle.automaton.specs.PlayTable.{Game}
use Rattle.automaton.specs.Ranking.{rank_of, Ranked, IsRanking, IsPlayed, PlaysRanking}
use Rattle.automaton.proofs.Ranking.{ranking_exists}
use Rattle.automaton.proofs.RankedPlay.{play_exists}
use Rattle.automaton.proofs.Forced.{ranking_play_table, start-forced, start-prevented}
use Rattle.meaning.specs.Expression.{Sheet}
use Rattle.meaning.specs.Letter.{letter_count, SolutionWord}
use Rattle.meaning.specs.Choice.{choice_count, choice_of}
use Rattle.sheet.specs.Accepted.{Accepted}
use Rattle.sheet.specs.Refusal.{Answer, refused, sheet, AnswerTo}
use Rattle.sheet.specs.Reading.{answer_to}
use Rattle.sheet.proofs.Accepted.{accepted_facts}
use Rattle.sheet.proofs.Reading.{answer_correct}
use Rattle.outcome.specs.Room.{zeros, zero_tables}
use Rattle.outcome.specs.Compile.{CompileAnswer, refused_answer, Room, Tables, all_zero, HoldsSheetTable, SituationsFit, SheetOutcome, too_many_situations, too_few_rows, no_solution, compiled}
use Rattle.outcome.specs.Force.{sheet_game, with_play, with_zero_play, HoldsPlay, ForceOutcome, unread, not_compiled, prevented, forced}
use Rattle.outcome.proofs.SheetWords.{solutions_settle}
use Rattle.outcome.proofs.StateCount.{states-at-most-situations}
use Rattle.outcome.proofs.CompileTotal.{fewest_first, rows_fit, sheet-total}
use Rattle.outcome.proofs.ForceUnique.{sheet-choices, compiled-table}

-- ---- a play table in the room lent

-- The play table has room for the rows of all states.
pub play_fits : {s : Sheet} {room : Room} {size m n : ℕ} {t : Tables} → SituationsFit s (with_play s size room) m → HoldsSheetTable s (with_play s size room) n t → n * choice_count s.streams ≤ size
play_fits {s} {room} {size} {n = n} fit held =
    let few = states-at-most-situations s held.table.table fit.counted in
    rows_fit n (choice_count s.streams) size
    (omega (arith, few, fit.within_room, fewest_first (record { per_row = choice_count s.streams; size = size }) room.work))

outcome_fits : {s : Sheet} {room : Room} {size : ℕ} {a : CompileAnswer} {t : Tables} → SheetOutcome s (with_play s size room) a t → a.refusal ≡ 0 → a.states * choice_count s.streams ≤ size
outcome_fits (too_many_situations h x) z = absurd (omega arith)
outcome_fits (too_few_rows h x) z = absurd (omega arith)
outcome_fits (no_solution f x) z = absurd (omega arith)
outcome_fits (compiled f h) z = play_fits f h

-- The numbers of a list, with zeros behind them.
pub plays-append : {G : Game} {ranks : List ℕ} (play beyond : List ℕ) → length play ≡ G.states * G.choices → PlaysRanking G ranks (entry_at G.choices play) → PlaysRanking G ranks (entry_at G.choices (play ++ beyond))
plays-append {G} {ranks} play beyond long P s c h hc =
    subst (IsPlayed G ranks s c) (sym (get_or-append play beyond 0 (s * G.choices + c) (omega (arith, digits_lt h hc)))) (P s c h hc)

-- What is made of a sheet's table by a ranking of its states: a play table, or that the river can prevent a solution.
module _ {text : List ℕ} {room : Room} {size : ℕ} {s : Sheet} (r : AnswerTo text (sheet s)) {a : CompileAnswer} {t : Tables}
    (o : SheetOutcome s (with_play s size room) a (with_zero_play size t)) (z : a.refusal ≡ 0) {safe ranks : List ℕ} (R : IsRanking (sheet_game s a.states t) safe ranks) where
  table : IsTable (SolutionWord s) (letter_count s.streams) a.states (entry_at (letter_count s.streams) t.entries) (final_at t.finals)
  table = compiled-table o z

  choices : AreChoices (letter_count s.streams) (choice_count s.streams) (choice_of s.streams)
  choices = sheet-choices s (accepted_facts r).some_letter

  pub ranked-forced : (play : List ℕ) → PlaysRanking (sheet_game s a.states t) ranks (entry_at (choice_count s.streams) play) → length play ≡ size
      → drop (a.states * choice_count s.streams) play ≡ zeros (size - a.states * choice_count s.streams) → Ranked ranks 0 → ForceOutcome text room size a t play
  ranked-forced play P long beyond x =
      let few : letter_count s.streams ≤ no_state = omega (arith, (accepted_facts r).letters) in
      forced r o z (start-forced table choices few R P (solutions_settle s) x)
      (record { play_size = long; play_fits = outcome_fits o z; is_play_table = ranking_play_table table choices few R P (solutions_settle s); play_beyond = beyond })

  pub unranked-prevented : ¬ Ranked ranks 0 → ForceOutcome text room size (refused_answer 16) (all_zero room) (zeros size)
  unranked-prevented x = prevented r o z (start-prevented table choices (solutions_settle s) R x)

-- ---- every call has an outcome

-- An outcome, whatever its numbers and contents.
pub record HasForce (text : List ℕ) (room : Room) (size : ℕ) : Type 0 where
  pub answer : CompileAnswer
  pub tables : Tables
  pub play : List ℕ
  pub outcome : ForceOutcome text room size answer tables play

module _ (text : List ℕ) (room : Room) (size : ℕ) where
  sheet_force : {s : Sheet} → AnswerTo text (sheet s) → {a : CompileAnswer} {t : Tables} → SheetOutcome s (with_play s size room) a t → HasForce text room size
  sheet_force r (too_many_situations h x) = record { answer = _; tables = _; play = _; outcome = not_compiled r (too_many_situations h x) (omega arith) }
  sheet_force r (too_few_rows h x) = record { answer = _; tables = _; play = _; outcome = not_compiled r (too_few_rows h x) (omega arith) }
  sheet_force r (no_solution f x) = record { answer = _; tables = _; play = _; outcome = not_compiled r (no_solution f x) (omega arith) }
  sheet_force {s} r (compiled {m} {n} {t = u} f h) = by (ℕ_discrete (rank_of ranks 0) 0)
    where
      t : Tables
      t = record { entries = u.entries; finals = u.finals; work = zero_tables room.work }

      G : Game
      G = sheet_game s n t

      ranks : List ℕ
      ranks = (ranking_exists G).1

      play : List ℕ
      play = (play_exists G ranks).0 ++ zeros (size - n * choice_count s.streams)

      plays : PlaysRanking G ranks (entry_at (choice_count s.streams) play)
      plays = plays-append (play_exists G ranks).0 (zeros (size - n * choice_count s.streams)) (play_exists G ranks).1 (play_exists G ranks).2

      o : SheetOutcome s (with_play s size room) (record { refusal = 0; states = n; situations = m }) (with_zero_play size t)
      o = subst (SheetOutcome s (with_play s size room) (record { refusal = 0; states = n; situations = m })) (λ i. record { entries = u.entries; finals = u.finals; work = h.work_zero i }) (compiled f h)

      long : length play ≡ size
      long = omega (arith, length-append (play_exists G ranks).0 (zeros (size - n * choice_count s.streams)), (play_exists G ranks).1, length-replicate {A = ℕ} (size - n * choice_count s.streams) 0, play_fits f h)

      by : Dec (rank_of ranks 0 ≡ 0) → HasForce text room size
      by (no x) =
          record { answer = _; tables = _; play = _; outcome = ranked-forced r o refl (ranking_exists G).2 play plays long (drop_at (play_exists G ranks).0 (zeros (size - n * choice_count s.streams)) (n * choice_count s.streams) (play_exists G ranks).1) x }
      by (yes x) = record { answer = _; tables = _; play = _; outcome = unranked-prevented r o refl (ranking_exists G).2 λ y. y x }

  pub force_total : HasForce text room size
  force_total = by (answer_to text) (answer_correct text)
    where
      by : (a : Answer) → AnswerTo text a → HasForce text room size
      by (refused n) r = record { answer = _; tables = _; play = _; outcome = unread r }
      by (sheet s) r = sheet_force r (sheet-total s (with_play s size room)).outcome
