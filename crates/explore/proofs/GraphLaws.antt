-- The rows of an exploration are a stored graph: entries are rows or none, flags are 0 or 1 and never fall; and its language from the first row
-- is the set of solutions. From rows that stand for things (automaton) and the solutions of a sheet as words (outcome).
use Prim.Native.Nat.{ℕ, ◌≤◌, ◌<◌}
use mathlib.Core.Path.{◌≡◌}
use mathlib.Core.Logic.{◌⊎◌}
use mathlib.Core.List.{List, [], ◌∷◌}
use lib.Dec.{T, eqb}
use Rattle.basics.proofs.Tests.{T-of_true}
use Rattle.basics.proofs.Tests.{true_of_T}
use Rattle.automaton.specs.Solutions.{SameSolutions}
use Rattle.automaton.specs.Table.{no_state}
use Rattle.automaton.specs.Stored.{entry_at, final_at}
use Rattle.automaton.specs.Graph.{Graph, Language}
use Rattle.automaton.specs.ReachedRows.{RowsOf, Marks}
use Rattle.automaton.proofs.Solutions.{solutions_sym, solutions_trans}
use Rattle.automaton.proofs.ReachedRows as Laws
use Rattle.meaning.specs.Expression.{Sheet}
use Rattle.meaning.specs.Letter.{letter_of, record_of, SolutionWord}
use Rattle.meaning.specs.Evaluation.{all_done}
use Rattle.meaning.proofs.SolutionRecords.{all_done-stays}
use Rattle.outcome.proofs.SheetWords.{LawfulNumbers, DoneNumbers, AlikeNumbers, solution_prefixes, record_of_extend, situations_congruence}
use Rattle.explore.specs.Rows.{situation_of, letter_numbers, ExploredRows}

module _ (s : Sheet) where
  pub marks : Marks (letter_numbers s) (LawfulNumbers s) (situation_of s) (all_done s.constraints) (DoneNumbers s) (AlikeNumbers s)
  marks =
      record {
        same_alike = λ r t h g l m e. record { same = e };
        done↔done = λ r h l. (λ d. record { is_done = d }, λ d. d.is_done);
        stays = λ r a h b l m d. record { is_done = rw (record_of_extend s r a) (all_done-stays s.constraints (record_of s.streams r) (letter_of s.streams a ∷ []) d.is_done) };
      }

  module _ {n : ℕ} {entries flags : List ℕ} (x : ExploredRows s n entries flags) (room : n ≤ no_state) where
    pub lawful-rows : RowsOf (letter_numbers s) (LawfulNumbers s) (situation_of s) (all_done s.constraints) n (entry_at (letter_numbers s) entries) (final_at flags)
    lawful-rows = Laws.rows-lawful x.rows (λ r. (λ e. record { is_lawful = T-of_true _ e }, λ l. true_of_T _ l.is_lawful))

    -- "An entry is the next state, or 65,535 for none."
    pub row-targets : (i a : ℕ) → i < n → a < letter_numbers s → (entry_at (letter_numbers s) entries i a ≡ no_state) ⊎ (entry_at (letter_numbers s) entries i a < n)
    row-targets = Laws.rows-targets x.rows

    pub row-bits : (i : ℕ) → i < n → final_at flags i ≤ 1
    row-bits = Laws.rows-bits x.rows

    pub row-flags-stay : (i a : ℕ) → i < n → a < letter_numbers s → entry_at (letter_numbers s) entries i a < n → T (eqb (final_at flags i) 1) → T (eqb (final_at flags (entry_at (letter_numbers s) entries i a)) 1)
    row-flags-stay = Laws.flags-stay marks lawful-rows room

    -- the graph that the rows hold
    unfoldable pub row-graph : Graph
    unfolding Laws.row-graph
    row-graph = Laws.row-graph marks lawful-rows room

    -- The graph's language from the first row is the set of solutions.
    pub rows_language : SameSolutions (letter_numbers s) (Language row-graph 0) (SolutionWord s)
    unfolding row-graph
    rows_language = solutions_trans (Laws.rows_language marks lawful-rows room (situations_congruence s)) (solutions_sym (solution_prefixes s))
