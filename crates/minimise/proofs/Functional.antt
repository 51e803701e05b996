-- The outcome is a function of the arguments: equal tables, letters and rows give one refusal, one number of states and the same
-- contents. A set of endless words has at most one table, and everything beyond the used rows is zero.
use mathlib.Core.Path.{◌≡◌, sym, ap, ◌∙◌}
use mathlib.Core.Logic.{inl, inr}
use mathlib.Core.List.{List}
use Prim.Native.Nat.{ℕ, ◌*◌, ◌/◌, ◌%◌, ◌<◌, ◌≤◌}
use native.Mathlib.Nat.{div-add-mod', mod-lt, div-lt_iff_lt-mul}
use native.Mathlib.Omega.{arith}
use native.Mathlib.Decide.{dec_lt}
use lib.ListN.{get_or}
use lib.Seq.{ext_get_or}
use Rattle.automaton.specs.Words.{Word}
use Rattle.automaton.specs.Solutions.{SameSolutions}
use Rattle.automaton.specs.Table.{SameRows}
use Rattle.automaton.specs.Stored.{entry_at, final_at}
use Rattle.automaton.specs.Graph.{Language}
use Rattle.automaton.proofs.Paths.{has_solution}
use Rattle.automaton.proofs.Transfer.{table_transfer}
use Rattle.automaton.proofs.Unique.{unique_rows}
use Rattle.stored_graph.specs.StoredGraph.{IsStoredGraph, stored_graph}
use Rattle.minimise.specs.Outcome.{GraphTables, IsRefusal, NoWord, TableGiven, MinimiseOutcome}

-- the answers and the tables afterwards are the same
pub record SameOutcome (refusal states : ℕ) (after : GraphTables) (refusal' states' : ℕ) (after' : GraphTables) : Type 0 where
  pub refusals : refusal ≡ refusal'
  pub counts : states ≡ states'
  pub tables : after ≡ after'

module _ {entries flags : List ℕ} {letters rows : ℕ} (g g' : IsStoredGraph entries flags letters rows) where
  -- the language does not depend on why the tables are a graph
  language_same : (w : Word) → Language (stored_graph g) 0 w → Language (stored_graph g') 0 w
  language_same w l = record { follows = l.follows; time = l.time; is_done = l.is_done }

tables-same : {x y : GraphTables} → x.entries ≡ y.entries → x.flags ≡ y.flags → x.work ≡ y.work → x ≡ y
tables-same e f w = λ i. record { entries = e i; flags = f i; work = w i }

refusals-same : {before after after' : GraphTables} {refusal states refusal' states' n : ℕ} → IsRefusal n before refusal states after → IsRefusal n before refusal' states' after'
    → SameOutcome refusal states after refusal' states' after'
refusals-same x y = record {
  refusals = x.number_is ∙ sym y.number_is;
  counts = x.no_states ∙ sym y.no_states;
  tables = tables-same (x.entries_zero ∙ sym y.entries_zero) (x.flags_zero ∙ sym y.flags_zero) (x.work_zero ∙ sym y.work_zero);
}

module _ {before after after' : GraphTables} {letters rows refusal states refusal' states' : ℕ} where
  -- a language with a table has a word
  word_or_table : NoWord before letters rows refusal states after → TableGiven before letters rows refusal' states' after' → ⊥
  word_or_table x y =
      has_solution y.table.table (λ w b l. x.empty w b (language_same y.accepted.graph x.accepted.graph w l))

  tables_unique : TableGiven before letters rows refusal states after → TableGiven before letters rows refusal' states' after' → SameOutcome refusal states after refusal' states' after'
  tables_unique x y = record {
    refusals = x.no_refusal ∙ sym y.no_refusal;
    counts = same.states;
    tables = tables-same (ext_get_or 0 after.entries after'.entries (x.entries_length ∙ sym y.entries_length) λ i h. entry i (dec_lt i (states * letters)))
        (ext_get_or 0 after.flags after'.flags (x.flags_length ∙ sym y.flags_length) λ i h. byte i (dec_lt i states)) (x.work_zero ∙ sym y.work_zero);
  }
    where
      g : IsStoredGraph before.entries before.flags letters rows
      g = x.accepted.graph

      g' : IsStoredGraph before.entries before.flags letters rows
      g' = y.accepted.graph

      one_language : SameSolutions letters (Language (stored_graph g') 0) (Language (stored_graph g) 0)
      one_language = record { to = λ w b. language_same g' g w; from = λ w b. language_same g g' w }

      same : SameRows letters states (entry_at letters after.entries) (final_at after.flags) states' (entry_at letters after'.entries) (final_at after'.flags)
      same = unique_rows x.table.table (table_transfer one_language y.table.table)

      -- an entry of the used rows is that of its row and letter
      entry : (i : ℕ) → Dec (i < states * letters) → get_or after.entries i 0 ≡ get_or after'.entries i 0
      entry i (yes h) =
          let row : i / letters < states = (div-lt_iff_lt-mul g.some_letter).1 h in
          let e = same.entries (i / letters) (i % letters) row (mod-lt i g.some_letter) in
          ap (λ k. get_or after.entries k 0) (sym (div-add-mod' i letters)) ∙ (e ∙ ap (λ k. get_or after'.entries k 0) (div-add-mod' i letters))
      entry i (no h) = x.entries_beyond i (omega arith) ∙ sym (y.entries_beyond i (beyond same.states))
        where
          beyond : states ≡ states' → states' * letters ≤ i
          beyond e = rw (← e) (omega arith)

      byte : (i : ℕ) → Dec (i < states) → get_or after.flags i 0 ≡ get_or after'.flags i 0
      byte i (yes h) = same.finals i h
      byte i (no h) = x.flags_beyond i (omega arith) ∙ sym (y.flags_beyond i (omega (arith, same.states)))

-- equal arguments give equal numbers and contents
pub outcome_functional : {before after after' : GraphTables} {letters rows refusal states refusal' states' : ℕ} → MinimiseOutcome before letters rows refusal states after → MinimiseOutcome before letters rows refusal' states' after'
    → SameOutcome refusal states after refusal' states' after'
outcome_functional (inl x) (inl y) = refusals-same x.answer y.answer
outcome_functional (inl x) (inr (inl y)) = absurd (x.refused y.accepted)
outcome_functional (inl x) (inr (inr y)) = absurd (x.refused y.accepted)
outcome_functional (inr (inl x)) (inl y) = absurd (y.refused x.accepted)
outcome_functional (inr (inr x)) (inl y) = absurd (y.refused x.accepted)
outcome_functional (inr (inl x)) (inr (inl y)) = refusals-same x.answer y.answer
outcome_functional (inr (inl x)) (inr (inr y)) = absurd (word_or_table x y)
outcome_functional (inr (inr x)) (inr (inl y)) = absurd (word_or_table y x)
outcome_functional (inr (inr x)) (inr (inr y)) = tables_unique x y
