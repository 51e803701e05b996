-- Equal sets of words have the same tables, and what has the rows of a table is a table of the same set.
use mathlib.Core.Path.{sym, ◌∙◌}
use mathlib.Core.Logic.{inl, inr}
use mathlib.Core.List.{[], ◌∷◌, ◌++◌}
use Prim.Native.Nat.{ℕ, ◌<◌}
use native.Mathlib.Omega.{arith}
use Rattle.automaton.specs.Words.{Word}
use Rattle.automaton.specs.Solutions.{SameSolutions, Continuation}
use Rattle.automaton.specs.Table.{Before, FirstMet, IsEntry, IsTable, SameRows}
use Rattle.automaton.proofs.Words.{all-below-append}
use Rattle.automaton.proofs.Solutions.{solutions_sym, solutions_trans, continuation_same, begins-same}
use Rattle.automaton.proofs.Flags.{flag_transfer}
use Rattle.automaton.proofs.Paths.{follows-agree}

pub table_transfer : {Sol Sol' : Word → Type 0} {k n : ℕ} {entry : ℕ → ℕ → ℕ} {final : ℕ → ℕ} → SameSolutions k Sol Sol'
    → IsTable Sol k n entry final → IsTable Sol' k n entry final
table_transfer {Sol} {Sol'} {k} {n} {entry} e A = record {
  representative = A.representative;
  letters = A.letters;
  not_empty = λ i hi. begins-same (at i hi) (A.not_empty i hi);
  distinct = λ i j hi hj s. A.distinct i j hi hj (solutions_trans (at i hi) (solutions_trans s (solutions_sym (at j hj))));
  room = A.room;
  some_state = A.some_state;
  start = A.start;
  first_met = A.first_met;
  entries = λ i a hi ha. entries i a hi ha (A.entries i a hi ha);
  finals = λ i hi. flag_transfer (λ c w b f. (at i hi).to w b (c w b f)) (λ c w b f. (at i hi).from w b (c w b f)) (A.finals i hi);
}
  where
    at : (i : ℕ) → i < n → SameSolutions k (Continuation Sol (A.representative i)) (Continuation Sol' (A.representative i))
    at i hi = continuation_same (A.representative i) (A.letters i hi) e

    after : (i a : ℕ) → i < n → a < k
        → SameSolutions k (Continuation Sol (A.representative i ++ (a ∷ []))) (Continuation Sol' (A.representative i ++ (a ∷ [])))
    after i a hi ha =
        continuation_same (A.representative i ++ (a ∷ [])) (all-below-append k (A.representative i) (a ∷ []) (A.letters i hi) (ha, tt)) e

    entries : (i a : ℕ) → i < n → a < k → IsEntry Sol k n A.representative (A.representative i ++ (a ∷ [])) (entry i a)
        → IsEntry Sol' k n A.representative (A.representative i ++ (a ∷ [])) (entry i a)
    entries i a hi ha (inl x) = inl (x.0, λ g. x.1 (begins-same (solutions_sym (after i a hi ha)) g))
    entries i a hi ha (inr x) = inr (x.0, solutions_trans (solutions_sym (after i a hi ha)) (solutions_trans x.1 (at (entry i a) x.0)))

module _ {k n n' : ℕ} {entry entry' : ℕ → ℕ → ℕ} {final final' : ℕ → ℕ} (R : SameRows k n entry final n' entry' final') where
  pub rows_sym : SameRows k n' entry' final' n entry final
  rows_sym = record {
    states = sym R.states;
    entries = λ i a hi ha. sym (R.entries i a (omega (arith, R.states)) ha);
    finals = λ i hi. sym (R.finals i (omega (arith, R.states)));
  }

  first-met-rows : {j : ℕ} → j < n → FirstMet k entry j → FirstMet k entry' j
  first-met-rows {j} hj m = record {
    state = m.state;
    letter = m.letter;
    earlier_state = m.earlier_state;
    is_letter = m.is_letter;
    holds = sym (R.entries m.state m.letter (omega (arith, m.earlier_state)) m.is_letter) ∙ m.holds;
    before = λ i a ha h. rw (← R.entries i a (below i a h) ha) (m.before i a ha h);
  }
    where
      below : (i a : ℕ) → Before i a m.state m.letter → i < n
      below i a (inl h) = omega (arith, m.earlier_state)
      below i a (inr h) = omega (arith, m.earlier_state, h.0)

  pub rows-table : {Sol : Word → Type 0} → IsTable Sol k n entry final → IsTable Sol k n' entry' final'
  rows-table {Sol} A = record {
    representative = A.representative;
    letters = λ i hi. A.letters i (below hi);
    not_empty = λ i hi. A.not_empty i (below hi);
    distinct = λ i j hi hj. A.distinct i j (below hi) (below hj);
    room = omega (arith, A.room, R.states);
    some_state = omega (arith, A.some_state, R.states);
    start = A.start;
    first_met = λ j h hj. first-met-rows (below hj) (A.first_met j h (below hj));
    entries = λ i a hi ha. rw (← R.entries i a (below hi) ha, ← R.states) (A.entries i a (below hi) ha);
    finals = λ i hi. rw (← R.finals i (below hi)) (flag_transfer
        (λ c w b f. c w b (rw R.states (follows-agree i w b rows_sym.entries f)))
        (λ c w b f. c w b (follows-agree i w b (λ j a hj ha. R.entries j a (below hj) ha) (rw (← R.states) f)))
        (A.finals i (below hi)));
  }
    where
      below : {i : ℕ} → i < n' → i < n
      below h = omega (arith, R.states)
