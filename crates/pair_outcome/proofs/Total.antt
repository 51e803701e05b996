-- There always is an outcome of two tables together: their pairs are counted up to any limit, or exceed it; whether pairs stay final is decided of those that
-- are counted; and then the words that both follow have a table of no more states, or there is none. From the search that ends (Search).
use Prim.Native.Nat.{ℕ, zero, suc, ◌≤◌, ◌<◌, min}
use native.Mathlib.Omega.{arith}
use native.Mathlib.Decide.{ℕ_discrete, dec_lt}
use mathlib.Core.Path.{◌≡◌, subst}
use mathlib.Core.Bool.{Bool, true, false}
use mathlib.Core.Logic.{◌⊎◌, inl, inr}
use lib.Dec.{eqb}
use borrow.Author.Tests.{eq-eqb, eqb-true}
use Rattle.basics.specs.Count.{CountOf, MoreThan}
use Rattle.basics.proofs.Count.{count_excludes_more}
use Rattle.basics.proofs.Lists.{below_decided}
use Rattle.basics.proofs.Tests.{true_of_T, T-of_true}
use Rattle.automaton.specs.Table.{no_state}
use Rattle.automaton.specs.Stored.{HasTable}
use Rattle.automaton.specs.WellFormed.{most_rows}
use Rattle.automaton.specs.Solutions.{NoSolution}
use Rattle.automaton.specs.Reachable.{SearchedKeys}
use Rattle.automaton.specs.Join.{TwoTables, IsPair, Together, FinalsStay}
use Rattle.automaton.specs.PairSearch.{pair_system, StatesBelow}
use Rattle.automaton.proofs.Construction.{table_or_none}
use Rattle.automaton.proofs.ReachedRows.{searched_things, searched-more_things, flags-stay, row-graph}
use Rattle.automaton.proofs.PairSearch.{pairs_stand, pairs-marks, pair-rows, rows_stay, pair-graph, pair-graph_language}
use Rattle.outcome.specs.Compile.{CompileAnswer, Room, room_rows, Tables, CountFits, too_many_situations, too_few_rows, situation_bound}
use Rattle.outcome.proofs.CompileTotal.{words_total}
use Rattle.pair_outcome.specs.Outcome.{PairTableOutcome, unsettled, given}
use Rattle.pair_outcome.proofs.Made.{some_pair}
use Rattle.pair_outcome.proofs.Continuing.{states-at-most-pairs}
use Rattle.pair_outcome.proofs.Search.{search_total}

module _ {T₀ : TwoTables} (W : StatesBelow T₀ most_rows) where
  -- ---- the pairs are counted

  counted-by : {limit n : ℕ} {key : ℕ → ℕ} {entry : ℕ → ℕ → ℕ} {byte : ℕ → ℕ} (full : Bool) → SearchedKeys (pair_system T₀ most_rows) limit key entry byte full n
      → ((m : ℕ) × (m ≤ limit) × CountOf (IsPair T₀) m) ⊎ MoreThan (IsPair T₀) limit
  counted-by {n = n} false z = inl (n, z.within, searched_things (pairs_stand W) z)
  counted-by true z = inr (searched-more_things (pairs_stand W) z)

  pub pairs-counted : (limit : ℕ) → ((m : ℕ) × (m ≤ limit) × CountOf (IsPair T₀) m) ⊎ MoreThan (IsPair T₀) limit
  pairs-counted zero = inr (some_pair T₀)
  pairs-counted (suc l) = let x = search_total (pair_system T₀ most_rows) ℕ_discrete (suc l) (omega arith) in counted-by x.full x.searched

  -- ---- those that are counted stand in rows

  record PairRows : Type 0 where
    key : ℕ → ℕ
    entry : ℕ → ℕ → ℕ
    byte : ℕ → ℕ
    count : ℕ
    rows : SearchedKeys (pair_system T₀ most_rows) situation_bound key entry byte false count

  pairs_in_rows : {m : ℕ} → CountOf (IsPair T₀) m → m ≤ situation_bound → PairRows
  pairs_in_rows c h = let x = search_total (pair_system T₀ most_rows) ℕ_discrete situation_bound (omega arith) in by x.full x.searched
    where
      by : {n : ℕ} {key : ℕ → ℕ} {entry : ℕ → ℕ → ℕ} {byte : ℕ → ℕ} (full : Bool) → SearchedKeys (pair_system T₀ most_rows) situation_bound key entry byte full n → PairRows
      by {n} {key} {entry} {byte} false z = record { key = key; entry = entry; byte = byte; count = n; rows = z }
      by true z = absurd (count_excludes_more c situation_bound h (searched-more_things (pairs_stand W) z))

  module _ (p : PairRows) where
    few : p.count ≤ no_state
    few = let h = p.rows.within in omega arith

    -- whether pairs stay final
    stays_decided : Dec (FinalsStay T₀)
    stays_decided = by (below_decided (λ i. below_decided (λ a. staying i a) T₀.letters) p.count)
      where
        staying : (i a : ℕ) → Dec (p.entry i a < p.count → p.byte i ≡ 1 → p.byte (p.entry i a) ≡ 1)
        staying i a = test (dec_lt (p.entry i a) p.count) (ℕ_discrete (p.byte i) 1) (ℕ_discrete (p.byte (p.entry i a)) 1)
          where
            test : Dec (p.entry i a < p.count) → Dec (p.byte i ≡ 1) → Dec (p.byte (p.entry i a) ≡ 1) → Dec (p.entry i a < p.count → p.byte i ≡ 1 → p.byte (p.entry i a) ≡ 1)
            test (no h) d e = yes (λ l f. absurd (h l))
            test (yes h) (no d) e = yes (λ l f. absurd (d f))
            test (yes h) (yes d) (yes e) = yes (λ l f. e)
            test (yes h) (yes d) (no e) = no (λ all. e (all h d))

        flag : FinalsStay T₀ → (i a : ℕ) → i < p.count → a < T₀.letters → p.entry i a < p.count → p.byte i ≡ 1 → p.byte (p.entry i a) ≡ 1
        flag f i a h l g e =
            eqb-true (p.byte (p.entry i a)) 1
            (true_of_T (eqb (p.byte (p.entry i a)) 1) (flags-stay (pairs-marks f) (pair-rows W p.rows) few i a h l g (T-of_true (eqb (p.byte i) 1) (eq-eqb (p.byte i) 1 e))))

        by : Dec ((i : ℕ) → i < p.count → (a : ℕ) → a < T₀.letters → p.entry i a < p.count → p.byte i ≡ 1 → p.byte (p.entry i a) ≡ 1) → Dec (FinalsStay T₀)
        by (yes all) = yes (rows_stay W p.rows (λ i a h l g e. all i h a l g e))
        by (no n) = no (λ f. n (λ i h a l g e. flag f i a h l g e))

    -- the words that both follow have a table, or there is none
    settled : FinalsStay T₀ → HasTable (Together T₀) T₀.letters ⊎ NoSolution T₀.letters (Together T₀)
    unfolding pair-graph row-graph
    settled f = table_or_none (pair-graph W p.rows f few) 0 few (pair-graph_language W p.rows f few)

  settles : FinalsStay T₀ → (m : ℕ) → CountOf (IsPair T₀) m → m ≤ situation_bound → ((t : HasTable (Together T₀) T₀.letters) × (t.states ≤ m)) ⊎ NoSolution T₀.letters (Together T₀)
  settles f m c h = by (settled (pairs_in_rows c h) f)
    where
      by : HasTable (Together T₀) T₀.letters ⊎ NoSolution T₀.letters (Together T₀) → ((t : HasTable (Together T₀) T₀.letters) × (t.states ≤ m)) ⊎ NoSolution T₀.letters (Together T₀)
      by (inl t) = inl (t, states-at-most-pairs f t.stored.table c)
      by (inr n) = inr n

  -- ---- an outcome

  module _ (room : Room) where
    abbrev k : ℕ
    k = T₀.letters

    pub record HasPairOutcome : Type 0 where
      pub answer : CompileAnswer
      pub tables : Tables
      pub outcome : PairTableOutcome T₀ room answer tables

    too_many : MoreThan (IsPair T₀) (min (room_rows room k) situation_bound) → (m : ℕ) → CountFits (IsPair T₀) k room m → ⊥
    too_many more m c = let h = c.within_bound in let g = c.within_room in count_excludes_more c.counted (min (room_rows room k) situation_bound) (below_both m (room_rows room k) situation_bound g h) more
      where
        below_both : (m a b : ℕ) → m ≤ a → m ≤ b → m ≤ min a b
        below_both m a b h g = omega arith

    more-outcome : MoreThan (IsPair T₀) (min (room_rows room k) situation_bound) → Dec (room_rows room k < situation_bound) → HasPairOutcome
    more-outcome more (yes h) = record { answer = _; tables = _; outcome = given (λ m c. absurd (too_many more m c)) (too_few_rows h (subst (MoreThan (IsPair T₀)) (least_first (room_rows room k) situation_bound h) more)) }
      where
        least_first : (a b : ℕ) → a < b → min a b ≡ a
        least_first a b h = omega arith
    more-outcome more (no h) =
        record { answer = _; tables = _; outcome = given (λ m c. absurd (too_many more m c)) (too_many_situations (at_least (room_rows room k) situation_bound h) (subst (MoreThan (IsPair T₀)) (least-second (room_rows room k) situation_bound h) more)) }
      where
        at_least : (a b : ℕ) → (a < b → ⊥) → b ≤ a
        at_least a b h = omega arith

        least-second : (a b : ℕ) → (a < b → ⊥) → min a b ≡ b
        least-second a b h = omega arith

    fit_outcome : {m : ℕ} → CountFits (IsPair T₀) k room m → Dec (FinalsStay T₀) → HasPairOutcome
    fit_outcome c (yes f) = let w = words_total room pairs-counted (settles f) in record { answer = w.answer; tables = w.tables; outcome = given (λ m d. f) w.outcome }
    fit_outcome c (no n) = record { answer = _; tables = _; outcome = unsettled c n }

    pub pair-total : HasPairOutcome
    pair-total = by (pairs-counted (min (room_rows room k) situation_bound))
      where
        within : (m a b : ℕ) → m ≤ min a b → (m ≤ a) × (m ≤ b)
        within m a b h = (omega arith, omega arith)

        by : ((m : ℕ) × (m ≤ min (room_rows room k) situation_bound) × CountOf (IsPair T₀) m) ⊎ MoreThan (IsPair T₀) (min (room_rows room k) situation_bound) → HasPairOutcome
        by (inl (m, h, c)) =
            let (inside, bounded) = within m (room_rows room k) situation_bound h in
            fit_outcome (record { counted = c; within_bound = bounded; within_room = inside }) (stays_decided (pairs_in_rows c bounded))
        by (inr more) = more-outcome more (dec_lt (room_rows room k) situation_bound)
