-- From the search of the pairs and the table made of its rows to the outcome: the rows are a stored graph exactly if pairs stay final, and its language is
-- that of the words that both tables follow; every other number of the tables is 0. From the laws of the search for pairs (automaton).
use Prim.Native.Nat.{ℕ, ◌+◌, ◌-◌, ◌*◌, ◌≤◌, ◌<◌, min}
use native.Mathlib.Omega.{arith}
use native.Mathlib.Decide.{dec_lt}
use mathlib.Core.Path.{◌≡◌, refl, sym, ◌∙◌, ap, subst}
use mathlib.Core.Bool.{false, cond}
use mathlib.Core.Logic.{◌⊎◌, inl, inr}
use mathlib.Core.List.Memᴰ
use mathlib.Core.List.{List, [], ◌∷◌, Memᴰ}
use lib.Dec.{eqb, ltb}
use lib.ListN.{length, get_or, drop, length-drop}
use lib.Seq.{get_or-drop}
use borrow.Author.Tests.{lt-ltb, le-ltb, eq-eqb, ne_eqb, eqb-true}
use Rattle.basics.specs.Count.{MoreThan}
use Rattle.basics.proofs.Clearing.{all-zero}
use Rattle.basics.proofs.Count.{count_excludes_more}
use Rattle.basics.proofs.Tests.{true_of_T, T-of_true}
use Rattle.automaton.specs.Table.{no_state}
use Rattle.automaton.specs.Stored.{entry_at, final_at}
use Rattle.automaton.specs.WellFormed.{most_rows}
use Rattle.automaton.specs.Solutions.{SameSolutions}
use Rattle.automaton.specs.Graph.{Language}
use Rattle.automaton.specs.Reachable.{SearchedKeys}
use Rattle.automaton.specs.Join.{TwoTables, IsPair, Together, FinalsStay}
use Rattle.automaton.specs.PairSearch.{pair_system, StatesBelow}
use Rattle.automaton.proofs.Transfer.{table_transfer}
use Rattle.automaton.proofs.ReachedRows.{searched_things, searched-more_things, rows-targets, rows-bits, flags-stay, row-graph}
use Rattle.automaton.proofs.PairSearch.{pairs_stand, pairs-marks, pair-rows, rows_stay, pair-graph, pair-graph_language}
use Rattle.marks.specs.Tests.{is_marked}
use Rattle.stored_graph.specs.StoredGraph.{IsStoredGraph, stored_graph}
use Rattle.minimise.specs.Outcome.{GraphTables, cleared, IsAccepted, IsRefusal, NoGraph, NoWord, TableGiven, MinimiseOutcome}
use Rattle.outcome.specs.Room.{LentTable, fewest_rows, zeros, zero_tables}
use Rattle.outcome.specs.Compile.{CompileAnswer, refused_answer, situation_bound, Room, room_rows, Tables, all_zero, CountFits, WordsOutcome, too_many_situations, too_few_rows, no_solution, compiled}
use Rattle.outcome.proofs.CompileTotal.{rows_fit}
use Rattle.pairs.specs.Rows.{MorePairs}
use Rattle.pairs.specs.Found.{PairTables, pair_tables, HoldsPairs, IsPairRoom, PairsOutcome, found, none}
use Rattle.pair_outcome.specs.Outcome.{join_room, PairTableOutcome, unsettled, given, pair_answer}

-- ---- the limit of a search is the rows lent or the bound, whichever is less

few_states : (n : ℕ) → n ≤ situation_bound → n ≤ no_state
few_states n h = omega arith

at_least : (a b : ℕ) → (a < b → ⊥) → b ≤ a
at_least a b h = omega arith

module _ (rows bound limit : ℕ) (cut : limit ≡ min rows bound) where
  limit_rows : rows < bound → limit ≡ rows
  limit_rows h = omega arith

  limit_bound : bound ≤ rows → limit ≡ bound
  limit_bound h = omega arith

  within-rows : (n : ℕ) → n ≤ limit → n ≤ rows
  within-rows n h = omega arith

  within-bound : (n : ℕ) → n ≤ limit → n ≤ bound
  within-bound n h = omega arith

  below_both : (n : ℕ) → n ≤ rows → n ≤ bound → n ≤ limit
  below_both n h k = omega arith

-- ---- the rows are a graph

module _ {T₀ : TwoTables} (W : StatesBelow T₀ most_rows) {limit n : ℕ} {key : ℕ → ℕ} {entries flags : List ℕ}
    (z : SearchedKeys (pair_system T₀ most_rows) limit key (entry_at T₀.letters entries) (final_at flags) false n) (few : n ≤ situation_bound) where
  pub rows-stored : FinalsStay T₀ → 0 < T₀.letters → n * T₀.letters ≤ length entries → n ≤ length flags → IsStoredGraph entries flags T₀.letters n
  rows-stored f some e g =
      let x = pair-rows W z in
      record {
        some_letter = some;
        some_row = z.known.some_row;
        few_rows = few;
        entries_fit = e;
        flags_fit = g;
        bits = rows-bits x;
        targets = rows-targets x;
        stays = flags-stay (pairs-marks f) x (few_states n few);
        first_met = z.first_met;
      }

  -- A stored graph's flags stay, so pairs stay final.
  pub graph-stays : IsStoredGraph entries flags T₀.letters n → FinalsStay T₀
  graph-stays g = rows_stay W z (λ i a h l k e. eqb-true (final_at flags (entry_at T₀.letters entries i a)) 1 (true_of_T (is_marked flags (entry_at T₀.letters entries i a)) (g.stays i a h l k (T-of_true (is_marked flags i) (eq-eqb (final_at flags i) 1 e)))))

  -- The language does not depend on why the tables are a graph.
  pub stored_words : (g : IsStoredGraph entries flags T₀.letters n) → SameSolutions T₀.letters (Language (stored_graph g) 0) (Together T₀)
  unfolding pair-graph row-graph
  stored_words g =
      let same = pair-graph_language W z (graph-stays g) (few_states n few) in
      record {
        to = λ w b l. same.to w b (record { follows = l.follows; time = l.time; is_done = l.is_done });
        from = λ w b y. let l = same.from w b y in record { follows = l.follows; time = l.time; is_done = l.is_done };
      }

-- ---- more pairs than the limit

-- There is always the pair of both starts.
pub some_pair : (T₀ : TwoTables) → MoreThan (IsPair T₀) 0
some_pair T₀ =
    record {
      list = (0, 0) ∷ [];
      distinct = (λ m. Memᴰ.not-nil m, tt);
      found = λ x m. by x m;
      longer = omega arith;
    }
  where
    by : (x : ℕ × ℕ) → Memᴰ x ((0, 0) ∷ []) → IsPair T₀ x
    by x (Memᴰ.head e) = record { shown = []; letters = tt; is_lawful = record { left_path = tt; right_path = tt }; same = sym e }
    by x (Memᴰ.tail m) = absurd (Memᴰ.not-nil m)

more-pairs : {T₀ : TwoTables} → StatesBelow T₀ most_rows → (limit : ℕ) → (0 < limit → MorePairs T₀ limit) → MoreThan (IsPair T₀) limit
more-pairs {T₀} W limit more = by (dec_lt 0 limit)
  where
    by : Dec (0 < limit) → MoreThan (IsPair T₀) limit
    by (yes h) = searched-more_things (pairs_stand W) (more h).searched
    by (no h) = let e : 0 ≡ limit = omega arith in subst (MoreThan (IsPair T₀)) e (some_pair T₀)

-- what was found: rows, or none
rows_or_none : {left_cuts right_cuts left_letters right_letters limit n : ℕ} {T₀ : TwoTables} {before after : PairTables} → PairsOutcome left_cuts right_cuts T₀ left_letters right_letters limit before after n
    → HoldsPairs T₀ limit before after n ⊎ ((n ≡ 0) × (IsPairRoom left_letters right_letters T₀.letters limit left_cuts right_cuts before → MorePairs T₀ limit))
rows_or_none (found h w) = inl h
rows_or_none (none more e f w) = inr (refl, more)

-- ---- zeros and rooms

-- A list that is 0 from a place on.
zero-from : (list : List ℕ) (from size : ℕ) → length list ≡ size → ((i : ℕ) → from ≤ i → get_or list i 0 ≡ 0) → drop from list ≡ zeros (size - from)
zero-from list from size e y = all-zero (drop from list) (size - from) (omega (arith, length-drop from list)) λ i. get_or-drop from list i 0 ∙ y (from + i) (omega arith)

-- each of the tables has room for n rows
Holds : ℕ → LentTable → List LentTable → Type 0
Holds n t [] = n * t.per_row ≤ t.size
Holds n t (u ∷ us) = (n * t.per_row ≤ t.size) × Holds n u us

fewest_hold : (n : ℕ) (t : LentTable) (ts : List LentTable) → n ≤ fewest_rows t ts → Holds n t ts
unfolding Holds
fewest_hold n t [] h = rows_fit n t.per_row t.size h
fewest_hold n t (u ∷ us) h = (rows_fit n t.per_row t.size (omega arith), fewest_hold n u us (omega arith))

-- ---- the outcome

module _ (entries finals keys live class next heads links envelopes : List ℕ) where
  abbrev lent_room : Room
  lent_room = join_room entries finals keys live class next heads links envelopes

  -- What the table is made of, and what that leaves; the sizes stay.
  module _ {T₀ : TwoTables} (W : StatesBelow T₀ most_rows) (some : 0 < T₀.letters) (left_cuts right_cuts left_letters right_letters limit n refusal states : ℕ) (entries₁ finals₁ keys₁ heads₁ links₁ : List ℕ) (after : GraphTables)
      (cut : limit ≡ min (room_rows lent_room T₀.letters) situation_bound)
      (el : length entries₁ ≡ length entries) (fl : length finals₁ ≡ length finals) (hl : length heads₁ ≡ length heads) (ll : length links₁ ≡ length links) (kz : keys₁ ≡ zeros (length keys)) where
    abbrev k : ℕ
    k = T₀.letters

    abbrev R : ℕ
    R = room_rows lent_room k

    abbrev before : GraphTables
    before = record { entries = entries₁; flags = finals₁; work = live ∷ (class ∷ (next ∷ (heads₁ ∷ (links₁ ∷ (envelopes ∷ []))))) }

    abbrev left : Tables
    left = record { entries = after.entries; finals = after.flags; work = keys₁ ∷ after.work }

    work-zeros : after.work ≡ cleared before.work → left.work ≡ zero_tables lent_room.work
    work-zeros e i = kz i ∷ (e ∙ (λ j. zeros (length live) ∷ (zeros (length class) ∷ (zeros (length next) ∷ (zeros (hl j) ∷ (zeros (ll j) ∷ (zeros (length envelopes) ∷ []))))))) i

    all-zeros : {number : ℕ} → IsRefusal number before refusal states after → all_zero lent_room ≡ left
    all-zeros y = sym (λ i. record { entries = (y.entries_zero ∙ ap zeros el) i; finals = (y.flags_zero ∙ ap zeros fl) i; work = work-zeros y.work_zero i })

    abbrev Words : CompileAnswer → Tables → Type 0
    Words = WordsOutcome (Together T₀) k (IsPair T₀) lent_room

    -- The limit is the bound or the rows lent, whichever is less.
    more-outcome : {number : ℕ} → MoreThan (IsPair T₀) limit → IsRefusal number before refusal states after → Words (cond (ltb R situation_bound) (refused_answer 10) (refused_answer 8)) left
    more-outcome more y = subst (Words (cond (ltb R situation_bound) (refused_answer 10) (refused_answer 8))) (all-zeros y) (by (dec_lt R situation_bound))
      where
        by : Dec (R < situation_bound) → Words (cond (ltb R situation_bound) (refused_answer 10) (refused_answer 8)) (all_zero lent_room)
        by (yes h) = rw (lt-ltb R situation_bound h) (too_few_rows h (subst (MoreThan (IsPair T₀)) (limit_rows R situation_bound limit cut h) more))
        by (no h) = let g = at_least R situation_bound h in rw (le-ltb R situation_bound g) (too_many_situations g (subst (MoreThan (IsPair T₀)) (limit_bound R situation_bound limit cut g) more))

    -- The rows found are counted, and are a graph in tables with room for them where pairs stay final.
    module _ {key_at : ℕ → ℕ} (z : SearchedKeys (pair_system T₀ most_rows) limit key_at (entry_at k entries₁) (final_at finals₁) false n) where
      fit : CountFits (IsPair T₀) k lent_room n
      fit = record { counted = searched_things (pairs_stand W) z; within_bound = within-bound R situation_bound limit cut n z.within; within_room = within-rows R situation_bound limit cut n z.within }

      held : Holds n (record { per_row = k; size = length entries }) (record { per_row = 1; size = length finals } ∷ lent_room.work)
      held = fewest_hold n (record { per_row = k; size = length entries }) (record { per_row = 1; size = length finals } ∷ lent_room.work) fit.within_room

      is-accepted : FinalsStay T₀ → IsAccepted before k n
      unfolding Holds
      is-accepted f =
          record {
            graph = rows-stored W z fit.within_bound f some (omega (arith, held.0, el)) (omega (arith, held.1.0, fl));
            room = (omega (arith, held), (omega (arith, held), (omega (arith, held), (omega (arith, held, hl), (omega (arith, held, ll), (omega (arith, held), tt))))));
          }

      language : (x : IsAccepted before k n) → SameSolutions k (Language (stored_graph x.graph) 0) (Together T₀)
      language x = stored_words W z fit.within_bound x.graph

      stays : IsAccepted before k n → (m : ℕ) → CountFits (IsPair T₀) k lent_room m → FinalsStay T₀
      stays x m c = graph-stays W z fit.within_bound x.graph

      not-settled : NoGraph before k n refusal states after → PairTableOutcome T₀ lent_room (refused_answer 11) left
      not-settled x = subst (PairTableOutcome T₀ lent_room (refused_answer 11)) (all-zeros x.answer) (unsettled fit (λ f. x.refused (is-accepted f)))

      no_word : NoWord before k n refusal states after → PairTableOutcome T₀ lent_room (refused_answer 9) left
      no_word x =
          subst (PairTableOutcome T₀ lent_room (refused_answer 9)) (all-zeros x.answer)
          (given (stays x.accepted) (no_solution fit (λ w b y. x.empty w b ((language x.accepted).from w b y))))

      has_table : TableGiven before k n refusal states after → PairTableOutcome T₀ lent_room (record { refusal = 0; states = states; situations = n }) left
      has_table x =
          given (stays x.accepted)
          (compiled fit
          (record {
            entries_size = x.entries_length ∙ el;
            finals_size = x.flags_length ∙ fl;
            table = record { entries_fit = x.table.entries_fit; finals_fit = x.table.finals_fit; table = table_transfer (language x.accepted) x.table.table };
            entries_beyond = zero-from after.entries (states * k) (length entries) (x.entries_length ∙ el) x.entries_beyond;
            finals_beyond = zero-from after.flags states (length finals) (x.flags_length ∙ fl) x.flags_beyond;
            work_zero = work-zeros x.work_zero;
          }))

      -- The number of rows is not 0, so that a refusal is its own.
      own : {x : ℕ} → refusal ≡ x → (x ≡ 0 → ⊥) → pair_answer R n (record { refusal = refusal; states = states }) ≡ refused_answer x
      own {x} e ne =
          ap (λ b. cond b (record { refusal = 0; states = states; situations = n }) (cond (eqb n 0) (cond (ltb R situation_bound) (refused_answer 10) (refused_answer 8)) (refused_answer refusal))) (ne_eqb refusal 0 (λ q. ne (sym e ∙ q)))
          ∙ ap (λ b. cond b (cond (ltb R situation_bound) (refused_answer 10) (refused_answer 8)) (refused_answer refusal)) (ne_eqb n 0 (let y = z.known.some_row in omega arith)) ∙ ap refused_answer e

      rows-outcome : MinimiseOutcome before k n refusal states after → PairTableOutcome T₀ lent_room (pair_answer R n (record { refusal = refusal; states = states })) left
      rows-outcome (inl x) = subst (λ a. PairTableOutcome T₀ lent_room a left) (sym (own x.answer.number_is (omega arith))) (not-settled x)
      rows-outcome (inr (inl x)) = subst (λ a. PairTableOutcome T₀ lent_room a left) (sym (own x.answer.number_is (omega arith))) (no_word x)
      rows-outcome (inr (inr x)) = rw (eq-eqb refusal 0 x.no_refusal) (has_table x)

    -- Without rows there is no graph: every table is cleared, and there are more pairs than the limit.
    none-outcome : n ≡ 0 → MoreThan (IsPair T₀) limit → MinimiseOutcome before k n refusal states after → PairTableOutcome T₀ lent_room (pair_answer R n (record { refusal = refusal; states = states })) left
    none-outcome e more (inl x) =
        subst (λ a. PairTableOutcome T₀ lent_room a left)
        (sym (ap (λ b. cond b (record { refusal = 0; states = states; situations = n }) (cond (eqb n 0) (cond (ltb R situation_bound) (refused_answer 10) (refused_answer 8)) (refused_answer refusal)))
        (ne_eqb refusal 0 (let y = x.answer.number_is in omega arith))
        ∙ ap (λ b. cond b (cond (ltb R situation_bound) (refused_answer 10) (refused_answer 8)) (refused_answer refusal)) (eq-eqb n 0 e)))
        (given (λ m c. absurd (too_many m c)) (more-outcome more x.answer))
      where
        too_many : (m : ℕ) → CountFits (IsPair T₀) k lent_room m → ⊥
        too_many m c = count_excludes_more c.counted limit (below_both R situation_bound limit cut m c.within_room c.within_bound) more
    none-outcome e more (inr (inl x)) = absurd (omega (arith, e, x.accepted.graph.some_row))
    none-outcome e more (inr (inr x)) = absurd (omega (arith, e, x.accepted.graph.some_row))

    -- What the calls give is the outcome.
    pub calls_outcome : (0 < limit → IsPairRoom left_letters right_letters k limit left_cuts right_cuts (pair_tables entries finals keys heads links))
        → PairsOutcome left_cuts right_cuts T₀ left_letters right_letters limit (pair_tables entries finals keys heads links) (pair_tables entries₁ finals₁ keys₁ heads₁ links₁) n
        → MinimiseOutcome before k n refusal states after → PairTableOutcome T₀ lent_room (pair_answer R n (record { refusal = refusal; states = states })) left
    calls_outcome ready o m = by (rows_or_none o)
      where
        by : HoldsPairs T₀ limit (pair_tables entries finals keys heads links) (pair_tables entries₁ finals₁ keys₁ heads₁ links₁) n
            ⊎ ((n ≡ 0) × (IsPairRoom left_letters right_letters k limit left_cuts right_cuts (pair_tables entries finals keys heads links) → MorePairs T₀ limit))
            → PairTableOutcome T₀ lent_room (pair_answer R n (record { refusal = refusal; states = states })) left
        by (inl h) = rows-outcome h.rows m
        by (inr x) = none-outcome x.0 (more-pairs W limit (λ l. x.1 (ready l))) m
