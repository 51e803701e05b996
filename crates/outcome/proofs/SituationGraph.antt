-- The situations of a sheet, listed without repeats, form a finite graph whose flag says that every until is done. Its language from the
-- situation of the empty record is the set of solutions. From the successor of a situation (meaning) and explored graphs (automaton).
use Prim.Native.Nat.{ℕ, suc, ◌+◌, ◌≤◌, ◌<◌}
use native.Mathlib.Omega.{arith}
use native.Mathlib.Decide.{dec_lt}
use mathlib.Core.Path.{◌≡◌, refl, sym, ◌∙◌, ap, subst}
use mathlib.Core.Bool.{Bool, true, false, cond}
use mathlib.Core.HLevel.{Discrete}
use mathlib.Core.Logic.{◌↔◌, ◌⊎◌}
use mathlib.Core.List.{List, [], ◌∷◌, ◌++◌, Memᴰ}
use mathlib.Core.Option.{Option, none, some}
use lib.Dec.{T}
use lib.ListN.{length, get_or}
use Rattle.outcome.proofs.RecordNumbers.{letter_numbers_of, letter_numbers_of_record}
use Rattle.automaton.specs.Solutions.{SameSolutions, NoSolution}
use Rattle.automaton.specs.Table.{no_state}
use Rattle.automaton.specs.Stored.{HasTable}
use Rattle.automaton.specs.Graph.{Graph, Language}
use Rattle.automaton.specs.Situations.{IsExplored}
use Rattle.automaton.proofs.Solutions.{solutions_sym, solutions_trans}
use Rattle.automaton.proofs.Situations.{explored_solutions}
use Rattle.automaton.proofs.Construction.{table_or_none}
use Rattle.meaning.specs.Expression.{Stream, Constraint, Sheet}
use Rattle.meaning.specs.Letter.{Record, letter_count, letter_of, record_of, SolutionWord}
use Rattle.meaning.specs.Situation.{Situation, whole, lawful, situation, IsSituation, SituationCount}
use Rattle.meaning.specs.Evaluation.{successor, all_done}
use Rattle.meaning.proofs.Lawful.{lawful-short}
use Rattle.meaning.proofs.Facts.{get_or-member}
use Rattle.meaning.proofs.Congruence.{successor-situation}
use Rattle.meaning.proofs.SolutionRecords.{all_done-stays}
use Rattle.meaning.proofs.Exploration.{start-situation, successor-found}
use Rattle.outcome.proofs.SheetWords.{LawfulNumbers, DoneNumbers, AlikeNumbers, solution_prefixes, record_of_extend, situations_congruence}

-- ---- the place of a situation in a list

abbrev pub choose : {P : Type 0} → Dec P → ℕ → ℕ
choose (yes p) n = 0
choose (no p) n = suc n

-- How equality of situations is decided is a parameter, so that a graph can also be computed.
unfoldable pub place_in : Discrete Situation → List Situation → Situation → ℕ
place_in decide [] t = 0
place_in decide (x ∷ l) t = choose (decide x t) (place_in decide l t)

place_in-member : (decide : Discrete Situation) (l : List Situation) (t d : Situation) → Memᴰ t l → (place_in decide l t < length l) × (get_or l (place_in decide l t) d ≡ t)
unfolding place_in
place_in-member decide [] t d m = elim m [ ]
place_in-member decide (x ∷ l) t d m = go (decide x t) m (place_in-member decide l t d)
  where
    Found : Dec (x ≡ t) → Type 0
    Found c = (choose c (place_in decide l t) < suc (length l)) × (get_or (x ∷ l) (choose c (place_in decide l t)) d ≡ t)

    go : (c : Dec (x ≡ t)) → Memᴰ t (x ∷ l) → (Memᴰ t l → (place_in decide l t < length l) × (get_or l (place_in decide l t) d ≡ t)) → Found c
    go (yes e) m ih = (omega arith, e)
    go (no e) (Memᴰ.head p) ih = absurd (e (sym p))
    go (no e) (Memᴰ.tail m) ih = let r = ih m in (omega (arith, r.0), r.1)

-- ---- a record of letters in range, by its letter numbers

-- ---- the graph

module _ (decide : Discrete Situation) (s : Sheet) {m : ℕ} (count : SituationCount s m) where
  abbrev pub ss : List Stream
  ss = s.streams

  abbrev pub cs : List Constraint
  cs = s.constraints

  abbrev pub list : List Situation
  list = count.list

  abbrev pub at : ℕ → Situation
  at i = get_or list i (whole [])

  is-situation : (i : ℕ) → i < length list → IsSituation s (at i)
  is-situation i h = count.found (at i) (get_or-member list i (whole []) h)

  abbrev pub place : Option Situation → ℕ
  place none = length list
  place (some t) = place_in decide list t

  unfoldable pub node_successor : ℕ → ℕ → ℕ
  node_successor i a = place (successor cs (at i) (letter_of ss a))

  -- A record of letter numbers that leads to each node.
  pub shown : (i : ℕ) → Dec (i < length list) → List ℕ
  shown i (yes h) = letter_numbers_of ss (is-situation i h).lawful_record
  shown i (no h) = []

  abbrev pub shown_at : ℕ → List ℕ
  shown_at i = shown i (dec_lt i (length list))

  record Shows (i : ℕ) (r : List ℕ) : Type 0 where
    is_lawful : T (lawful cs (record_of ss r))
    same : situation cs (record_of ss r) ≡ at i

  shown-shows : (i : ℕ) → i < length list → Shows i (shown_at i)
  unfolding shown
  shown-shows i h = go (dec_lt i (length list))
    where
      go : (d : Dec (i < length list)) → Shows i (shown i d)
      go (yes g) =
          let e = letter_numbers_of_record ss (is-situation i g).lawful_record (is-situation i g).letters in
          record { is_lawful = subst (λ r. T (lawful cs r)) (sym e) (is-situation i g).is_lawful; same = ap (situation cs) e ∙ (is-situation i g).same }
      go (no g) = absurd (g h)

  -- What the successor of a node is, by the record that leads to it.
  module _ (i a : ℕ) (hi : i < length list) (ha : a < letter_count ss) where
    abbrev longer : Record
    longer = record_of ss (shown_at i ++ (a ∷ []))

    successor-is : successor cs (at i) (letter_of ss a) ≡ cond (lawful cs longer) (some (situation cs longer)) none
    successor-is =
        let h = shown-shows i hi in
        rw (record_of_extend s (shown_at i) a)
        (subst (λ t. successor cs t (letter_of ss a) ≡ cond (lawful cs (record_of ss (shown_at i) ++ (letter_of ss a ∷ []))) (some (situation cs (record_of ss (shown_at i) ++ (letter_of ss a ∷ [])))) none) h.same
        (successor-situation cs (record_of ss (shown_at i)) (letter_of ss a) h.is_lawful))

    longer-found : T (lawful cs longer) → (node_successor i a < length list) × (at (node_successor i a) ≡ situation cs longer)
    unfolding node_successor
    longer-found t =
        let e : successor cs (at i) (letter_of ss a) ≡ some (situation cs longer) = go (lawful cs longer) t successor-is in
        let f = successor-found s (at i) (situation cs longer) (is-situation i hi) a ha e in
        let p = place_in-member decide list (situation cs longer) (whole []) (count.every (situation cs longer) f) in
        subst (λ o. (place o < length list) × (at (place o) ≡ situation cs longer)) (sym e) p
      where
        go : (b : Bool) → T b → successor cs (at i) (letter_of ss a) ≡ cond b (some (situation cs longer)) none → successor cs (at i) (letter_of ss a) ≡ some (situation cs longer)
        go true t e = e
        go false t e = absurd t

    found-lawful : node_successor i a < length list → T (lawful cs longer)
    unfolding node_successor
    found-lawful h = go (lawful cs longer) successor-is
      where
        go : (b : Bool) → successor cs (at i) (letter_of ss a) ≡ cond b (some (situation cs longer)) none → T b
        go true e = tt
        go false e = let k : length list < length list = subst (λ o. place o < length list) e h in absurd (omega arith)

    pub done-follows : node_successor i a < length list → T (all_done cs (at i)) → T (all_done cs (at (node_successor i a)))
    done-follows h d =
        let f = longer-found (found-lawful h) in
        let g = all_done-stays cs (record_of ss (shown_at i)) (letter_of ss a ∷ []) (subst (λ t. T (all_done cs t)) (sym (shown-shows i hi).same) d) in
        subst (λ t. T (all_done cs t)) (sym f.1) (rw (record_of_extend s (shown_at i) a) g)

  unfoldable pub situation_graph : Graph
  situation_graph =
      record { nodes = length list; letters = letter_count ss; successor = node_successor; done = λ i. all_done cs (at i); done_stays = λ i a hi ha h d. done-follows i a hi ha h d }

  unfoldable pub start_node : ℕ
  start_node = place_in decide list (situation cs [])

  pub situations-explored : IsExplored situation_graph (LawfulNumbers s) (DoneNumbers s) (AlikeNumbers s) shown_at start_node
  unfolding situation_graph start_node
  situations-explored =
      let p = place_in-member decide list (situation cs []) (whole []) (count.every (situation cs []) (start-situation s)) in
      record {
        start_inside = p.0;
        start_lawful = record { is_lawful = lawful-short cs [] (omega arith) };
        start_alike = record { same = sym ((shown-shows start_node p.0).same ∙ p.1) };
        shown_lawful = λ i h. record { is_lawful = (shown-shows i h).is_lawful };
        edge↔lawful = λ i a hi ha. (λ h. record { is_lawful = found-lawful i a hi ha h }, λ l. (longer-found i a hi ha l.is_lawful).0);
        edge_alike = λ i a hi ha h.
            let f = longer-found i a hi ha (found-lawful i a hi ha h) in
            record { same = sym ((shown-shows (node_successor i a) f.0).same ∙ f.1) };
        done↔done = λ i h.
            (λ d. record { is_done = subst (λ t. T (all_done cs t)) (sym (shown-shows i h).same) d }, λ d. subst (λ t. T (all_done cs t)) (shown-shows i h).same d.is_done);
      }

  -- The graph's language is the set of solutions.
  pub situations_language : SameSolutions (letter_count ss) (Language situation_graph start_node) (SolutionWord s)
  unfolding situation_graph
  situations_language = solutions_trans (explored_solutions (situations_congruence s) situations-explored) (solutions_sym (solution_prefixes s))

  -- So a sheet whose situations can be counted, and are not too many to be numbered, has a table or no solution.
  pub table_or_no_word : m ≤ no_state → HasTable (SolutionWord s) (letter_count ss) ⊎ NoSolution (letter_count ss) (SolutionWord s)
  unfolding situation_graph
  table_or_no_word h = table_or_none situation_graph start_node (omega (arith, count.count)) situations_language
