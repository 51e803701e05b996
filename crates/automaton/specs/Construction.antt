-- The table of a graph's language, computed. Each pass is the closure of a rule; then the classes of live nodes are numbered in
-- the order in which they are first met. `Rattle.automaton.proofs.Construction.answer-is` says that the result is the table.
use Rattle.std.specs.Prelude.{Bool, true, false, not, cond, ◌&&◌, ◌||◌, List, [], ◌∷◌, ◌++◌, ℕ, zero, suc, ◌+◌, ◌*◌, ◌/◌, ◌%◌, ltb, eqb, length, get_or}
use Rattle.automaton.specs.Solutions.{NoSolution}
use Rattle.automaton.specs.Table.{no_state}
use Rattle.automaton.specs.Stored.{StoredTable}
use Rattle.automaton.specs.Graph.{Graph, Language}
use Rattle.automaton.specs.Closure.{tabulate, any_below, find_below, contains, closure}

-- a table as it is stored
pub record Rows : Type 0 where
  pub states : ℕ
  pub entries : List ℕ
  pub finals : List ℕ

-- the table of a language, or that the language has no word
pub data LanguageAnswer : Type 0 where
  table : Rows → LanguageAnswer
  no_word : LanguageAnswer

-- what an answer says of the language of s₀
abbrev pub IsAnswer : (G : Graph) (s₀ : ℕ) → LanguageAnswer → Type 0
IsAnswer G s₀ (table rows) = StoredTable (Language G s₀) G.letters rows.states rows.entries rows.finals
IsAnswer G s₀ no_word = NoSolution G.letters (Language G s₀)

-- two tests differ, or both pass and `after` does
abbrev pub differs : (x y after : Bool) → Bool
differs true true after = after
differs true false after = true
differs false true after = true
differs false false after = false

-- the states met so far, each by its node, and the entries so far
pub record Met : Type 0 where
  pub nodes : List ℕ
  pub entries : List ℕ

-- a row for each state that is met
abbrev pub rows_of : (final : List Bool) → Met → Rows
rows_of final x =
    let n = length x.nodes in
    record { states = n; entries = x.entries; finals = tabulate n (λ i. cond (contains final (get_or x.nodes i 0)) 1 0) }

module _ (G : Graph) where
  -- a rule that adds the nodes which pass the test `base`, and those whose successors that pass the test `guard` are all in the
  -- set
  abbrev pub every_rule : (base guard : ℕ → Bool) → (ℕ → Bool) → ℕ → Bool
  every_rule base guard set s = base s || not (any_below G.letters (λ a. let u = G.successor s a in guard u && not (set u)))

  -- a rule that adds the nodes which pass the test `base`, and those with a successor in the set
  abbrev pub some_rule : (base : ℕ → Bool) → (ℕ → Bool) → ℕ → Bool
  some_rule base set s = base s || any_below G.letters (λ a. set (G.successor s a))

  -- the nodes from which every path ends
  abbrev pub terminating_set : List Bool
  terminating_set = closure G.nodes (every_rule (λ s. false) (λ u. ltb u G.nodes))

  -- the nodes whose language has a word: a path leads to a done node from which not every path ends
  abbrev pub live_set : (terminating : List Bool) → List Bool
  live_set terminating = closure G.nodes (some_rule (λ s. not (contains terminating s) && G.done s))

  -- the nodes from which every endless path through live nodes is done at some time
  abbrev pub final_set : (live : List Bool) → List Bool
  final_set live = closure G.nodes (every_rule G.done (contains live))

  -- the pairs of nodes that a record tells apart; the pair of s and t has the number s * nodes + t

  abbrev pub pair : (s t : ℕ) → ℕ
  pair s t = s * G.nodes + t

  abbrev pub letter_differs : (live : List Bool) → (ℕ → Bool) → ℕ → ℕ → Bool
  letter_differs live set u v = differs (contains live u) (contains live v) (set (pair u v))

  abbrev pub distinguished_rule : (live final : List Bool) → (ℕ → Bool) → ℕ → Bool
  distinguished_rule live final set i =
      let s = i / G.nodes in
      let t = i % G.nodes in
      differs (contains final s) (contains final t) false
      || any_below G.letters (λ a. letter_differs live set (G.successor s a) (G.successor t a))

  abbrev pub distinguished_set : (live final : List Bool) → List Bool
  distinguished_set live final = closure (G.nodes * G.nodes) (distinguished_rule live final)

  -- the class of each node: the first live node that no record tells apart from it
  abbrev pub classes : (live distinguished : List Bool) → List ℕ
  classes live distinguished =
      tabulate G.nodes (λ s. find_below G.nodes (λ t. contains live t && not (contains distinguished (pair s t))))

  -- the numbering, "state by state and letter by letter"

  module _ (live : List Bool) (class : List ℕ) where
    -- the number of the state with the class of u, or the number of states met
    abbrev pub state_of : (nodes : List ℕ) (u : ℕ) → ℕ
    state_of nodes u = find_below (length nodes) (λ j. eqb (get_or class u 0) (get_or class (get_or nodes j 0) 0))

    -- the entry for the node u, and a new state if u is live and has a new class
    abbrev pub meet : ℕ → Met → Met
    meet u x =
        let j = state_of x.nodes u in
        let nodes = cond (ltb j (length x.nodes)) x.nodes (x.nodes ++ (u ∷ [])) in
        let live-entry : Met = record { nodes = nodes; entries = x.entries ++ (j ∷ []) } in
        cond (contains live u) live-entry (record { nodes = x.nodes; entries = x.entries ++ (no_state ∷ []) })

    -- the entries of the node s for as many letters as the first argument says, from the letter a on
    abbrev pub meet_row : ℕ → (a s : ℕ) → Met → Met
    meet_row zero a s x = x
    meet_row (suc rest) a s x = meet_row rest (suc a) s (meet (G.successor s a) x)

    -- the rows from the state i on, as long as there are states, at most as many as the first argument
    abbrev pub meet_rows : ℕ → (i : ℕ) → Met → Met
    meet_rows zero i x = x
    meet_rows (suc fuel) i x =
        let rest = meet_rows fuel (suc i) (meet_row G.letters 0 (get_or x.nodes i 0) x) in
        cond (ltb i (length x.nodes)) rest x

    abbrev pub all_met : (s₀ : ℕ) → Met
    all_met s₀ = meet_rows G.nodes 0 (record { nodes = s₀ ∷ []; entries = [] })

  -- the answer for the language of s₀
  abbrev pub language_answer : (s₀ : ℕ) → LanguageAnswer
  language_answer s₀ =
      let live = live_set terminating_set in
      let final = final_set live in
      let rows = rows_of final (all_met live (classes live (distinguished_set live final)) s₀) in
      cond (contains live s₀) (table rows) no_word
