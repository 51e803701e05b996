-- The construction gives the table: where the start is live the computed rows are the table of its language, and where it is not
-- its language has no word. So every graph of at most 65,535 nodes has a table or no word.
use mathlib.Core.Path.{◌≡◌, refl, ap, sym, ◌∙◌}
use mathlib.Core.Logic.{◌⊎◌, inl, inr, ◌≢◌}
use mathlib.Core.Bool.{Bool, true, false, cond}
use mathlib.Core.List.{List, [], ◌∷◌, ◌++◌}
use Prim.Native.Nat.{ℕ, zero, suc, ◌+◌, ◌*◌, ◌<◌, ◌≤◌}
use native.Mathlib.Nat.{add-suc}
use native.Mathlib.Omega.{arith}
use lib.Dec.{T, ltb, ltb→lt, nltb→le, eqb, eqb→eq, eqb_refl}
use lib.ListN.{length, get_or, get_or-append}
use lib.Seq.{get_or_at}
use Rattle.automaton.specs.Words.{Word}
use Rattle.automaton.specs.Solutions.{SameSolutions, NoSolution}
use Rattle.automaton.specs.Table.{no_state, IsFlag}
use Rattle.automaton.specs.Stored.{entry_at, HasTable}
use Rattle.automaton.specs.Graph.{Graph, Language, IsNodeEntry}
use Rattle.automaton.specs.Numbering.{IsPut, IsFilling}
use Rattle.automaton.specs.Closure.{find_below, contains}
use Rattle.automaton.specs.Construction.{LanguageAnswer, table, no_word, IsAnswer, Met, terminating_set, live_set, final_set}
use Rattle.automaton.specs.Construction.{distinguished_set, classes, meet, meet_row, meet_rows, all_met, rows_of, language_answer}
use Rattle.automaton.proofs.Equality.{stored_transfer}
use Rattle.automaton.proofs.Closure.{get_d_tabulate, length-tabulate, find_below-most, find_below-found, find_below-least}
use Rattle.automaton.proofs.Places.{put-append}
use Rattle.automaton.proofs.Numbering.{filling_start, filling-size, filling-row, filling-entry, filling-new, filling_numbering}
use Rattle.automaton.proofs.GraphTable.{not-live-no_word, numbering_table}
use Rattle.automaton.proofs.Passes.{live_below, passes_analysis}

length_extend : (l : List ℕ) (v : ℕ) → length (l ++ (v ∷ [])) ≡ suc (length l)
length_extend [] v = refl
length_extend (x ∷ l) v = ap suc (length_extend l v)

-- the numbering

module _ (G : Graph) (live : List Bool) (class-list : List ℕ) (s₀ : ℕ) (below : (s : ℕ) → T (contains live s) → s < G.nodes) where
  class : ℕ → ℕ
  class s = get_or class-list s 0

  -- the loop stands at state i and letter a, with x met so far
  abbrev Filling : ℕ → ℕ → Met → Type 0
  Filling i a x = IsFilling G (contains live) class s₀ (length x.nodes) i a (λ j. get_or x.nodes j 0) (entry_at G.letters x.entries)

  -- in a row: state i stands for the node s
  record InRow (i a s : ℕ) (x : Met) : Type 0 where
    filling : Filling i a x
    size : length x.entries ≡ i * G.letters + a
    inside : i < length x.nodes
    node_is : get_or x.nodes i 0 ≡ s

  meet_in_row : (i a s : ℕ) (x : Met) → a < G.letters → InRow i a s x → InRow i (suc a) s (meet G live class-list (G.successor s a) x)
  unfolding class
  meet_in_row i a s x ha R = go (contains live u) refl
    where
      u : ℕ
      u = G.successor s a

      m : ℕ
      m = length x.nodes

      node : ℕ → ℕ
      node l = get_or x.nodes l 0

      same : ℕ → Bool
      same l = eqb (class u) (class (node l))

      j : ℕ
      j = find_below m same

      size : (v : ℕ) → length (x.entries ++ (v ∷ [])) ≡ i * G.letters + suc a
      size v = length_extend x.entries v ∙ (ap suc R.size ∙ sym (add-suc (i * G.letters) a))

      put : (v : ℕ) → IsPut G.letters (entry_at G.letters x.entries) (entry_at G.letters (x.entries ++ (v ∷ []))) i a v
      put v = put-append G.letters x.entries i a v R.size

      -- an entry that meets no new class
      old : (v : ℕ) → IsNodeEntry G (contains live) class m node u v
          → InRow i (suc a) s (record { nodes = x.nodes; entries = x.entries ++ (v ∷ []) })
      old v e = record {
        filling = filling-entry R.filling (entry_at G.letters (x.entries ++ (v ∷ []))) v (put v) (rw R.node_is e);
        size = size v;
        inside = R.inside;
        node_is = R.node_is;
      }

      -- an entry that meets a new class
      new : T (contains live u) → m ≤ j → InRow i (suc a) s (record { nodes = x.nodes ++ (u ∷ []); entries = x.entries ++ (j ∷ []) })
      new h le = record {
        filling = rw (length_extend x.nodes u) (filling-new R.filling (entry_at G.letters (x.entries ++ (j ∷ []))) node' ha R.inside
            (record { here = (put j).here ∙ is-new; earlier = (put j).earlier }) (rw R.node_is (record { inside = below u h; holds = h }))
            (rw R.node_is unmet) (get_or_at x.nodes u [] 0 m refl ∙ ap (λ z. G.successor z a) (sym R.node_is)) old-node);
        size = size j;
        inside = omega (arith, length_extend x.nodes u, R.inside);
        node_is = old-node i R.inside ∙ R.node_is;
      }
        where
          node' : ℕ → ℕ
          node' l = get_or (x.nodes ++ (u ∷ [])) l 0

          old-node : (l : ℕ) → l < m → node' l ≡ node l
          old-node l hl = get_or-append x.nodes (u ∷ []) 0 l hl

          is-new : j ≡ m
          is-new = omega (arith, find_below-most m same)

          unmet : (l : ℕ) → l < m → class u ≢ class (node l)
          unmet l hl e = omega (arith, find_below-least m same l hl (rw e (eqb_refl (class (node l)))), is-new)

      known : (b : Bool) → ltb j m ≡ b → T (contains live u)
          → InRow i (suc a) s (record { nodes = cond b x.nodes (x.nodes ++ (u ∷ [])); entries = x.entries ++ (j ∷ []) })
      known true e h =
          let lt : j < m = ltb→lt j m (rw e tt) in
          old j (inr (lt, record { inside = below u h; holds = h }, eqb→eq (class u) (class (node j)) (find_below-found m same lt)))
      known false e h = new h (nltb→le j m (rw e tt))

      go : (b : Bool) → contains live u ≡ b
          → InRow i (suc a) s (cond b (record { nodes = cond (ltb j m) x.nodes (x.nodes ++ (u ∷ [])); entries = x.entries ++ (j ∷ []) })
          (record { nodes = x.nodes; entries = x.entries ++ (no_state ∷ []) }))
      go true e = known (ltb j m) refl (rw e tt)
      go false e = old no_state (inl (refl, λ h. rw e at h.holds))

  meet-row_in-row : (rest i a s : ℕ) (x : Met) → rest + a ≡ G.letters → InRow i a s x
      → InRow i G.letters s (meet_row G live class-list rest a s x)
  meet-row_in-row zero i a s x h R = let e : a ≡ G.letters = omega arith in rw e at R
  meet-row_in-row (suc rest) i a s x h R =
      meet-row_in-row rest i (suc a) s (meet G live class-list (G.successor s a) x) (omega arith) (meet_in_row i a s x (omega arith) R)

  -- between rows: those before i are filled
  record AtRow (i : ℕ) (x : Met) : Type 0 where
    filling : Filling i 0 x
    size : length x.entries ≡ i * G.letters

  meet-row-at-row : (i : ℕ) (x : Met) → i < length x.nodes → AtRow i x
      → AtRow (suc i) (meet_row G live class-list G.letters 0 (get_or x.nodes i 0) x)
  meet-row-at-row i x h R =
      let S = meet-row_in-row G.letters i 0 (get_or x.nodes i 0) x (omega arith)
      (record { filling = R.filling; size = omega (arith, R.size); inside = h; node_is = refl }) in
      record { filling = filling-row S.filling refl S.inside; size = omega (arith, S.size) }

  meet-rows-at-row : (fuel i : ℕ) (x : Met) → G.nodes ≤ fuel + i → AtRow i x
      → AtRow (length (meet_rows G live class-list fuel i x).nodes) (meet_rows G live class-list fuel i x)
  meet-rows-at-row zero i x h R = let e : i ≡ length x.nodes = omega (arith, R.filling.within, filling-size R.filling) in rw e at R
  meet-rows-at-row (suc fuel) i x h R = go (ltb i m) refl (meet-rows-at-row fuel (suc i) next (omega arith))
    where
      m : ℕ
      m = length x.nodes

      next : Met
      next = meet_row G live class-list G.letters 0 (get_or x.nodes i 0) x

      rest : Met
      rest = meet_rows G live class-list fuel (suc i) next

      go : (b : Bool) → ltb i m ≡ b → (AtRow (suc i) next → AtRow (length rest.nodes) rest)
          → AtRow (length (cond b rest x).nodes) (cond b rest x)
      go true e ih = ih (meet-row-at-row i x (ltb→lt i m (rw e tt)) R)
      go false e ih = let q : i ≡ m = omega (arith, R.filling.within, nltb→le i m (rw e tt)) in rw q at R

  all-met-filled : T (contains live s₀) → AtRow (length (all_met G live class-list s₀).nodes) (all_met G live class-list s₀)
  all-met-filled h = meet-rows-at-row G.nodes 0 (record { nodes = s₀ ∷ []; entries = [] }) (omega arith)
      (record { filling = filling_start refl (record { inside = below s₀ h; holds = h }); size = omega arith })

-- the answer

flag-test : (b : Bool) → IsFlag (T b) (cond b 1 0)
flag-test true = inl (refl, tt)
flag-test false = inr (refl, λ h. h)

module _ (G : Graph) (s₀ : ℕ) (room : G.nodes ≤ no_state) where
  pub answer-is : IsAnswer G s₀ (language_answer G s₀)
  unfolding class
  answer-is = go (contains live s₀) refl
    where
      live : List Bool
      live = live_set G (terminating_set G)

      final : List Bool
      final = final_set G live

      class-list : List ℕ
      class-list = classes G live (distinguished_set G live final)

      x : Met
      x = all_met G live class-list s₀

      n : ℕ
      n = length x.nodes

      byte : ℕ → ℕ
      byte i = cond (contains final (get_or x.nodes i 0)) 1 0

      go : (b : Bool) → contains live s₀ ≡ b → IsAnswer G s₀ (cond b (table (rows_of final x)) no_word)
      go true e =
          let R = all-met-filled G live class-list s₀ (live_below G) (rw e tt) in
          record {
            entries_fit = omega (arith, R.size);
            finals_fit = omega (arith, length-tabulate n byte);
            table = numbering_table (passes_analysis G) (filling_numbering (omega (arith, filling-size R.filling)) R.filling λ i hi.
                rw (get_d_tabulate n byte i 0 hi) (flag-test (contains final (get_or x.nodes i 0))));
          }
      go false e = not-live-no_word (passes_analysis G) λ m. rw e at m.holds

  -- a set with the words of the language has a table or no solution
  pub table_or_none : {Sol : Word → Type 0} → SameSolutions G.letters (Language G s₀) Sol → HasTable Sol G.letters ⊎ NoSolution G.letters Sol
  table_or_none {Sol} e = go (language_answer G s₀) answer-is
    where
      go : (a : LanguageAnswer) → IsAnswer G s₀ a → HasTable Sol G.letters ⊎ NoSolution G.letters Sol
      go (table r) t = inl (record { states = r.states; entries = r.entries; finals = r.finals; stored = stored_transfer e t })
      go no_word h = inr λ w b x. h w b (e.from w b x)
