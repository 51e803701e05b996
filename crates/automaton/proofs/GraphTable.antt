-- The classes of a graph's live nodes, numbered in the order in which they are first met, are the table of the start's language;
-- and a start that is not live has no word. From what the analysis of the graph tells of its nodes.
use mathlib.Core.Path.{◌≡◌, refl, sym, ◌∙◌}
use mathlib.Core.Logic.{inl, inr}
use mathlib.Core.List.{List, [], ◌∷◌, ◌++◌}
use mathlib.Core.Bool.{Bool}
use Prim.Native.Nat.{ℕ, zero, suc, ◌<◌, ◌≤◌}
use native.Mathlib.Omega.{arith}
use native.Mathlib.Decide.{dec_lt}
use lib.Dec.{T}
use Rattle.automaton.specs.Words.{Word, tail, InRange, AllBelow}
use Rattle.automaton.specs.Solutions.{SameSolutions, NoSolution, Continuation}
use Rattle.automaton.specs.Table.{run, Follows, IsEntry, Completes, IsTable}
use Rattle.automaton.specs.Graph.{Graph, node_after, Language, SameLanguage, Member, PathIn, IsAnalysis, IsNodeEntry, IsNumbering}
use Rattle.automaton.proofs.Words.{all-below-append}
use Rattle.automaton.proofs.Solutions.{solutions_sym, solutions_trans, continuation_empty, continuation_append, continuation_same}
use Rattle.automaton.proofs.Flags.{flag_transfer}
use Rattle.automaton.proofs.Graph.{language_continuation, same_language_step, path_in_tail}

-- the record r leads to the node s if what r leaves over of the language of s₀ is the language of s
abbrev Leads : (G : Graph) (s₀ : ℕ) (r : List ℕ) (s : ℕ) → Type 0
Leads G s₀ r s = SameSolutions G.letters (Continuation (Language G s₀) r) (Language G s)

leads_extend : {G : Graph} {s₀ : ℕ} {r : List ℕ} {s a : ℕ} → a < G.letters → s < G.nodes → Leads G s₀ r s
    → Leads G s₀ (r ++ (a ∷ [])) (G.successor s a)
leads_extend {r = r} {a = a} ha hs l = solutions_trans (solutions_sym (continuation_append r (a ∷ [])))
    (solutions_trans (continuation_same (a ∷ []) (ha, tt) l) (language_continuation hs ha))

module _ {G : Graph} {live final : ℕ → Bool} {class : ℕ → ℕ} (A : IsAnalysis G live final class) where
  pub not-live-no_word : {s : ℕ} → ¬ Member G live s → NoSolution G.letters (Language G s)
  not-live-no_word {s} h w b l = h ((A.live↔word s).1 (w, b, l))

  -- two live nodes of one class: their successors are live together, and of one class
  module _ (s t a : ℕ) (ms : Member G live s) (mt : Member G live t) (e : class s ≡ class t) (ha : a < G.letters) where
    same_step : SameLanguage G (G.successor s a) (G.successor t a)
    same_step = same_language_step ms.inside mt.inside ha ((A.class↔same s t ms mt).0 e)

    live-step : Member G live (G.successor s a) → Member G live (G.successor t a)
    live-step m = let p = (A.live↔word (G.successor s a)).0 m in (A.live↔word (G.successor t a)).1 (p.0, p.1, same_step.to p.0 p.1 p.2)

    class-step : Member G live (G.successor s a) → class (G.successor s a) ≡ class (G.successor t a)
    class-step m = (A.class↔same (G.successor s a) (G.successor t a) m (live-step m)).1 same_step

module _ {G : Graph} {live final : ℕ → Bool} {class : ℕ → ℕ} (A : IsAnalysis G live final class)
    {s₀ n : ℕ} {node : ℕ → ℕ} {entry : ℕ → ℕ → ℕ} {byte : ℕ → ℕ} (N : IsNumbering G live final class s₀ n node entry byte) where
  -- one entry

  abbrev Entry : ℕ → ℕ → Type 0
  Entry i a = IsNodeEntry G live class n node (G.successor (node i) a) (entry i a)

  entry-live : (i a : ℕ) → i < n → a < G.letters → entry i a < n
      → Member G live (G.successor (node i) a) × (class (G.successor (node i) a) ≡ class (node (entry i a)))
  entry-live i a hi ha h = go (N.entries i a hi ha)
    where
      go : Entry i a → Member G live (G.successor (node i) a) × (class (G.successor (node i) a) ≡ class (node (entry i a)))
      go (inl x) = absurd (omega (arith, x.0, N.room))
      go (inr x) = (x.1, x.2)

  live-entry : (i a : ℕ) → i < n → a < G.letters → Member G live (G.successor (node i) a) → entry i a < n
  live-entry i a hi ha m = go (N.entries i a hi ha)
    where
      go : Entry i a → entry i a < n
      go (inl x) = absurd (x.1 m)
      go (inr x) = x.0

  entry-leads : (i a : ℕ) → i < n → a < G.letters → entry i a < n → {r : List ℕ} → Leads G s₀ r (node i)
      → Leads G s₀ (r ++ (a ∷ [])) (node (entry i a))
  entry-leads i a hi ha h l =
      let m = entry-live i a hi ha h in
      solutions_trans (leads_extend ha (N.lives i hi).inside l) ((A.class↔same _ _ m.0 (N.lives (entry i a) h)).0 m.1)

  -- a record for each state

  record Reached (j : ℕ) : Type 0 where
    word : List ℕ
    letters : AllBelow G.letters word
    leads : Leads G s₀ word (node j)

  reached-start : Reached 0
  reached-start = record { word = []; letters = tt; leads = rw N.start continuation_empty }

  reached-below : (b j : ℕ) → j ≤ b → j < n → Reached j
  reached-below zero zero h hj = reached-start
  reached-below zero (suc j) h hj = absurd (omega arith)
  reached-below (suc b) zero h hj = reached-start
  reached-below (suc b) (suc j) h hj =
      let m = N.first_met (suc j) (omega arith) hj in
      let hs : m.state < n = omega (arith, m.earlier_state) in
      let p = reached-below b m.state (omega (arith, m.earlier_state)) hs in
      record {
        word = p.word ++ (m.letter ∷ []);
        letters = all-below-append G.letters p.word (m.letter ∷ []) p.letters (m.is_letter, tt);
        leads = rw m.holds at (entry-leads m.state m.letter hs m.is_letter (omega (arith, m.holds)) p.leads);
      }

  record_of : (j : ℕ) → Dec (j < n) → List ℕ
  record_of zero d = []
  record_of (suc j) (yes h) = (reached-below (suc j) (suc j) (omega arith) h).word
  record_of (suc j) (no g) = []

  representative : ℕ → List ℕ
  representative j = record_of j (dec_lt j n)

  reached : (j : ℕ) → j < n → AllBelow G.letters (representative j) × Leads G s₀ (representative j) (node j)
  unfolding representative record_of reached-start
  reached j h = go j (dec_lt j n) h
    where
      go : (j : ℕ) (d : Dec (j < n)) → j < n → AllBelow G.letters (record_of j d) × Leads G s₀ (record_of j d) (node j)
      go zero d h = (tt, reached-start.leads)
      go (suc j) (yes g) h = let p = reached-below (suc j) (suc j) (omega arith) g in (p.letters, p.leads)
      go (suc j) (no g) h = absurd (g h)

  -- following states is following live nodes

  states-nodes : (t i s : ℕ) (w : Word) → InRange G.letters w → Follows n entry i w → Member G live s → class s ≡ class (node i)
      → Member G live (node_after G s w t)
  states-nodes zero i s w b f m e = m
  states-nodes (suc t) i s w b f m e =
      let q = entry-live i (w 0) (f 0) (b 0) (f 1) in
      let mi = N.lives i (f 0) in
      states-nodes t (entry i (w 0)) (G.successor s (w 0)) (tail w) (λ j. b (suc j)) (λ j. f (suc j))
      (live-step A (node i) s (w 0) mi m (sym e) (b 0) q.0) (sym (class-step A (node i) s (w 0) mi m (sym e) (b 0) q.0) ∙ q.1)

  nodes-states : (t i s : ℕ) (w : Word) → InRange G.letters w → i < n → PathIn G live s w → class s ≡ class (node i) → run entry i w t < n
  nodes-states zero i s w b hi f e = hi
  nodes-states (suc t) i s w b hi f e =
      let mi = N.lives i hi in
      let h = live-entry i (w 0) hi (b 0) (live-step A s (node i) (w 0) (f.at 0) mi e (b 0) (f.at 1)) in
      nodes-states t (entry i (w 0)) (G.successor s (w 0)) (tail w) (λ j. b (suc j)) h (path_in_tail f)
      (class-step A s (node i) (w 0) (f.at 0) mi e (b 0) (f.at 1) ∙ (entry-live i (w 0) hi (b 0) h).1)

  pub numbering_table : IsTable (Language G s₀) G.letters n entry byte
  unfolding representative record_of
  numbering_table = record {
    representative = representative;
    letters = λ i hi. (reached i hi).0;
    not_empty = λ i hi.
        let p = (A.live↔word (node i)).0 (N.lives i hi) in
        record { word = p.0; in_range = p.1; continues = (reached i hi).1.from p.0 p.1 p.2 };
    distinct = λ i j hi hj e.
        let l = solutions_trans (solutions_sym (reached i hi).1) (solutions_trans e (reached j hj).1) in
        N.distinct i j hi hj ((A.class↔same (node i) (node j) (N.lives i hi) (N.lives j hj)).1 l);
    room = N.room;
    some_state = N.some_state;
    start = refl;
    first_met = N.first_met;
    entries = λ i a hi ha. entries i a hi ha (N.entries i a hi ha);
    finals = λ i hi. flag_transfer (completes i hi) (completes-final i hi) (N.finals i hi);
  }
    where
      entries : (i a : ℕ) → i < n → a < G.letters → Entry i a
          → IsEntry (Language G s₀) G.letters n representative (representative i ++ (a ∷ [])) (entry i a)
      entries i a hi ha (inl x) = inl (
        x.0,
        λ g.
            let l = (leads_extend ha (N.lives i hi).inside (reached i hi).1).to g.word g.in_range g.continues in
            x.1 ((A.live↔word (G.successor (node i) a)).1 (g.word, g.in_range, l)),
      )
      entries i a hi ha (inr x) =
          inr (x.0, solutions_trans (entry-leads i a hi ha x.0 (reached i hi).1) (solutions_sym (reached (entry i a) x.0).1))

      completes : (i : ℕ) → i < n → T (final (node i)) → Completes (Language G s₀) G.letters n entry (representative i) i
      completes i hi h w b f = (reached i hi).1.from w b ((A.final↔all (node i) (N.lives i hi)).0 h w b
          (record { at = λ t. states-nodes t i (node i) w b f (N.lives i hi) refl }))

      completes-final : (i : ℕ) → i < n → Completes (Language G s₀) G.letters n entry (representative i) i → T (final (node i))
      completes-final i hi c = (A.final↔all (node i) (N.lives i hi)).1 λ w b f.
          (reached i hi).1.to w b (c w b λ t. nodes-states t i (node i) w b hi f refl)
