-- The passes together: from what each leaves, the table of the graph's language, or that it has no word.
use mathlib.Core.Path.{◌≡◌, refl, sym, subst, ◌∙◌}
use mathlib.Core.Logic.{inl, inr}
use mathlib.Core.List.{List}
use Prim.Native.Nat.{ℕ, ◌-◌, ◌<◌, ◌≤◌}
use native.Mathlib.Omega.{arith}
use native.Mathlib.Decide.{ℕ_discrete, dec_lt}
use lib.Dec.{T}
use lib.ListN.{get_or, length, get_or-eq_default}
use Rattle.automaton.specs.Table.{IsFlag}
use Rattle.automaton.specs.Stored.{entry_at}
use Rattle.automaton.specs.Graph.{Member}
use Rattle.automaton.specs.Fixpoints.{SameStep}
use Rattle.automaton.proofs.Fixpoints.{word_live}
use Rattle.automaton.proofs.GraphTable.{numbering_table}
use Rattle.marks.specs.Marks.{Marked}
use Rattle.marks.proofs.Laws.{marked-inside}
use Rattle.marks.specs.Tests.{is_marked}
use Rattle.refine.specs.Classes.{IsNamed, Refined}
use Rattle.marks.proofs.Tests.{marked-test, test-marked}
use Rattle.stored_graph.specs.StoredGraph.{IsStoredGraph, stored_graph}
use Rattle.live_rows.specs.Sets.{FindsLive, LiveWithout, FindsFinals}
use Rattle.minimise.specs.Compacting.{IsNumbered, IsNameable, IsCompacted}
use Rattle.minimise.specs.Outcome.{WorkHasRoom}
use Rattle.minimise.specs.Reducing.{Wordless, HasWord, RowsJudged, Tabled, ReductionRefused, Ran}
use Rattle.minimise.proofs.Analysis.{kept-endless, live-set, class-partition, passes_analysis}
use Rattle.minimise.proofs.Renumbering.{renumbering}

-- each class has a number that an entry can hold
pub classes_nameable : {live class number first : List ℕ} {n : ℕ} → length class ≤ 4096 → length number ≡ length class → length class ≡ length live → IsNamed live class → IsNumbered class number first (length class) n
    → IsNameable class number
classes_nameable {live} {class} {number} {first} {n} few e f named N = record { inside = inside; small = small }
  where
    inside : (s : ℕ) → get_or class s 0 ≤ length number
    inside s = elim (dec_lt s (length class)) [
      | yes h ↦ omega (arith, named.low s)
      | no h ↦ let q : get_or class s 0 ≡ 0 = get_or-eq_default class 0 (omega arith) in omega arith
    ]

    lives : (s : ℕ) → 0 < get_or class s 0 → Marked live s
    lives s h = elim (ℕ_discrete (get_or live s 0) 1) [ yes m ↦ m | no m ↦ absurd (omega (arith, named.none s m)) ]

    small : (s : ℕ) → 0 < get_or class s 0 → get_or number (get_or class s 0 - 1) 0 < 65536
    small s h =
        let m = lives s h in
        omega (arith, N.place (get_or class s 0 - 1) (omega (arith, named.low s, marked-inside live s m)) (named.name s m ∙ omega arith), N.most)

module _ {entries flags : List ℕ} {letters rows : ℕ} (g : IsStoredGraph entries flags letters rows) {live : List ℕ} (len : length live ≡ rows) (L : FindsLive letters entries flags live) where
  pub reduced_empty : ¬ Marked live 0 → Wordless entries flags letters rows 9
  reduced_empty n = record { graph = g; empty = λ w b l. n (test-marked live 0 (word_live (kept-endless g len L) (live-set g len L) 0 w b l).holds); refused = refl }

  pub reduced_table : {endless finals class number first entries' finals' : List ℕ} {n : ℕ} → length class ≡ rows → Marked live 0 → FindsFinals letters entries live flags endless finals → Refined letters entries live finals class
      → IsNumbered class number first (length class) n → IsCompacted letters class number first entries finals entries' finals' n → Tabled entries flags letters rows n entries' finals'
  reduced_table {endless} {finals} {class} {number} {first} {entries'} {finals'} {n} e m F R N' K = record {
    graph = g;
    few_states = N.most;
    table = numbering_table (passes_analysis g len L F R) (renumbering g len m R.named closed steps N K flag);
  }
    where
      N : IsNumbered class number first rows n
      N = subst (λ r. IsNumbered class number first r n) e N'

      closed : (s a : ℕ) → s < rows → a < letters → Marked live (entry_at letters entries s a) → Marked live s
      closed s a hs ha q = test-marked live s ((live-set g len L).closed s a hs ha (member (entry_at letters entries s a) q))
        where
          member : (u : ℕ) → Marked live u → Member (stored_graph g) (is_marked live) u
          member u q = record { inside = omega (arith, marked-inside live u q); holds = marked-test live u q }

      steps : (s t a : ℕ) → Marked live s → Marked live t → get_or class s 0 ≡ get_or class t 0 → a < letters → get_or class (entry_at letters entries s a) 0 ≡ get_or class (entry_at letters entries t a) 0
      steps s t a ms mt q ha = go (ℕ_discrete (get_or live (entry_at letters entries s a) 0) 1)
        where
          member : (u : ℕ) → Marked live u → Member (stored_graph g) (is_marked live) u
          member u q = record { inside = omega (arith, marked-inside live u q); holds = marked-test live u q }

          step : SameStep (stored_graph g) (is_marked live) (λ s t. get_or class s 0 ≡ get_or class t 0) s t a
          step = (class-partition g len R).steps s t a (member s ms) (member t mt) q ha

          go : Dec (Marked live (entry_at letters entries s a)) → get_or class (entry_at letters entries s a) 0 ≡ get_or class (entry_at letters entries t a) 0
          go (yes l) = step.step (member (entry_at letters entries s a) l)
          go (no l) = R.named.none (entry_at letters entries s a) l ∙ sym (R.named.none (entry_at letters entries t a)
              λ k. l (test-marked live (entry_at letters entries s a) (step.from (member (entry_at letters entries t a) k)).holds))

      flag : (i : ℕ) → i < n → IsFlag (T (is_marked finals (get_or first i 0))) (get_or finals (get_or first i 0) 0)
      flag i h = go (get_or first i 0) (F.is_final.row (get_or first i 0) (omega (arith, N.inside i h)))
        where
          go : (s : ℕ) → IsFlag (LiveWithout live endless s) (get_or finals s 0) → IsFlag (T (is_marked finals s)) (get_or finals s 0)
          go s (inl x) = inl (x.0, marked-test finals s x.0)
          go s (inr x) = inr (x.0, λ t. omega (arith, test-marked finals s t, x.0))

-- a graph that has a word is not refused
pub judged-word : {entries flags live : List ℕ} {letters rows refusal : ℕ} → refusal ≡ 0 → RowsJudged entries flags letters rows refusal live → HasWord entries flags letters rows live
judged-word e (inl x) = absurd (omega (arith, x.refused))
judged-word e (inr (inl x)) = absurd (omega (arith, x.refused))
judged-word e (inr (inr x)) = x.1

-- the rows are as many as the marks
pub word_rows : {entries flags live : List ℕ} {letters rows : ℕ} → HasWord entries flags letters rows live → HasWord entries flags letters (length live) live
word_rows {entries} {flags} {live} {letters} w = record { graph = subst (λ n. IsStoredGraph entries flags letters n) (sym w.rows_are) w.graph; rows_are = refl; found = w.found; start = w.start }

-- what the passes leave, where all work tables have room for the rows
module _ {entries flags : List ℕ} {letters r rows : ℕ} {work : List (List ℕ)} (e : r ≡ rows) (h : WorkHasRoom rows work) where
  pub judged_ran : {refusal : ℕ} {live entries' flags' : List ℕ} → ¬ (refusal ≡ 0) → RowsJudged entries flags letters r refusal live → Ran entries flags letters rows work refusal 0 entries' flags'
  judged_ran {refusal} {live} n J = inl (refl, go (subst (λ x. RowsJudged entries flags letters x refusal live) e J))
    where
      go : RowsJudged entries flags letters rows refusal live → ReductionRefused entries flags letters rows work refusal
      go (inl x) = inl (record { no_room = λ a. x.no_graph a.0; refused = x.refused })
      go (inr (inl x)) = inr (h, x)
      go (inr (inr x)) = absurd (n x.0)

  pub tabled_ran : {states : ℕ} {entries' flags' : List ℕ} → Tabled entries flags letters r states entries' flags' → Ran entries flags letters rows work 0 states entries' flags'
  tabled_ran {states} {entries'} {flags'} t = inr (refl, (h, subst (λ x. Tabled entries flags letters x states entries' flags') e t))
