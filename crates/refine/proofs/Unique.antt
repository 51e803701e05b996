-- The classes are settled: two lists of one length that name the classes of the same live rows are equal. Rows of one class are never
-- told apart, so both lists put the same rows together; and a class's name is one more than a row of it that no row of it precedes.
use mathlib.Core.Path.{◌≡◌, sym, ◌∙◌}
use mathlib.Core.Logic.{◌⊎◌, inl, inr}
use mathlib.Core.List.{List}
use Prim.Native.Nat.{ℕ, ◌-◌, ◌≤◌}
use native.Mathlib.Omega.{arith}
use native.Mathlib.Decide.{ℕ_discrete}
use lib.Dec.{T_not}
use lib.ListN.{length, get_or}
use lib.Seq.{ext_get_or}
use Rattle.automaton.specs.Graph.{Member}
use Rattle.automaton.specs.Fixpoints.{Distinguished, swap, by_final, by_edge, by_letter}
use Rattle.marks.specs.Marks.{Marked}
use Rattle.marks.proofs.Laws.{marked-inside}
use Rattle.marks.specs.Tests.{is_marked}
use Rattle.refine.specs.Classes.{edges, Refined}
use Rattle.marks.proofs.Tests.{marked-test}

module _ {letters : ℕ} {entries live finals class : List ℕ} (R : Refined letters entries live finals class) where
  -- no record tells two rows of one class apart
  together : {s t : ℕ} → Distinguished (edges letters entries (length live)) (is_marked live) (is_marked finals) s t → Member (edges letters entries (length live)) (is_marked live) s
      → Member (edges letters entries (length live)) (is_marked live) t → get_or class s 0 ≡ get_or class t 0 → ⊥
  together {s} {t} (swap d) ms mt e = together d mt ms (sym e)
  together {s} {t} (by_final f g) ms mt e = T_not (is_marked finals t) g (R.partition.finals s t ms mt e f)
  together {s} {t} (by_edge a h m n) ms mt e = n ((R.partition.steps s t a ms mt e h).to m)
  together {s} {t} (by_letter a h m n d) ms mt e = together d m n ((R.partition.steps s t a ms mt e h).step m)

member : (letters : ℕ) (entries live : List ℕ) (s : ℕ) → Marked live s → Member (edges letters entries (length live)) (is_marked live) s
member letters entries live s m = record { inside = marked-inside live s m; holds = marked-test live s m }

module _ {letters : ℕ} {entries live finals : List ℕ} where
  module _ {class class' : List ℕ} (R : Refined letters entries live finals class) (R' : Refined letters entries live finals class') where
    -- rows of one class have one class in the other list
    carried : (s t : ℕ) → Marked live s → Marked live t → get_or class s 0 ≡ get_or class t 0 → get_or class' s 0 ≡ get_or class' t 0
    carried s t ms mt e = go (R'.partition.reason s t (member letters entries live s ms) (member letters entries live t mt))
      where
        go : (get_or class' s 0 ≡ get_or class' t 0) ⊎ Distinguished (edges letters entries (length live)) (is_marked live) (is_marked finals) s t → get_or class' s 0 ≡ get_or class' t 0
        go (inl q) = q
        go (inr d) = absurd (together R d (member letters entries live s ms) (member letters entries live t mt) e)

    -- the first row of a class is live
    first_lives : (s : ℕ) → Marked live s → Marked live (get_or class s 0 - 1)
    first_lives s m = elim (ℕ_discrete (get_or live (get_or class s 0 - 1) 0) 1) [
      | yes l ↦ l
      | no l ↦ absurd (omega (arith, R.named.some s m, R.named.name s m, R.named.none (get_or class s 0 - 1) l))
    ]

    -- a class has no later name in the other list
    not-later : (s : ℕ) → Marked live s → get_or class' s 0 ≤ get_or class s 0
    not-later s m =
        let f = get_or class s 0 - 1 in
        omega (arith, carried f s (first_lives s m) m (R.named.name s m), R'.named.low f, R.named.some s m)

  pub refined_unique : {class class' : List ℕ} → Refined letters entries live finals class → Refined letters entries live finals class' → length class ≡ length class' → class ≡ class'
  refined_unique {class} {class'} R R' e = ext_get_or 0 class class' e λ s h. row s (ℕ_discrete (get_or live s 0) 1)
    where
      row : (s : ℕ) → Dec (Marked live s) → get_or class s 0 ≡ get_or class' s 0
      row s (yes m) = omega (arith, not-later R R' s m, not-later R' R s m)
      row s (no m) = R.named.none s m ∙ sym (R'.named.none s m)
