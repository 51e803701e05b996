-- What is said of a part by the kind of its last node. From the one equation that such a definition has, for any thing that is said.
use Prim.Native.Nat.{ℕ, suc, ◌-◌}
use native.Mathlib.Omega.{arith}
use mathlib.Core.Path.{◌≡◌, sym, ◌∙◌, ap}
use mathlib.Core.List.{List}
use lib.ListN.{get_or}
use Rattle.nodes.specs.Evaluate.{Kind, kind_of}

-- `before e` is said of the part that ends before the place e, and `said k i` of a part whose last node stands at i and has the kind k.
module _ {X : Type 0} (kinds : List ℕ) (before : ℕ → X) (said : Kind → ℕ → X) (node : (i : ℕ) → before (suc i) ≡ said (kind_of (get_or kinds i 0)) i) (e : ℕ) (h : e ≡ 0 → ⊥) where
  pub part-by-kind : (k : Kind) → kind_of (get_or kinds (e - 1) 0) ≡ k → said k (e - 1) ≡ before e
  part-by-kind k q =
      let s : suc (e - 1) ≡ e = omega arith in
      sym (ap (λ j. said j (e - 1)) q) ∙ sym (node (e - 1)) ∙ ap before s

  pub part-by-number : (k : ℕ) → get_or kinds (e - 1) 0 ≡ k → said (kind_of k) (e - 1) ≡ before e
  part-by-number k q = part-by-kind (kind_of k) (ap kind_of q)
