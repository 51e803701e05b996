-- `chains::same` meets its contract: before each turn, if `different` is 0 the keys agree at the places passed, and if the keys are equal `different` is 0.
use Prim.Native.Nat.{ℕ}
use mathlib.Core.Path.{◌≡◌, refl, sym, ap, ◌∙◌}
use mathlib.Core.List.{List}
use native.Mathlib.Omega.{arith}
use native.Mathlib.Decide.{ℕ_discrete}
use lib.Dec.{eqb}
use borrow.Author.Tests.{ne_eqb}
use borrow.Author.Count.{below_more, below_none}
use lib.ListN.{get_or}
use lib.Seq.{ext_get_or}
use Rattle.basics.specs.Answers.{Says}
use Rattle.explore.proofs.chains.same.Goals as goal
use Rattle.explore.proofs.chains.same.Goals.{then-x-b, else-x-b}

-- A property that holds just where the number is 0 is answered by the test for 0.
answered : (n : ℕ) {P : Type 0} → (n ≡ 0 → P) → (P → n ≡ 0) → Says (eqb n 0) P
answered n {P} to from = by (ℕ_discrete n 0)
  where
    by : Dec (n ≡ 0) → Says (eqb n 0) P
    by (yes e) = rw e (to e)
    by (no e) = rw (ne_eqb n 0 e) (λ p. e (from p))

pub loop-i-init : goal.loop-i-init
loop-i-init c = (λ e. below_none _, λ e. refl)

pub loop-i-preserved : goal.loop-i-preserved
loop-i-preserved c =
    let at-loop = c in
    let args = at-loop.args in (
      λ e. elim c.if-x-b.branch [
        | then-x-b w ↦ absurd (omega (arith, e, w.different-is))
        | else-x-b w ↦ below_more (λ (k : ℕ). get_or args.a.now k 0 ≡ get_or args.b.now k 0) _ (at-loop.loop-i.invariant.0 (sym w.different-is ∙ e)) w.if-x-b.false
      ],
      λ e. elim c.if-x-b.branch [
        | then-x-b w ↦ absurd (w.if-x-b.true (ap (λ (l : List ℕ). get_or l at-loop.loop-i.i 0) e))
        | else-x-b w ↦ w.different-is ∙ at-loop.loop-i.invariant.1 e
      ],
    )

pub returns : goal.returns
returns c =
    let found = c.loop-i in
    answered found.different (λ e. ext_get_or 0 _ _ c.requires (λ k h. found.invariant.0 e k (omega arith))) found.invariant.1
