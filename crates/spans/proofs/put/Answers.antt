-- `spans::put` meets its contract.
use Prim.Native.Nat.{◌*◌}
use native.Mathlib.Omega.{arith}
use native.Mathlib.Numerals.{add-one}
use mathlib.Core.Path.{refl, ap, ◌∙◌}
use lib.ListN.{set}
use Rattle.spans.proofs.put.Goals as goal
use Rattle.spans.proofs.put.Goals.{then-count-lt1024, else-count-lt1024}

pub returns : goal.returns
returns c =
    let a = c.args in
    let at = a.count * 2 in
    elim c.if-count-lt1024.branch [
      | then-count-lt1024 w ↦ (refl, λ l. w.spans-is ∙ ap (λ k. set (set a.spans.now at a.start) k a.end) (add-one at))
      | else-count-lt1024 w ↦ (refl, λ l. absurd (omega (arith, w.if-count-lt1024.false)))
    ]
