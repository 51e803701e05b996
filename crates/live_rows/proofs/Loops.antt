-- Which rows are marked once the flagged marks are kept.
use mathlib.Core.Path.{◌≡◌, sym, ◌∙◌}
use mathlib.Core.Logic.{◌↔◌}
use mathlib.Core.List.{List}
use Prim.Native.Nat.{ℕ}
use native.Mathlib.Omega.{arith}
use native.Mathlib.Decide.{ℕ_discrete}
use lib.ListN.{get_or}
use Rattle.marks.specs.Marks.{Marked, IsFlagged}

-- a row is marked then if it was and is flagged
pub flagged-both : {flags old new : List ℕ} → IsFlagged flags old new → (s : ℕ) → Marked new s ↔ (Marked old s × Marked flags s)
flagged-both {flags} {old} {new} F s = (to (ℕ_discrete (get_or flags s 0) 1), λ p. F.kept s p.1 ∙ p.0)
  where
    to : Dec (Marked flags s) → Marked new s → Marked old s × Marked flags s
    to (yes f) m = (sym (F.kept s f) ∙ m, f)
    to (no f) m = absurd (let z : ◌≡◌ {A = ℕ} 0 1 = sym (F.cleared s f) ∙ m in omega arith)
