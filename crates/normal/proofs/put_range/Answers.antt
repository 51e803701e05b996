-- `normal::put_range` meets its contract: two stores one after the other.
use Prim.Native.Nat.{◌+◌, ◌*◌}
use mathlib.Core.Path.{◌∙◌, ap₂}
use lib.ListN.{set}
use mir.Syntax.{w64}
use mir.ValLaws.{to_z-of_z}
use Rattle.normal.proofs.Writing.{two_stores}
use Rattle.normal.proofs.put_range.Goals as goal

pub returns : goal.returns
returns c =
    let a = c.args in
    ap₂ (λ x y. set (set a.ends.now (a.row * 2) x) (a.row * 2 + 1) y) (to_z-of_z w64 a.low c.ranges.low) (to_z-of_z w64 a.high c.ranges.high)
    ∙ two_stores a.ends.now (a.row * 2) a.low a.high
