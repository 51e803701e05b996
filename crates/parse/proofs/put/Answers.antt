-- `parse::put` meets its contract: one store in each array.
use mathlib.Core.Path.{ap}
use lib.ListN.{set}
use mir.Syntax.{w64}
use mir.ValLaws.{to_z-of_z}
use Rattle.nodes.specs.Evaluate.{stored}
use Rattle.parse.specs.Stored.{store}
use Rattle.parse.proofs.put.Goals as goal

pub returns : goal.returns
unfolding store
returns c =
    let a = c.args in
    ap (λ z. stored (set a.kinds.now a.at a.kind) (set a.values.now a.at z) (set a.starts.now a.at a.start)) (to_z-of_z w64 a.value c.ranges.value)
