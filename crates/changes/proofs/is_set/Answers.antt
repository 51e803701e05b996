-- `changes::is_set` meets its contract: every kind but that of read streams is set.
use mathlib.Core.Path.{sym}
use lib.ListN.{get_or}
use Rattle.changes.proofs.Loops.{set-kind}
use Rattle.changes.proofs.is_set.Goals as goal

pub returns : goal.returns
returns c = let a = c.args in sym (set-kind (get_or a.shape.kinds a.stream 0))
