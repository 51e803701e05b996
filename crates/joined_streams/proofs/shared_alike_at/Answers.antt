-- `shared_alike_at` meets its contract: the stream at the place of the name is the only one with it (Joining).
use mathlib.Core.Path.{sym}
use native.Mathlib.Omega.{arith}
use Rattle.joined_streams.proofs.Joining.{alike-at-place, alike-nowhere}
use Rattle.joined_streams.proofs.shared_alike_at.Goals as goal

pub returns-in-Some : goal.returns-in-Some
returns-in-Some c = alike-at-place c.args.left.now c.requires.2 _ c.in-Some.place c.in-Some.ensures.1 c.in-Some.ensures.0 c.alike.result c.alike.ensures

pub returns-in-None : goal.returns-in-None
returns-in-None c = alike-nowhere c.args.left.now c.requires.2 _ (sym c.in-None.ensures) (omega arith)
