-- `keys::raise_all` meets its contract: before each turn the places passed hold the values of the nodes, raised.
use mathlib.Core.Path.{◌≡◌}
use mathlib.Core.List.{map}
use lib.ListN.{length, take}
use Rattle.nodes.specs.Bounded.{value_in}
use Rattle.nodes.specs.Evaluate.{stored, view, node_value}
use Rattle.prepare.specs.Key.{raised}
use Rattle.extend.proofs.keys.raise_all.Given as goal

abbrev pub invariant-loop-i : goal.invariant-loop-i
invariant-loop-i l = (take l.i l.numbers ≡ map (λ node. raised (value_in (node_value (stored l.kinds l.values l.starts) (view l.window l.streams l.firsts l.whole) node 0))) (take l.i l.first_nodes)) × (length l.numbers ≡ length l.initial.numbers)
