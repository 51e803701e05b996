-- `bounds::range_by_kind` meets its contract, by the kind.
use native.Mathlib.Omega.{arith}
use mathlib.Core.Path.{◌∙◌}
use Rattle.bounds.proofs.Ranges.{kind-truth}
use Rattle.bounds.proofs.range_by_kind.Goals as goal

pub returns-in-12-to-19 : goal.returns-in-12-to-19
returns-in-12-to-19 c = c.range_within.ensures ∙ kind-truth c.args.kind c.args.a c.args.b c.requires.0 c.requires.1 (omega arith) (omega arith)
