-- `replaying::begin` meets its contract, from those of the calls.
use mathlib.Core.Path.{ap₂}
use mathlib.Core.Bool.{false}
use Rattle.replaying.specs.Machine.{names_replay}
use Rattle.replaying.proofs.begin.Goals as goal

pub names_start-requires : goal.names_start-requires
names_start-requires c = tt

pub line_start-requires : goal.line_start-requires
line_start-requires c = tt

pub returns : goal.returns
returns c = ap₂ (λ n l. names_replay false n l 1 c.args.state) c.names_start.ensures c.line_start.ensures
