-- `refused` meets its contract.
use mathlib.Core.Path.{ap}
use Rattle.streams.specs.declared.StreamsDescription.{StreamsDescription}
use Rattle.join_tables.proofs.refused.Goals as goal

pub returns : goal.returns
returns c = ap (λ (s : StreamsDescription). record { refusal = c.args.refusal; states = 0; pairs = 0; letters = 0; streams = s }) c.none.ensures
