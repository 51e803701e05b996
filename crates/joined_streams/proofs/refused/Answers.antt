-- `refused` meets its contract.
use mathlib.Core.Path.{ap}
use Rattle.streams.specs.declared.StreamsDescription.{StreamsDescription}
use Rattle.joined_streams.specs.Outcome.{refused_streams}
use Rattle.joined_streams.proofs.refused.Goals as goal

pub returns : goal.returns
returns c = let n = c.args.refusal in ap (λ (s : StreamsDescription). record { refusal = n; letters = 0; streams = s; left = (refused_streams n).left; right = (refused_streams n).right }) c.none.ensures
