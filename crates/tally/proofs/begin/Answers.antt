-- `tally::begin` meets its contract, from that of the call.
use mathlib.Core.Path.{ap}
use mathlib.Core.Bool.{false}
use Rattle.tally.specs.Machine.{tally_at}
use Rattle.tally.specs.declared.TallyStage.TheVariants.{Names}
use Rattle.tally.proofs.begin.Goals as goal

pub returns : goal.returns
returns c = ap (λ x. tally_at false (Names x)) c.names_start.ensures
