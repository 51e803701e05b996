-- `replaying::ended_at` meets its contract, from those of the calls.
use mathlib.Core.Path.{ap₂}
use Rattle.replaying.specs.Machine.{advanced_to}
use Rattle.replaying.specs.declared.Stage.TheVariants.{Ended}
use Rattle.replaying.proofs.ended_at.Goals as goal

pub names_start-requires : goal.names_start-requires
names_start-requires c = tt

pub line_start-requires : goal.line_start-requires
line_start-requires c = tt

pub returns : goal.returns
returns c =
    let a = c.args in
    ap₂ (λ n l. advanced_to (record { stage = Ended; begun = a.begun; names = n; line = l; number = 0; state = 0 }) a.next a.size) c.names_start.ensures c.line_start.ensures
