-- The text stands at the front of the page, and all of it is written.
use Rattle.std.proofs.Common.{subst}
use Rattle.output.specs.Output.{Hands}
use Rattle.migration_text.proofs.Text.{writes_front}
use Rattle.show_migration.proofs.write_states.Goals as goal

pub returns : goal.returns
returns g c = subst (λ b. Hands b c.write_front.result.size c.write_front.result.whole) (writes_front c.fill-size.ensures) c.write_front.ensures.hands
