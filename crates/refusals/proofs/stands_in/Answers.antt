-- `refusals::stands_in` meets its contract: the place of a token that is none of the line's is their number.
use mathlib.Core.Path.{ap₂, ◌∙◌}
use lib.Dec.{ltb}
use Rattle.text.specs.Bytes.{tokens}
use Rattle.refusals.proofs.Names.{place_of-below}
use Rattle.refusals.proofs.stands_in.Goals as goal

pub returns : goal.returns
returns c = ap₂ ltb c.place_of.ensures c.token_count.ensures ∙ place_of-below (tokens c.args.line.now) c.args.token.now
