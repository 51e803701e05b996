-- `follow` meets its contract: a key has the row that `settle` gives.
use Rattle.pairs.specs.Rows.{pair}
use Rattle.pairs.proofs.follow.Goals as goal

pub returns-in-Some : goal.returns-in-Some
returns-in-Some c = pair c.in-Some.is c.settle.ensures
