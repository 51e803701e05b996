-- `cases::bytes_within` meets its contract (Counted).
use Rattle.cases.proofs.Counted.{is-taken}
use Rattle.cases.proofs.bytes_within.Goals as goal

pub returns : goal.returns
returns c = is-taken _ _ _ c.min.ensures
