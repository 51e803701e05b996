-- `cases::bytes_lent` meets its contract (Counted).
use Rattle.std.proofs.Common.{arith}
use Rattle.cases.proofs.Counted.{is-taken}
use Rattle.cases.proofs.bytes_lent.Goals as goal

pub returns : goal.returns
returns c = is-taken _ _ _ (omega (arith, c.min.ensures, c.number.ensures))
