-- `cases::number` meets its contract: its four calls give the bytes.
use Rattle.std.proofs.Common.{arith}
use Rattle.cases.proofs.FourBytes.{four_bytes, none-beyond}
use Rattle.cases.proofs.number.Goals as goal

pub returns-then-bytes-at : goal.returns-then-bytes-at
returns-then-bytes-at c = none-beyond _ c.args.at (omega (arith, c.if-bytes-at.true))

pub returns : goal.returns
returns c = four_bytes _ c.args.at c.byte_at.ensures.0 c.byte_at-2.ensures.0 c.byte_at-3.ensures.0 c.byte_at-4.ensures.0
