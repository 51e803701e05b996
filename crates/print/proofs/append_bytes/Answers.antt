-- `print::append_bytes` meets its contract: the text is copied where there is room for it.
use native.Mathlib.Omega.{arith}
use Rattle.print.proofs.Append.{text-copied}
use Rattle.print.proofs.append_bytes.Goals as goal

pub returns : goal.returns
returns c = text-copied c.args.out.now c.args.text.now (omega arith) c.copy_from_slice.ensures.after (omega arith)
