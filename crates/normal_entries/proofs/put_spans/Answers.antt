-- `normal_entries::put_spans` meets its contract: the spans are copied into the part of the list behind the entries.
use native.Mathlib.Omega.{arith}
use Rattle.normal_entries.proofs.Entries.{spans-copied}
use Rattle.normal_entries.proofs.put_spans.Goals as goal

pub returns : goal.returns
returns c = spans-copied c.args.numbers.now c.args.spans.now c.copy_from_slice.ensures.after (omega arith) (omega arith)
