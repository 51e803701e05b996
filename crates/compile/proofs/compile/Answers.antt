-- `compile::compile` meets its contract: the rows lent, the limit, the exploration and the table are those of the laws `calls_outcome` and
-- `calls_cleared`, and with the reader's answer to the text they give the outcome.
use mathlib.Core.Path.{ap}
use Rattle.situations.proofs.Stored.{sheet-letters}
use Rattle.situations.proofs.Found.{explored-leaves, explored-situations}
use Rattle.compiled_sheet.proofs.Told.{sheet-call}
use Rattle.compile.proofs.Sheet.{calls_cleared, limit_fits, calls_outcome}
use Rattle.compile.proofs.Reading.{text-outcome}
use Rattle.compile.proofs.compile.Goals as goal

pub returns : goal.returns
returns c =
    let d = c in
    let args = d.args in
    let found = d.situations-count in
    let leaves = explored-leaves found.ensures in
    let table = d.minimise-table.ensures in
    let work = d.work_rows-work.ensures in
    let rows = d.fewest_rows-rows.ensures in
    let limit = d.most_situations-limit.ensures in
    sheet-call
    (text-outcome d.read-reading.ensures d.answered-answer.ensures
    (λ s accepted same.
    let fits = limit_fits args.entries.now args.finals.now args.keys.now args.live.now args.class.now args.next.now args.heads.now args.links.now args.envelopes.now accepted (sheet-letters s same) work rows limit in
    calls_outcome args.entries.now args.finals.now args.keys.now args.live.now args.class.now args.next.now args.heads.now args.links.now args.envelopes.now accepted (sheet-letters s same) work rows limit found.auto.entries found.auto.finals found.auto.heads found.auto.links leaves.work_zero.keys_zero leaves.within (explored-situations found.ensures s accepted same fits) table d.made.ensures)
    (calls_cleared args.entries.now args.finals.now args.keys.now args.live.now args.class.now args.next.now args.heads.now args.links.now args.envelopes.now found.auto.entries found.auto.finals found.auto.heads found.auto.links leaves.work_zero.keys_zero table))
    (ap (λ y. y.sheet) d.read-reading.ensures)
    c.with_sheet.ensures
