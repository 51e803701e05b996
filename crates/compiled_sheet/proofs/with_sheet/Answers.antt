-- `compiled_sheet::with_sheet` meets its contract: with refusal 0 what is stored is told, else nothing.
use Rattle.compiled_sheet.proofs.Told.{refused-told, sheet-told}
use Rattle.compiled_sheet.proofs.with_sheet.Goals as goal

pub returns-then-compiled-eq0 : goal.returns-then-compiled-eq0
returns-then-compiled-eq0 c =
    let start = c in
    sheet-told start.args.sheet start.args.compiled c.if-compiled-eq0.true c.stored_streams.ensures c.with_streams.ensures

pub returns-else-compiled-eq0 : goal.returns-else-compiled-eq0
returns-else-compiled-eq0 c =
    let start = c in
    refused-told start.args.sheet start.args.compiled c.if-compiled-eq0.false c.none.ensures c.with_streams-else-compiled-eq0.ensures
