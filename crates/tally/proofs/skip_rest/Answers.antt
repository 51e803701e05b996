-- `tally::skip_rest` meets its contract: the last byte alone tells where the reading stands (Parts).
use Rattle.tally.specs.Machine.{counted_sheet}
use Rattle.tally.proofs.Parts.{rest-refused}
use Rattle.tally.proofs.skip_rest.Goals as goal

pub returns : goal.returns
returns c = λ names lengths lows highs begun counts. rest-refused (counted_sheet names lengths lows highs) c.args.chunk.now c.requires begun c.args.refusal counts c.part_to.ensures
