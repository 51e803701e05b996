-- `show_statistics::find_statistics` meets its contract: the compile in the rows lent for the letters of the sheet that was read, with what is known of it, is what
-- docs/statistics.md says of the text (Printing).
use Rattle.show_statistics.proofs.Printing.{call-prints}
use Rattle.show_statistics.proofs.find_statistics.Goals as goal

pub read-reading-requires : goal.read-reading-requires
read-reading-requires c = tt

pub rows_lent-rows-requires : goal.rows_lent-rows-requires
rows_lent-rows-requires c = tt

pub compile_lent-compiled-requires : goal.compile_lent-compiled-requires
compile_lent-compiled-requires c = tt

pub known_situations-situations-requires : goal.known_situations-situations-requires
known_situations-situations-requires c = tt

pub returns : goal.returns
returns c = call-prints c.args.text.now c.read-reading.ensures c.rows_lent-rows.ensures c.compile_lent-compiled.ensures.call c.known_situations-situations.ensures
