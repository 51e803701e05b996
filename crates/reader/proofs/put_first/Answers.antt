-- `reader::put_first` meets its contract: the number is an index of the table.
use Rattle.reader.proofs.FirstNodes.{natural_cast}
use Rattle.reader.proofs.put_first.Goals as goal

pub overflow_cast-k : goal.overflow_cast-k
overflow_cast-k c = natural_cast c.args.number c.ranges.number c.requires.0
