-- The measure: the place where the part ends.
use Rattle.normal.proofs.+write_rows.Given as goal

abbrev pub decreases-write_rows : goal.decreases-write_rows
decreases-write_rows l = l.end
