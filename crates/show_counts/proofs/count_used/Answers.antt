-- `show_counts::count_used` meets its contract: the used rows lie within the lists.
use mathlib.Core.Path.{sym}
use lib.Seq.{length-take-le}
use Rattle.show_counts.proofs.count_used.Goals as goal

pub slice_bounds-count_records-end : goal.slice_bounds-count_records-end
slice_bounds-count_records-end c = sym (length-take-le _ _ c.requires.1)

pub slice_bounds-count_records-end-2 : goal.slice_bounds-count_records-end-2
slice_bounds-count_records-end-2 c = sym (length-take-le _ _ c.requires.0)

pub count_records-requires : goal.count_records-requires
count_records-requires c = tt
