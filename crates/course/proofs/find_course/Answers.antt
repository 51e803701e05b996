-- `course::find_course` meets its contract: the search keeps the lengths of its lists, and `settle_course` gives the rest.
use mathlib.Core.Path.{sym, ◌∙◌}
use Rattle.course.proofs.find_course.Goals as goal

pub search-met-requires : goal.search-met-requires
search-met-requires c =
    let start = c in
    let sizes = start.requires.finals_len in
    record { whole_table = start.requires.whole_table; finals_len = (sizes.0, sizes.1, sizes.2, start.requires.layers_value.0) }

pub settle_course-requires : goal.settle_course-requires
settle_course-requires c =
    let start = c in
    let sizes = start.requires.finals_len in
    let met = c.search-met in
    let layers = met.auto.layers in
    let queue = met.auto.queue in
    record {
      whole_table = rw layers start.requires.whole_table;
      finals_len = (sizes.0 ∙ sym layers, queue ∙ sizes.1 ∙ sym layers, sizes.3, sizes.4, start.requires.layers_value.1);
      searched = met.ensures;
    }

pub returns : goal.returns
returns c = c.settle_course.ensures
