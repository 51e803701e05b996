-- `course::find_row` meets its contract: the costs behind the letters are stored in the row's part of the list, and that part is lowered.
use Prim.Native.Nat.{◌+◌, ◌*◌, ◌≤◌}
use native.Mathlib.Omega.{arith}
use lib.ListN.{length}
use Rattle.basics.proofs.Lists.{row_fits}
use Rattle.course.specs.Costs.{layered_in}
use Rattle.course.proofs.Rows.{row-found}
use Rattle.course.proofs.find_row.Goals as goal

pub overflow_mul-start : goal.overflow_mul-start
overflow_mul-start c =
    let row_inside : c.args.row * c.args.letters + c.args.letters ≤ length c.args.costs.now = row_fits c.args.row (length c.args.layers.now) c.args.letters (length c.args.costs.now) c.requires.finals_len.2 c.requires.finals_len.1 in
    omega (arith, row_inside)

pub overflow_add-end : goal.overflow_add-end
overflow_add-end c =
    let row_inside : c.args.row * c.args.letters + c.args.letters ≤ length c.args.costs.now = row_fits c.args.row (length c.args.layers.now) c.args.letters (length c.args.costs.now) c.requires.finals_len.2 c.requires.finals_len.1 in
    omega (arith, row_inside)

pub offset_bounds-costs-start : goal.offset_bounds-costs-start
offset_bounds-costs-start c =
    let row_inside : c.args.row * c.args.letters + c.args.letters ≤ length c.args.costs.now = row_fits c.args.row (length c.args.layers.now) c.args.letters (length c.args.costs.now) c.requires.finals_len.2 c.requires.finals_len.1 in
    omega (arith, row_inside)

pub slice_bounds-lower_costs-end : goal.slice_bounds-lower_costs-end
slice_bounds-lower_costs-end c =
    let row_inside : c.args.row * c.args.letters + c.args.letters ≤ length c.args.costs.now = row_fits c.args.row (length c.args.layers.now) c.args.letters (length c.args.costs.now) c.requires.finals_len.2 c.requires.finals_len.1 in
    omega (arith, row_inside, c.load_row.ensures.same_length)

pub returns : goal.returns
returns c =
    let row_inside : c.args.row * c.args.letters + c.args.letters ≤ length c.args.costs.now = row_fits c.args.row (length c.args.layers.now) c.args.letters (length c.args.costs.now) c.requires.finals_len.2 c.requires.finals_len.1 in
    let start = c in
    let a = start.args in
    let loaded = c.load_row.ensures in
    row-found (layered_in a.letters a.entries.now a.finals.now a.layers.now a.goal) a.row start.requires.finals_len.4 (omega (arith, row_inside, loaded.same_length)) loaded c.lower_costs.ensures
