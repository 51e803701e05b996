-- `course::find_costs` meets its contract: the costs of the rows from the place `left` of the queue on are right (`KnownFrom`).
use mathlib.Core.Path.{refl, ◌∙◌}
use Prim.Native.Nat.{◌<◌, ◌-◌}
use native.Mathlib.Omega.{arith}
use lib.ListN.{length}
use Rattle.basics.specs.Lists.{at}
use Rattle.automaton.proofs.WellFormed.{whole-entries}
use Rattle.changes.proofs.Axes.{axes_few}
use Rattle.course.proofs.Queue.{queue_most}
use Rattle.course.proofs.Costs.{known_start, known_passed, known_more, known_end}
use Rattle.course.proofs.find_costs.Goals as goal

pub loop-left-init : goal.loop-left-init
loop-left-init c = (omega arith, refl, known_start c.requires.queue)

pub offset_bounds-queue-left : goal.offset_bounds-queue-left
offset_bounds-queue-left c =
    let place : c.loop-left.left - 1 < c.args.met.count = omega arith in
    let in_queue : c.loop-left.left - 1 < length c.args.queue.now = let start = c in omega (arith, place, queue_most start.requires.queue, start.requires.finals_len.1) in
    omega (arith, in_queue)

pub bounds-queue-left : goal.bounds-queue-left
bounds-queue-left c =
    let place : c.loop-left.left - 1 < c.args.met.count = omega arith in
    let in_queue : c.loop-left.left - 1 < length c.args.queue.now = let start = c in omega (arith, place, queue_most start.requires.queue, start.requires.finals_len.1) in
    in_queue

pub overflow_cast-row : goal.overflow_cast-row
overflow_cast-row c =
    let place : c.loop-left.left - 1 < c.args.met.count = omega arith in
    let row_inside : at c.args.queue.now (c.loop-left.left - 1) < length c.args.layers.now = c.requires.queue.rows (c.loop-left.left - 1) (place) in
    omega (arith, row_inside, c.requires.whole_table.few_rows)

pub offset_bounds-layers-row : goal.offset_bounds-layers-row
offset_bounds-layers-row c =
    let place : c.loop-left.left - 1 < c.args.met.count = omega arith in
    let row_inside : at c.args.queue.now (c.loop-left.left - 1) < length c.args.layers.now = c.requires.queue.rows (c.loop-left.left - 1) (place) in
    omega (arith, row_inside, c.requires.whole_table.few_rows)

pub bounds-layers-row : goal.bounds-layers-row
bounds-layers-row c =
    let place : c.loop-left.left - 1 < c.args.met.count = omega arith in
    let row_inside : at c.args.queue.now (c.loop-left.left - 1) < length c.args.layers.now = c.requires.queue.rows (c.loop-left.left - 1) (place) in
    row_inside

pub find_row-requires : goal.find_row-requires
find_row-requires c =
    let place : c.loop-left.left - 1 < c.args.met.count = omega arith in
    let row_inside : at c.args.queue.now (c.loop-left.left - 1) < length c.args.layers.now = c.requires.queue.rows (c.loop-left.left - 1) (place) in
    let start = c in
    let sizes = start.requires.finals_len in
    let turn = c.loop-left in
    record { whole_table = start.requires.whole_table; finals_len = (sizes.0, omega (arith, sizes.2, turn.invariant.1), row_inside, omega (arith, c.if-layers-row.true, sizes.3), sizes.4) }

pub loop-left-preserved-then-layers-row : goal.loop-left-preserved-then-layers-row
loop-left-preserved-then-layers-row c =
    let start = c in
    let turn = c.loop-left in
    let sizes = start.requires.finals_len in
    let found = c.find_row.ensures in (
      omega arith,
      found.same_length ∙ turn.invariant.1,
      known_more start.requires.queue sizes.4 (axes_few start.args.shape) sizes.3 (whole-entries start.requires.whole_table) c.loop-left-test.true turn.invariant.0 c.if-layers-row.true turn.invariant.2 found,
    )

pub loop-left-preserved : goal.loop-left-preserved
loop-left-preserved c =
    let start = c in
    let turn = c.loop-left in
    (omega arith, turn.invariant.1, known_passed start.requires.queue c.loop-left-test.true c.if-layers-row.false turn.invariant.2)

pub returns : goal.returns
returns c = known_end c.requires.queue c.loop-left-test.false c.loop-left.invariant.2
