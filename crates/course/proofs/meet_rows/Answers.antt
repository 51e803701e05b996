-- `course::meet_rows` meets its contract: before each row the turn of the queue holds (`RowsTurn`).
use mathlib.Core.Path.{sym, ◌∙◌}
use native.Mathlib.Omega.{arith}
use lib.ListN.{length, set, length-set}
use Rattle.automaton.specs.WellFormed.{WholeTable}
use Rattle.course.proofs.Queue.{queue_most}
use Rattle.course.proofs.Meeting.{rows_turn_start, rows-turn-stored, rows_turn_next, rows_turn_end}
use Rattle.course.proofs.meet_rows.Goals as goal
use Rattle.course.proofs.meet_rows.Goals.{Start}

-- the table is whole for as many rows as the lists have numbers
whole : (start : Start) → WholeTable start.args.letters (length (set start.args.layers.now start.args.start 0)) start.args.entries.now
whole start = rw length-set start.requires.whole_table

pub bounds-queue-0 : goal.bounds-queue-0
bounds-queue-0 c = omega (arith, c.requires.queue_len)

pub loop-head-init : goal.loop-head-init
loop-head-init c =
    let start = c in
    let a = start.args in
    rows_turn_start a.layers.now a.queue.now (sym (length-set a.layers.now a.start 0)) (start.requires.queue_len.0 ∙ sym (length-set a.layers.now a.start 0)) (rw length-set start.requires.queue_len.1) start.requires.queue_len.2

pub meet_row-count-requires : goal.meet_row-count-requires
meet_row-count-requires c =
    let start = c in
    let t = c.loop-head.invariant in
    record {
      whole_table = rw t.long_layers (whole (goal.at.meet_row-count-requires c).Start);
      queue_len = (t.long_queue ∙ sym t.long_layers, c.loop-head-test.true);
      stored_turn = rows-turn-stored (whole (goal.at.meet_row-count-requires c).Start).few_rows t;
    }

pub overflow_add-head : goal.overflow_add-head
overflow_add-head c = omega (arith, queue_most c.loop-head.invariant.turn.is_queue, (whole (goal.at.overflow_add-head c).Start).few_rows)

pub loop-head-smaller : goal.loop-head-smaller
loop-head-smaller c = omega (arith, queue_most c.loop-head.invariant.turn.is_queue)

pub loop-head-preserved : goal.loop-head-preserved
loop-head-preserved c = rows_turn_next (whole (goal.at.loop-head-preserved c).Start).few_rows c.loop-head.invariant c.meet_row-count.auto.layers c.meet_row-count.auto.queue c.meet_row-count.ensures

pub returns : goal.returns
returns c = rows_turn_end (whole (goal.at.returns c).Start).few_rows c.loop-head.invariant c.loop-head-test.false
