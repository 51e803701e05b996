-- `course::meet_row` meets its contract: in the row at the head, before each letter, the turn of the queue holds (`RowTurn`).
use Prim.Native.Nat.{ℕ, ◌+◌, ◌*◌, ◌≤◌, ◌<◌}
use native.Mathlib.Omega.{arith}
use lib.ListN.{length}
use Rattle.basics.specs.Lists.{at}
use Rattle.basics.proofs.Lists.{row_fits}
use Rattle.automaton.specs.WellFormed.{most_rows}
use Rattle.automaton.proofs.WellFormed.{place_inside}
use Rattle.course.proofs.Queue.{queue_most}
use Rattle.course.proofs.Meeting.{row-turn-start, row_turn_room, row_turn_next, row-turn-end}
use Rattle.course.proofs.meet_row.Goals as goal
use Rattle.course.proofs.meet_row.Goals.{Start}

-- the row at the head is a row of the table, and its layer is small
head-inside : (start : Start) → at start.args.queue.now start.args.head < length start.args.layers.now
head-inside start = start.requires.stored_turn.is_queue.rows start.args.head start.requires.queue_len.1

-- the queue is no longer than the rows, of which there are few
small : (start : Start) → (start.args.head < length start.args.queue.now) × (length start.args.layers.now ≤ most_rows)
small start = (omega (arith, queue_most start.requires.stored_turn.is_queue, start.requires.queue_len.0, start.requires.queue_len.1), start.requires.whole_table.few_rows)

head_layer : (start : Start) → at start.args.layers.now (at start.args.queue.now start.args.head) ≤ start.args.head
head_layer start = start.requires.stored_turn.is_queue.small start.args.head start.requires.queue_len.1

-- the place of the letter's entry
place : (start : Start) (letter : ℕ) → letter < start.args.letters
    → at start.args.queue.now start.args.head * start.args.letters + letter < length start.args.entries.now
place start letter h = place_inside start.requires.whole_table (at start.args.queue.now start.args.head) letter (head-inside start) h

pub offset_bounds-queue-head : goal.offset_bounds-queue-head
offset_bounds-queue-head c = omega (arith, small (goal.at.offset_bounds-queue-head c).Start)

pub bounds-queue-head : goal.bounds-queue-head
bounds-queue-head c = (small (goal.at.bounds-queue-head c).Start).0

pub overflow_cast-row : goal.overflow_cast-row
overflow_cast-row c = omega (arith, small (goal.at.overflow_cast-row c).Start, head-inside (goal.at.overflow_cast-row c).Start)

pub overflow_mul-start : goal.overflow_mul-start
overflow_mul-start c =
    let start = c in
    omega (arith, row_fits (at start.args.queue.now start.args.head) (length start.args.layers.now) start.args.letters (length start.args.entries.now) (head-inside (goal.at.overflow_mul-start c).Start) (omega (arith, start.requires.whole_table.whole_rows)))

pub offset_bounds-layers-row : goal.offset_bounds-layers-row
offset_bounds-layers-row c = omega (arith, small (goal.at.offset_bounds-layers-row c).Start, head-inside (goal.at.offset_bounds-layers-row c).Start)

pub bounds-layers-row : goal.bounds-layers-row
bounds-layers-row c = head-inside (goal.at.bounds-layers-row c).Start

pub overflow_add-next : goal.overflow_add-next
overflow_add-next c = let start = c in omega (arith, small (goal.at.overflow_add-next c).Start, head_layer (goal.at.overflow_add-next c).Start, start.requires.queue_len.0)

pub loop-letter-init : goal.loop-letter-init
loop-letter-init c = let start = c in row-turn-start start.requires.queue_len.1 start.requires.stored_turn

pub overflow_add-start : goal.overflow_add-start
overflow_add-start c = omega (arith, place (goal.at.overflow_add-start c).Start c.loop-letter.letter c.loop-letter-test.true)

pub offset_bounds-entries-start : goal.offset_bounds-entries-start
offset_bounds-entries-start c = omega (arith, place (goal.at.offset_bounds-entries-start c).Start c.loop-letter.letter c.loop-letter-test.true)

pub bounds-entries-start : goal.bounds-entries-start
bounds-entries-start c = place (goal.at.bounds-entries-start c).Start c.loop-letter.letter c.loop-letter-test.true

pub meet-met-requires : goal.meet-met-requires
meet-met-requires c = let start = c in row_turn_room start.requires.whole_table start.requires.queue_len.0 c.loop-letter.invariant c.loop-letter-test.true

pub loop-letter-preserved : goal.loop-letter-preserved
loop-letter-preserved c =
    let start = c in
    row_turn_next start.requires.whole_table start.requires.queue_len.0 c.loop-letter.invariant c.loop-letter-test.true c.meet-met.ensures

pub returns : goal.returns
returns c = row-turn-end c.loop-letter-test.false c.loop-letter.invariant
