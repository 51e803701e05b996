-- `carry::carry_row` meets its contract: in the row at the head, before each letter, the turn of the queue holds (`RowTurn`).
use Prim.Native.Nat.{ℕ, ◌+◌, ◌*◌, ◌≤◌, ◌<◌}
use native.Mathlib.Omega.{arith}
use lib.ListN.{length}
use Rattle.basics.specs.Lists.{at}
use Rattle.basics.proofs.Lists.{row_fits}
use Rattle.automaton.specs.WellFormed.{most_rows}
use Rattle.automaton.proofs.WellFormed.{place_inside, whole-entries}
use Rattle.carry.specs.Queue.{HasState, stops}
use Rattle.carry.proofs.Queue.{queue_most, state-row}
use Rattle.carry.proofs.Rows.{row-turn-start, row_turn_place, row_turn_next, row_turn_lacks, row-turn-end}
use Rattle.carry.proofs.carry_row.Goals as goal
use Rattle.carry.proofs.carry_row.Goals.{Start}

-- the row at the head has a state
held : (start : Start) → HasState (length start.args.states.now) (at start.args.states.now) (at start.args.queue.now start.args.head)
held start = start.requires.stored_carry_turn.held start.args.head start.requires.by_index.2

-- the queue has room for all rows, of which there are few
small : (start : Start) → (start.args.head < length start.args.queue.now) × (length start.args.states.now ≤ most_rows)
small start = (omega (arith, queue_most start.requires.stored_carry_turn, start.requires.whole_table.few_rows, start.requires.by_index.1, start.requires.by_index.2), start.requires.whole_table.few_rows)

-- the row's state is a row of the new table
state-inside : (start : Start) → at start.args.states.now (at start.args.queue.now start.args.head) < start.requires.by_index.0.0
state-inside start =
    let new = start.requires.by_index.0.1 in
    state-row start.requires.stored_carry_turn (whole-entries new) new.some_row (at start.args.queue.now start.args.head) (held start)

-- where the rows' entries stand
row-part : (start : Start) → at start.args.queue.now start.args.head * start.args.letters + start.args.letters ≤ length start.args.entries.now
row-part start =
    row_fits (at start.args.queue.now start.args.head) (length start.args.states.now) start.args.letters (length start.args.entries.now) (held start).is_row
    (omega (arith, start.requires.whole_table.whole_rows))

new-part : (start : Start)
    → at start.args.states.now (at start.args.queue.now start.args.head) * start.args.letters + start.args.letters ≤ length start.args.new_entries.now
new-part start =
    row_fits (at start.args.states.now (at start.args.queue.now start.args.head)) start.requires.by_index.0.0 start.args.letters (length start.args.new_entries.now)
    (state-inside start) (omega (arith, start.requires.by_index.0.1.whole_rows))

place : (start : Start) (letter : ℕ) → letter < start.args.letters
    → at start.args.queue.now start.args.head * start.args.letters + letter < length start.args.entries.now
place start letter h = place_inside start.requires.whole_table (at start.args.queue.now start.args.head) letter (held start).is_row h

new_place : (start : Start) (letter : ℕ) → letter < start.args.letters
    → at start.args.states.now (at start.args.queue.now start.args.head) * start.args.letters + letter < length start.args.new_entries.now
new_place start letter h = place_inside start.requires.by_index.0.1 (at start.args.states.now (at start.args.queue.now start.args.head)) letter (state-inside start) h

pub offset_bounds-queue-head : goal.offset_bounds-queue-head
offset_bounds-queue-head c = omega (arith, small (goal.at.offset_bounds-queue-head c).Start)

pub bounds-queue-head : goal.bounds-queue-head
bounds-queue-head c = (small (goal.at.bounds-queue-head c).Start).0

pub overflow_cast-row : goal.overflow_cast-row
overflow_cast-row c = omega (arith, small (goal.at.overflow_cast-row c).Start, (held (goal.at.overflow_cast-row c).Start).is_row)

pub overflow_mul-start : goal.overflow_mul-start
overflow_mul-start c = omega (arith, row-part (goal.at.overflow_mul-start c).Start)

pub offset_bounds-states-row : goal.offset_bounds-states-row
offset_bounds-states-row c = omega (arith, small (goal.at.offset_bounds-states-row c).Start, (held (goal.at.offset_bounds-states-row c).Start).is_row)

pub bounds-states-row : goal.bounds-states-row
bounds-states-row c = (held (goal.at.bounds-states-row c).Start).is_row

pub overflow_cast-new_start : goal.overflow_cast-new_start
overflow_cast-new_start c = omega (arith, state-inside (goal.at.overflow_cast-new_start c).Start, c.requires.by_index.0.1.few_rows)

pub overflow_mul-new_start : goal.overflow_mul-new_start
overflow_mul-new_start c = omega (arith, new-part (goal.at.overflow_mul-new_start c).Start)

pub loop-letter-init : goal.loop-letter-init
loop-letter-init c = row-turn-start c.requires.by_index.2 c.requires.stored_carry_turn

pub overflow_add-start : goal.overflow_add-start
overflow_add-start c = omega (arith, place (goal.at.overflow_add-start c).Start c.loop-letter.letter c.loop-letter-test.true)

pub offset_bounds-entries-start : goal.offset_bounds-entries-start
offset_bounds-entries-start c = omega (arith, place (goal.at.offset_bounds-entries-start c).Start c.loop-letter.letter c.loop-letter-test.true)

pub bounds-entries-start : goal.bounds-entries-start
bounds-entries-start c = place (goal.at.bounds-entries-start c).Start c.loop-letter.letter c.loop-letter-test.true

pub overflow_add-new_start : goal.overflow_add-new_start
overflow_add-new_start c = omega (arith, new_place (goal.at.overflow_add-new_start c).Start c.loop-letter.letter c.loop-letter-test.true)

pub offset_bounds-new_entries-new_start : goal.offset_bounds-new_entries-new_start
offset_bounds-new_entries-new_start c = omega (arith, new_place (goal.at.offset_bounds-new_entries-new_start c).Start c.loop-letter.letter c.loop-letter-test.true)

pub bounds-new_entries-new_start : goal.bounds-new_entries-new_start
bounds-new_entries-new_start c = new_place (goal.at.bounds-new_entries-new_start c).Start c.loop-letter.letter c.loop-letter-test.true

pub carry_entry-requires : goal.carry_entry-requires
carry_entry-requires c = row_turn_place c.requires.whole_table c.requires.by_index.1 c.loop-letter.invariant c.loop-letter-test.true

pub returns-in_err-met : goal.returns-in_err-met
returns-in_err-met c =
    rw c.from_residual.ensures (stops (row_turn_lacks c.requires.whole_table c.requires.by_index.1 c.loop-letter.invariant c.loop-letter-test.true c.in_err-met.ensures))

pub loop-letter-preserved : goal.loop-letter-preserved
loop-letter-preserved c = row_turn_next c.requires.whole_table c.requires.by_index.1 c.loop-letter.invariant c.loop-letter-test.true c.in_ok-met.ensures

pub returns : goal.returns
returns c = row-turn-end c.loop-letter-test.false c.loop-letter.invariant
