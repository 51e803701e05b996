-- `carry::carry_rows` meets its contract: before each row the turn of the queue holds.
use mathlib.Core.Path.{refl, sym, ◌∙◌}
use native.Mathlib.Omega.{arith}
use lib.ListN.{length, set, replicate, length-set}
use Rattle.basics.proofs.Clearing.{zeros}
use Rattle.automaton.specs.WellFormed.{most_rows, WholeTable}
use Rattle.carry.proofs.Queue.{queue_most}
use Rattle.carry.proofs.Rows.{rows_turn_start, rows_turn_next, rows_turn_end, rows_turn_stopped}
use Rattle.carry.proofs.carry_rows.Goals as goal
use Rattle.carry.proofs.carry_rows.Goals.{Start}

-- the table is whole for as many rows as there are states
whole : (start : Start) → WholeTable start.args.letters (length (set start.args.states.now 0 0)) start.args.entries.now
whole start = rw length-set start.requires.whole_table

pub bounds-states-0 : goal.bounds-states-0
bounds-states-0 c = c.requires.whole_table.some_row

pub loop-head-init : goal.loop-head-init
loop-head-init c =
    let start = c in
    let states = start.args.states.now in
    let same = length-set states 0 0 in
    (refl, refl, rows_turn_start _ _ start.args.entries.now start.args.new_entries.now states (replicate most_rows 0) (sym same) (omega (arith, same, start.requires.whole_table.some_row)) start.requires.by_index.1 (zeros most_rows 0))

pub slice_bounds-carry_row-end : goal.slice_bounds-carry_row-end
slice_bounds-carry_row-end c = sym c.loop-head.invariant.1

pub carry_row-carried-requires : goal.carry_row-carried-requires
carry_row-carried-requires c =
    let start = c in
    let inv = c.loop-head.invariant in
    record {
      whole_table = rw inv.0 (whole (goal.at.carry_row-carried-requires c).Start);
      by_index = (start.requires.by_index.0, inv.1, c.loop-head-test.true);
      stored_carry_turn = rw inv.0 inv.2;
    }

pub overflow_add-head : goal.overflow_add-head
overflow_add-head c = omega (arith, queue_most c.loop-head.invariant.2, c.loop-head-test.true, (whole (goal.at.overflow_add-head c).Start).few_rows)

pub loop-head-smaller : goal.loop-head-smaller
loop-head-smaller c = omega (arith, queue_most c.loop-head.invariant.2, c.loop-head-test.true)

pub loop-head-preserved : goal.loop-head-preserved
loop-head-preserved c =
    let row = c.carry_row-carried in
    let inv = c.loop-head.invariant in
    (row.auto.states ∙ inv.0, row.auto.queue ∙ inv.1, rows_turn_next _ _ _ _ (row.auto.states ∙ inv.0) c.in-Some.ensures)

pub returns : goal.returns
returns c = rows_turn_end _ _ c.args.entries.now c.args.new_entries.now _ c.loop-head.queue c.loop-head.invariant.0 (whole (goal.at.returns c).Start).some_row c.loop-head-test.false c.loop-head.invariant.2

pub returns-in_default : goal.returns-in_default
returns-in_default c = rows_turn_stopped c.in_default.ensures
