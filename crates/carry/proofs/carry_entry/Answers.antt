-- `carry::carry_entry` meets its contract: an entry leads to no row, to one that has its state, to one without, or to one that cannot have it.
use mathlib.Core.Path.{refl}
use mathlib.Core.Logic.{inl, inr}
use native.Mathlib.Omega.{arith}
use Rattle.carry.specs.Queue.{missing, kept, added, differs}
use Rattle.carry.proofs.carry_entry.Goals as goal

pub returns-then-entry-eq-NO_STATE : goal.returns-then-entry-eq-NO_STATE
returns-then-entry-eq-NO_STATE c = missing c.if-entry-eq-NO_STATE.true refl refl refl

pub returns-then-state-eq-NO_STATE : goal.returns-then-state-eq-NO_STATE
returns-then-state-eq-NO_STATE c = differs c.if-entry-eq-NO_STATE.false (inl c.if-state-eq-NO_STATE.true) refl

pub bounds-states-row : goal.bounds-states-row
bounds-states-row c = c.requires.is_row c.if-entry-eq-NO_STATE.false

pub bounds-states-row-then-states-row : goal.bounds-states-row-then-states-row
bounds-states-row-then-states-row c = c.requires.is_row c.if-entry-eq-NO_STATE.false

pub offset_bounds-queue-count : goal.offset_bounds-queue-count
offset_bounds-queue-count c = omega (arith, c.requires.place c.if-entry-eq-NO_STATE.false c.if-states-row.true)

pub bounds-queue-count : goal.bounds-queue-count
bounds-queue-count c = c.requires.place c.if-entry-eq-NO_STATE.false c.if-states-row.true

pub overflow_add-result : goal.overflow_add-result
overflow_add-result c = omega (arith, c.requires.place c.if-entry-eq-NO_STATE.false c.if-states-row.true)

pub returns-then-states-row : goal.returns-then-states-row
returns-then-states-row c = added c.if-entry-eq-NO_STATE.false c.if-state-eq-NO_STATE.false c.if-states-row.true refl refl refl

pub bounds-states-row-2 : goal.bounds-states-row-2
bounds-states-row-2 c = c.requires.is_row c.if-entry-eq-NO_STATE.false

pub returns-then-states-row-2 : goal.returns-then-states-row-2
returns-then-states-row-2 c = kept c.if-entry-eq-NO_STATE.false c.if-state-eq-NO_STATE.false c.if-states-row-2.true refl refl refl

pub returns-else-states-row-2 : goal.returns-else-states-row-2
returns-else-states-row-2 c = differs c.if-entry-eq-NO_STATE.false (inr (c.if-states-row.false, c.if-states-row-2.false)) refl
