-- `course::meet` meets its contract: an entry leads to no row, to one that is met, or to a new one.
use Rattle.course.specs.Queue.{EntryMet.added}
use Rattle.course.specs.Queue.{EntryMet.kept}
use mathlib.Core.Path.{refl}
use native.Mathlib.Omega.{arith}
use Rattle.course.proofs.meet.Goals as goal

pub returns-then-entry-eq-NO_STATE : goal.returns-then-entry-eq-NO_STATE
returns-then-entry-eq-NO_STATE c = kept (λ some. absurd (some c.if-entry-eq-NO_STATE.true)) refl refl refl

pub bounds-layers-row : goal.bounds-layers-row
bounds-layers-row c = c.requires.fits c.if-entry-eq-NO_STATE.false

pub returns-then-layers-row : goal.returns-then-layers-row
returns-then-layers-row c = kept (λ some. c.if-layers-row.true) refl refl refl

pub bounds-layers-row-2 : goal.bounds-layers-row-2
bounds-layers-row-2 c = c.requires.fits c.if-entry-eq-NO_STATE.false

pub offset_bounds-queue-count : goal.offset_bounds-queue-count
offset_bounds-queue-count c = omega (arith, c.requires.room c.if-entry-eq-NO_STATE.false c.if-layers-row.false)

pub bounds-queue-count : goal.bounds-queue-count
bounds-queue-count c = c.requires.room c.if-entry-eq-NO_STATE.false c.if-layers-row.false

pub overflow_add-result : goal.overflow_add-result
overflow_add-result c = omega (arith, c.requires.room c.if-entry-eq-NO_STATE.false c.if-layers-row.false)

pub returns : goal.returns
returns c = added c.if-entry-eq-NO_STATE.false c.if-layers-row.false refl refl refl
