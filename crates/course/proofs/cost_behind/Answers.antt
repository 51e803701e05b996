-- `course::cost_behind` meets its contract: the tests are those of the definition.
use mathlib.Core.Path.{sym, ◌∙◌}
use Prim.Native.Nat.{◌+◌, ◌*◌, ◌<◌}
use native.Mathlib.Omega.{arith}
use lib.ListN.{length}
use Rattle.basics.proofs.Lists.{row_fits}
use Rattle.course.specs.Costs.{layered_in}
use Rattle.course.proofs.Costs.{behind-missing, behind_aside, behind-next, cost_stored, cost_final, cost_other}
use Rattle.course.proofs.cost_behind.Goals as goal

pub returns-then-entry-eq-NO_STATE : goal.returns-then-entry-eq-NO_STATE
returns-then-entry-eq-NO_STATE c entries = let a = c.args in sym (behind-missing (layered_in c.args.letters entries c.args.finals.now c.args.layers.now c.args.goal) a.costs.now a.next a.entry a.letter c.if-entry-eq-NO_STATE.true)

pub bounds-layers-row : goal.bounds-layers-row
bounds-layers-row c = c.requires.entry_fits c.if-entry-eq-NO_STATE.false

pub returns-then-layers-row : goal.returns-then-layers-row
returns-then-layers-row c entries =
    let a = c.args in
    sym (behind_aside (layered_in c.args.letters entries c.args.finals.now c.args.layers.now c.args.goal) a.costs.now a.next a.entry a.letter c.if-entry-eq-NO_STATE.false c.if-layers-row.true)

pub overflow_mul-result : goal.overflow_mul-result
overflow_mul-result c =
    let place : let a = c.args in a.entry * a.letters + a.letter < length a.costs.now = (let start = c in
    let fits = row_fits start.args.entry (length start.args.layers.now) start.args.letters (length start.args.costs.now) (start.requires.entry_fits c.if-entry-eq-NO_STATE.false) start.requires.finals_len.1 in
    omega (arith, fits, start.requires.finals_len.2)) in
    omega (arith, place)

pub overflow_add-result : goal.overflow_add-result
overflow_add-result c =
    let place : let a = c.args in a.entry * a.letters + a.letter < length a.costs.now = (let start = c in
    let fits = row_fits start.args.entry (length start.args.layers.now) start.args.letters (length start.args.costs.now) (start.requires.entry_fits c.if-entry-eq-NO_STATE.false) start.requires.finals_len.1 in
    omega (arith, fits, start.requires.finals_len.2)) in
    omega (arith, place)

pub offset_bounds-costs-row : goal.offset_bounds-costs-row
offset_bounds-costs-row c =
    let place : let a = c.args in a.entry * a.letters + a.letter < length a.costs.now = (let start = c in
    let fits = row_fits start.args.entry (length start.args.layers.now) start.args.letters (length start.args.costs.now) (start.requires.entry_fits c.if-entry-eq-NO_STATE.false) start.requires.finals_len.1 in
    omega (arith, fits, start.requires.finals_len.2)) in
    omega (arith, place)

pub bounds-costs-row : goal.bounds-costs-row
bounds-costs-row c =
    let place : let a = c.args in a.entry * a.letters + a.letter < length a.costs.now = (let start = c in
    let fits = row_fits start.args.entry (length start.args.layers.now) start.args.letters (length start.args.costs.now) (start.requires.entry_fits c.if-entry-eq-NO_STATE.false) start.requires.finals_len.1 in
    omega (arith, fits, start.requires.finals_len.2)) in
    place

pub returns-then-next-goal : goal.returns-then-next-goal
returns-then-next-goal c entries =
    let start = c in
    let a = start.args in
    let t = layered_in c.args.letters entries c.args.finals.now c.args.layers.now c.args.goal in
    let in-next = c.if-layers-row.false in
    sym (behind-next t a.costs.now a.next a.entry a.letter c.if-entry-eq-NO_STATE.false in-next ∙ cost_stored t a.costs.now a.entry a.letter (λ e. c.if-next-goal.true (sym in-next ∙ e)))

pub bounds-finals-row : goal.bounds-finals-row
bounds-finals-row c = let start = c in omega (arith, start.requires.entry_fits c.if-entry-eq-NO_STATE.false, start.requires.finals_len.0)

pub returns-then-finals-row-eq1 : goal.returns-then-finals-row-eq1
returns-then-finals-row-eq1 c entries =
    let start = c in
    let a = start.args in
    let t = layered_in c.args.letters entries c.args.finals.now c.args.layers.now c.args.goal in
    let in-next = c.if-layers-row.false in
    sym (behind-next t a.costs.now a.next a.entry a.letter c.if-entry-eq-NO_STATE.false in-next ∙ cost_final t a.costs.now a.entry a.letter (in-next ∙ c.if-next-goal.false) c.if-finals-row-eq1.true)

pub returns-else-finals-row-eq1 : goal.returns-else-finals-row-eq1
returns-else-finals-row-eq1 c entries =
    let start = c in
    let a = start.args in
    let t = layered_in c.args.letters entries c.args.finals.now c.args.layers.now c.args.goal in
    let in-next = c.if-layers-row.false in
    sym (behind-next t a.costs.now a.next a.entry a.letter c.if-entry-eq-NO_STATE.false in-next ∙ cost_other t a.costs.now a.entry a.letter (in-next ∙ c.if-next-goal.false) c.if-finals-row-eq1.false)
