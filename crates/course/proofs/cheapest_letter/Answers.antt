-- `course::cheapest_letter` meets its contract: `least` is the least total of the letters before `letter`, and `best` the first of them that has it
-- (`IsFirstLeast`).
use mathlib.Core.Path.{◌≡◌, sym, ap, ◌∙◌, subst}
use mathlib.Core.Logic.{◌≢◌}
use Prim.Native.Nat.{ℕ, ◌+◌, ◌*◌, ◌<◌}
use native.Mathlib.Omega.{arith}
use lib.ListN.{length}
use Rattle.basics.specs.Lists.{at}
use Rattle.basics.proofs.Lists.{row_fits}
use Rattle.automaton.proofs.WellFormed.{place_inside, whole-entries, some-row-entry}
use Rattle.course_tests.specs.Cost.{no_course, total_cost}
use Rattle.course.specs.Costs.{Layered, layered_in, behind}
use Rattle.course.proofs.Cheapest.{total-small, IsFirstLeast, least_start, least-lower, least_kept, least-end}
use Rattle.course.proofs.cheapest_letter.Goals as goal
use Rattle.course.proofs.cheapest_letter.Goals.{then-total-least, else-total-least}

pub overflow_mul-start : goal.overflow_mul-start
overflow_mul-start c =
    let start = c in
    omega (arith, row_fits start.args.row (length start.args.layers.now) start.args.letters (length start.args.costs.now) start.requires.finals_len.2 start.requires.finals_len.1)

pub bounds-layers-row : goal.bounds-layers-row
bounds-layers-row c = c.requires.finals_len.2

pub overflow_add-next : goal.overflow_add-next
overflow_add-next c = omega (arith, c.requires.finals_len.3)

pub loop-letter-init : goal.loop-letter-init
loop-letter-init c =
    let table : Layered = let a = c.args in layered_in a.letters a.entries.now a.finals.now a.layers.now a.goal in
    let start = c in (omega arith, least_start (table) start.args.costs.now (at start.args.changes.now) start.args.row)

pub overflow_add-entry : goal.overflow_add-entry
overflow_add-entry c =
    let place : let a = c.args in a.row * a.letters + c.loop-letter.letter < length a.entries.now = (let start = c in
    place_inside start.requires.whole_table start.args.row c.loop-letter.letter start.requires.finals_len.2 c.loop-letter-test.true) in
    omega (arith, place)

pub offset_bounds-entries-start : goal.offset_bounds-entries-start
offset_bounds-entries-start c =
    let place : let a = c.args in a.row * a.letters + c.loop-letter.letter < length a.entries.now = (let start = c in
    place_inside start.requires.whole_table start.args.row c.loop-letter.letter start.requires.finals_len.2 c.loop-letter-test.true) in
    omega (arith, place)

pub bounds-entries-start : goal.bounds-entries-start
bounds-entries-start c =
    let place : let a = c.args in a.row * a.letters + c.loop-letter.letter < length a.entries.now = (let start = c in
    place_inside start.requires.whole_table start.args.row c.loop-letter.letter start.requires.finals_len.2 c.loop-letter-test.true) in
    place

pub cost_behind-cost-requires : goal.cost_behind-cost-requires
cost_behind-cost-requires c =
    let start = c in
    let taken = c.loop-letter-test.true in
    record { entry_fits = some-row-entry (whole-entries start.requires.whole_table) start.args.row c.loop-letter.letter start.requires.finals_len.2 taken; finals_len = (start.requires.finals_len.0, start.requires.finals_len.1, taken) }

pub offset_bounds-changes-letter : goal.offset_bounds-changes-letter
offset_bounds-changes-letter c = omega (arith, c.requires.finals_len.4)

pub bounds-changes-letter : goal.bounds-changes-letter
bounds-changes-letter c = omega (arith, c.requires.finals_len.4)

pub loop-letter-preserved : goal.loop-letter-preserved
loop-letter-preserved c =
    let table : Layered = let a = c.args in layered_in a.letters a.entries.now a.finals.now a.layers.now a.goal in
    let up = c in
    let start = up in
    let a = start.args in
    let t = table in
    let first = at a.changes.now in
    let turn = up.loop-letter in
    let cost = up.cost_behind-cost.ensures a.entries.now in
    let total : c.total_cost-total.result ≡ total_cost (first turn.letter) (behind t a.costs.now a.row turn.letter) =
    c.total_cost-total.ensures ∙ ap (total_cost (first turn.letter)) cost in
    let small : behind t a.costs.now a.row turn.letter ≢ no_course → total_cost (first turn.letter) (behind t a.costs.now a.row turn.letter) < 131072 =
    λ ne. total-small (first turn.letter) (behind t a.costs.now a.row turn.letter) (omega (arith, c.type_inv.changes turn.letter)) (omega (arith, cost, up.cost_behind-cost.type_inv)) ne in (
      omega arith,
      elim c.if-total-least.branch [
        | then-total-least w ↦ subst (λ (n : ℕ). IsFirstLeast t a.costs.now first a.row (turn.letter + 1) n c.if-total-least.least) (sym w.best-is) (subst (λ (n : ℕ). IsFirstLeast t a.costs.now first a.row (turn.letter + 1) turn.letter n) (sym (w.least-is ∙ total))
            (least-lower t a.costs.now first a.row turn.invariant.1 small (omega (arith, total, w.if-total-least.true))))
        | else-total-least w ↦ subst (λ (n : ℕ). IsFirstLeast t a.costs.now first a.row (turn.letter + 1) n c.if-total-least.least) (sym w.best-is) (subst (λ (n : ℕ). IsFirstLeast t a.costs.now first a.row (turn.letter + 1) turn.best n) (sym w.least-is)
            (least_kept t a.costs.now first a.row turn.invariant.1 small (omega (arith, total, w.if-total-least.false))))
      ],
    )

pub returns : goal.returns
returns c =
    let table : Layered = let a = c.args in layered_in a.letters a.entries.now a.finals.now a.layers.now a.goal in
    let start = c in
    let a = start.args in
    let end : c.loop-letter.letter ≡ a.letters = omega arith in
    least-end (table) a.costs.now (at a.changes.now) a.row
    (subst (λ (m : ℕ). IsFirstLeast (table) a.costs.now (at a.changes.now) a.row m c.loop-letter.best c.loop-letter.least) end c.loop-letter.invariant.1)
