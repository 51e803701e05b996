-- `course::load_row` meets its contract: the costs behind the letters before `letter` are stored (`LoadsRow`).
use mathlib.Core.Path.{◌≡◌, subst}
use Prim.Native.Nat.{ℕ, ◌+◌, ◌*◌, ◌≤◌, ◌<◌}
use native.Mathlib.Omega.{arith}
use lib.ListN.{length}
use Rattle.basics.proofs.Lists.{row_fits}
use Rattle.automaton.proofs.WellFormed.{place_inside, whole-entries, some-row-entry}
use Rattle.course.specs.Costs.{Layered, layered_in, LoadsRow}
use Rattle.course.proofs.Rows.{load_start, load_next}
use Rattle.course.proofs.load_row.Goals as goal

pub overflow_mul-start : goal.overflow_mul-start
overflow_mul-start c =
    let row_inside : c.args.row * c.args.letters + c.args.letters ≤ length c.args.costs.now = row_fits c.args.row (length c.args.layers.now) c.args.letters (length c.args.costs.now) c.requires.finals_len.2 c.requires.finals_len.1 in
    omega (arith, row_inside)

pub bounds-layers-row : goal.bounds-layers-row
bounds-layers-row c = c.requires.finals_len.2

pub overflow_add-next : goal.overflow_add-next
overflow_add-next c = omega (arith, c.requires.finals_len.3)

pub loop-letter-init : goal.loop-letter-init
loop-letter-init c =
    let table : Layered = let a = c.args in layered_in a.letters a.entries.now a.finals.now a.layers.now a.goal in
    let start = c in (omega arith, load_start (table) start.args.row start.args.costs.now)

pub overflow_add-entry : goal.overflow_add-entry
overflow_add-entry c =
    let entry_place : let a = c.args in a.row * a.letters + c.loop-letter.letter < length a.entries.now = (let start = c in
    place_inside start.requires.whole_table start.args.row c.loop-letter.letter start.requires.finals_len.2 c.loop-letter-test.true) in
    omega (arith, entry_place)

pub offset_bounds-entries-start : goal.offset_bounds-entries-start
offset_bounds-entries-start c =
    let entry_place : let a = c.args in a.row * a.letters + c.loop-letter.letter < length a.entries.now = (let start = c in
    place_inside start.requires.whole_table start.args.row c.loop-letter.letter start.requires.finals_len.2 c.loop-letter-test.true) in
    omega (arith, entry_place)

pub bounds-entries-start : goal.bounds-entries-start
bounds-entries-start c =
    let entry_place : let a = c.args in a.row * a.letters + c.loop-letter.letter < length a.entries.now = (let start = c in
    place_inside start.requires.whole_table start.args.row c.loop-letter.letter start.requires.finals_len.2 c.loop-letter-test.true) in
    entry_place

pub cost_behind-requires : goal.cost_behind-requires
cost_behind-requires c =
    let start = c in
    let turn = c.loop-letter in
    record {
      entry_fits = some-row-entry (whole-entries start.requires.whole_table) start.args.row turn.letter start.requires.finals_len.2 c.loop-letter-test.true;
      finals_len = (start.requires.finals_len.0, omega (arith, start.requires.finals_len.1, turn.invariant.1.same_length), c.loop-letter-test.true);
    }

pub overflow_add-costs : goal.overflow_add-costs
overflow_add-costs c =
    let row_inside : c.args.row * c.args.letters + c.args.letters ≤ length c.args.costs.now = row_fits c.args.row (length c.args.layers.now) c.args.letters (length c.args.costs.now) c.requires.finals_len.2 c.requires.finals_len.1 in
    let place : let a = c.args in a.row * a.letters + c.loop-letter.letter < length c.loop-letter.costs = omega (arith, row_inside, c.loop-letter.invariant.1.same_length) in
    omega (arith, place)

pub offset_bounds-costs-start : goal.offset_bounds-costs-start
offset_bounds-costs-start c =
    let row_inside : c.args.row * c.args.letters + c.args.letters ≤ length c.args.costs.now = row_fits c.args.row (length c.args.layers.now) c.args.letters (length c.args.costs.now) c.requires.finals_len.2 c.requires.finals_len.1 in
    let place : let a = c.args in a.row * a.letters + c.loop-letter.letter < length c.loop-letter.costs = omega (arith, row_inside, c.loop-letter.invariant.1.same_length) in
    omega (arith, place)

pub bounds-costs-start : goal.bounds-costs-start
bounds-costs-start c =
    let row_inside : c.args.row * c.args.letters + c.args.letters ≤ length c.args.costs.now = row_fits c.args.row (length c.args.layers.now) c.args.letters (length c.args.costs.now) c.requires.finals_len.2 c.requires.finals_len.1 in
    let place : let a = c.args in a.row * a.letters + c.loop-letter.letter < length c.loop-letter.costs = omega (arith, row_inside, c.loop-letter.invariant.1.same_length) in
    place

pub loop-letter-preserved : goal.loop-letter-preserved
loop-letter-preserved c =
    let table : Layered = let a = c.args in layered_in a.letters a.entries.now a.finals.now a.layers.now a.goal in
    let row_inside : c.args.row * c.args.letters + c.args.letters ≤ length c.args.costs.now = row_fits c.args.row (length c.args.layers.now) c.args.letters (length c.args.costs.now) c.requires.finals_len.2 c.requires.finals_len.1 in
    let place : let a = c.args in a.row * a.letters + c.loop-letter.letter < length c.loop-letter.costs = omega (arith, row_inside, c.loop-letter.invariant.1.same_length) in
    let start = c in
    let turn = c.loop-letter in
    (omega arith, load_next (table) start.args.row c.loop-letter-test.true (place) turn.invariant.1 (c.cost_behind.ensures start.args.entries.now))

pub returns : goal.returns
returns c =
    let table : Layered = let a = c.args in layered_in a.letters a.entries.now a.finals.now a.layers.now a.goal in
    let start = c in
    let end : c.loop-letter.letter ≡ start.args.letters = omega arith in
    subst (λ (m : ℕ). LoadsRow (table) start.args.row m start.args.costs.now c.loop-letter.costs) end c.loop-letter.invariant.1
