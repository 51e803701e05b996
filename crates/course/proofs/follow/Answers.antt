-- `course::follow` meets its contract: before each turn the letters so far are written (`Following`).
use mathlib.Core.Path.{◌≡◌, sym, ap, ◌∙◌}
use Prim.Native.Nat.{◌+◌, ◌*◌, ◌<◌}
use native.Mathlib.Omega.{arith}
use lib.ListN.{length, length-replicate}
use Rattle.basics.specs.Lists.{at}
use Rattle.automaton.specs.Layers.{IsFirstCheapest}
use Rattle.automaton.proofs.WellFormed.{place_inside}
use Rattle.course_tests.specs.Cost.{no_course}
use Rattle.course.specs.Costs.{Layered, layered_in, cost_at}
use Rattle.course.proofs.Following.{following_start, following_length, following_first, following_next, following_end}
use Rattle.course.proofs.follow.Goals as goal

pub loop-taken-init : goal.loop-taken-init
loop-taken-init c =
    let start = c in
    let zero = start.requires.finals_len.6 in
    let some : 0 < start.args.letters = let ne = start.requires.whole_table.some_letter in omega arith in
    (omega arith, ap length zero ∙ length-replicate start.args.letters 0, following_start start.requires.are_known start.requires.layers start.requires.goal some zero)

pub cheapest_letter-letter-requires : goal.cheapest_letter-letter-requires
cheapest_letter-letter-requires c =
    let start = c in
    let sizes = start.requires.finals_len in
    let turn = c.loop-taken in
    record { whole_table = start.requires.whole_table; finals_len = (sizes.0, sizes.1, turn.invariant.2.met.is_row, omega (arith, turn.invariant.2.in_layer, turn.invariant.0, sizes.3), turn.invariant.1) }

pub overflow_cast-list : goal.overflow_cast-list
overflow_cast-list c =
    let table : Layered = let a = c.args in layered_in a.letters a.entries.now a.finals.now a.layers.now a.goal in
    let first : let start = c in
    IsFirstCheapest start.args.letters (table).entry (table).layer no_course (cost_at (table) start.args.costs.now) (at c.loop-taken.changes) c.loop-taken.row c.cheapest_letter-letter.result = (let start = c in
    following_first c.loop-taken.invariant.2 start.requires.are_known c.loop-taken-test.true c.cheapest_letter-letter.ensures) in
    omega (arith, (first).onward.has_entry.is_letter, c.requires.finals_len.5)

pub offset_bounds-list-taken : goal.offset_bounds-list-taken
offset_bounds-list-taken c =
    let list-long : length c.loop-taken.list ≡ length c.args.list.now = (let start = c in
    following_length c.loop-taken.invariant.2 (omega (arith, start.requires.finals_len.2, c.loop-taken.invariant.0))) in
    omega (arith, list-long, c.requires.finals_len.2)

pub bounds-list-taken : goal.bounds-list-taken
bounds-list-taken c =
    let list-long : length c.loop-taken.list ≡ length c.args.list.now = (let start = c in
    following_length c.loop-taken.invariant.2 (omega (arith, start.requires.finals_len.2, c.loop-taken.invariant.0))) in
    omega (arith, list-long, c.requires.finals_len.2)

pub overflow_mul-row : goal.overflow_mul-row
overflow_mul-row c =
    let table : Layered = let a = c.args in layered_in a.letters a.entries.now a.finals.now a.layers.now a.goal in
    let first : let start = c in
    IsFirstCheapest start.args.letters (table).entry (table).layer no_course (cost_at (table) start.args.costs.now) (at c.loop-taken.changes) c.loop-taken.row c.cheapest_letter-letter.result = (let start = c in
    following_first c.loop-taken.invariant.2 start.requires.are_known c.loop-taken-test.true c.cheapest_letter-letter.ensures) in
    let place : let start = c in
    c.loop-taken.row * start.args.letters + c.cheapest_letter-letter.result < length start.args.entries.now = (let start = c in
    let turn = c.loop-taken in
    place_inside start.requires.whole_table turn.row c.cheapest_letter-letter.result turn.invariant.2.met.is_row (first).onward.has_entry.is_letter) in
    omega (arith, place)

pub overflow_add-row : goal.overflow_add-row
overflow_add-row c =
    let table : Layered = let a = c.args in layered_in a.letters a.entries.now a.finals.now a.layers.now a.goal in
    let first : let start = c in
    IsFirstCheapest start.args.letters (table).entry (table).layer no_course (cost_at (table) start.args.costs.now) (at c.loop-taken.changes) c.loop-taken.row c.cheapest_letter-letter.result = (let start = c in
    following_first c.loop-taken.invariant.2 start.requires.are_known c.loop-taken-test.true c.cheapest_letter-letter.ensures) in
    let place : let start = c in
    c.loop-taken.row * start.args.letters + c.cheapest_letter-letter.result < length start.args.entries.now = (let start = c in
    let turn = c.loop-taken in
    place_inside start.requires.whole_table turn.row c.cheapest_letter-letter.result turn.invariant.2.met.is_row (first).onward.has_entry.is_letter) in
    omega (arith, place)

pub offset_bounds-entries-row : goal.offset_bounds-entries-row
offset_bounds-entries-row c =
    let table : Layered = let a = c.args in layered_in a.letters a.entries.now a.finals.now a.layers.now a.goal in
    let first : let start = c in
    IsFirstCheapest start.args.letters (table).entry (table).layer no_course (cost_at (table) start.args.costs.now) (at c.loop-taken.changes) c.loop-taken.row c.cheapest_letter-letter.result = (let start = c in
    following_first c.loop-taken.invariant.2 start.requires.are_known c.loop-taken-test.true c.cheapest_letter-letter.ensures) in
    let place : let start = c in
    c.loop-taken.row * start.args.letters + c.cheapest_letter-letter.result < length start.args.entries.now = (let start = c in
    let turn = c.loop-taken in
    place_inside start.requires.whole_table turn.row c.cheapest_letter-letter.result turn.invariant.2.met.is_row (first).onward.has_entry.is_letter) in
    omega (arith, place)

pub bounds-entries-row : goal.bounds-entries-row
bounds-entries-row c =
    let table : Layered = let a = c.args in layered_in a.letters a.entries.now a.finals.now a.layers.now a.goal in
    let first : let start = c in
    IsFirstCheapest start.args.letters (table).entry (table).layer no_course (cost_at (table) start.args.costs.now) (at c.loop-taken.changes) c.loop-taken.row c.cheapest_letter-letter.result = (let start = c in
    following_first c.loop-taken.invariant.2 start.requires.are_known c.loop-taken-test.true c.cheapest_letter-letter.ensures) in
    let place : let start = c in
    c.loop-taken.row * start.args.letters + c.cheapest_letter-letter.result < length start.args.entries.now = (let start = c in
    let turn = c.loop-taken in
    place_inside start.requires.whole_table turn.row c.cheapest_letter-letter.result turn.invariant.2.met.is_row (first).onward.has_entry.is_letter) in
    place

pub overflow_cast-row : goal.overflow_cast-row
overflow_cast-row c =
    let a = c.args in
    omega (arith, c.type_inv.entries (c.loop-taken.row * a.letters + c.cheapest_letter-letter.result))

pub count_changes-requires : goal.count_changes-requires
count_changes-requires c = tt

pub loop-taken-preserved : goal.loop-taken-preserved
loop-taken-preserved c =
    let table : Layered = let a = c.args in layered_in a.letters a.entries.now a.finals.now a.layers.now a.goal in
    let first : let start = c in
    IsFirstCheapest start.args.letters (table).entry (table).layer no_course (cost_at (table) start.args.costs.now) (at c.loop-taken.changes) c.loop-taken.row c.cheapest_letter-letter.result = (let start = c in
    following_first c.loop-taken.invariant.2 start.requires.are_known c.loop-taken-test.true c.cheapest_letter-letter.ensures) in
    let up = c in
    let start = up in
    let turn = up.loop-taken in
    let letters = start.requires.finals_len.4 in
    let counts = c.count_changes.ensures in
    let x = first in (
      omega arith,
      counts.same_length ∙ turn.invariant.1,
      following_next turn.invariant.2 start.requires.are_known up.loop-taken-test.true (omega (arith, start.requires.finals_len.2)) start.requires.layers x
          (λ b h. counts.counted (letters ∙ sym turn.invariant.1) (omega (arith, turn.invariant.1, x.onward.has_entry.is_letter)) b (omega (arith, turn.invariant.1))),
    )

pub returns : goal.returns
returns c =
    let start = c in
    following_end start.requires.are_known start.requires.layers start.requires.goal (omega arith) c.loop-taken.invariant.2
