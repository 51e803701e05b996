-- `search_row` meets its contract: before each letter the search stands at the row and the letter (Turns), the tables have the lengths that they had, and
-- the row has its key.
use Prim.Native.Nat.{ℕ, ◌+◌, ◌*◌, ◌/◌, ◌%◌, ◌≤◌, ◌<◌}
use mathlib.Core.Path.{◌≡◌, sym, ◌∙◌, ap}
use native.Mathlib.Omega.{arith}
use lib.ListN.{length, set, length-set}
use Rattle.basics.specs.Lists.{at}
use Rattle.basics.proofs.Lists.{row_fits}
use Rattle.automaton.specs.WellFormed.{most_rows}
use Rattle.pairs.specs.Rows.{key_of_entries, row_done, row_full}
use Rattle.pairs.proofs.Turns.{turn_row, follow_old, follow_new, follow_full, followed-row, SameLengths}
use Rattle.pairs.proofs.search_row.Goals.{then-row-known+else-known-sizes, else-row-known}
use Rattle.pairs.proofs.search_row.Goals as goal

pub returns : goal.returns
returns c = let loop = c.loop-a in row_done loop.invariant.1.turn.within (turn_row _ _ _ _ _ _ _ _ c.loop-a-test.false loop.invariant.1)

pub loop-a-preserved : goal.loop-a-preserved
loop-a-preserved c =
    let row_room : c.args.s * c.args.sizes.letters + c.args.sizes.letters ≤ length c.args.entries.now = row_fits c.args.s c.args.sizes.limit c.args.sizes.letters (length c.args.entries.now) (omega (arith, c.requires.s_lt_n.0, c.requires.s_lt_n.1.turn.within)) c.requires.has_pair_room.entries_room in
    let within : c.args.s * c.args.sizes.letters + c.loop-a.a < length c.loop-a.entries = omega (arith, c.loop-a-test.true, c.loop-a.invariant.2.entries_long, row_room) in
    let key_is : let a = c.args in let loop = c.loop-a in c.successor-next.result ≡ key_of_entries (at a.left.now (at loop.keys a.s / most_rows * a.sizes.left_letters + at a.left_cuts.now loop.a)) (at a.right.now (at loop.keys a.s % most_rows * a.sizes.right_letters + at a.right_cuts.now loop.a)) = (let a = c.args in
    let loop = c.loop-a in
    c.successor-next.ensures ∙ ap (λ (x : ℕ). key_of_entries (at a.left.now (x / most_rows * a.sizes.left_letters + at a.left_cuts.now loop.a)) (at a.right.now (x % most_rows * a.sizes.right_letters + at a.right_cuts.now loop.a))) (sym loop.invariant.3)) in
    let lengths : let a = c.args in SameLengths a.keys.now a.heads.now a.links.now a.entries.now c.follow-row.new.keys c.follow-row.new.heads c.follow-row.new.links c.loop-a.entries = (let loop = c.loop-a in
    record {
      keys_long = c.follow-row.auto.keys ∙ loop.invariant.2.keys_long;
      heads_long = c.follow-row.auto.heads ∙ loop.invariant.2.heads_long;
      links_long = c.follow-row.auto.links ∙ loop.invariant.2.links_long;
      entries_long = loop.invariant.2.entries_long;
    }) in
    let s = c in
    let loop = c.loop-a in
    let long = lengths in
    let stored : SameLengths s.args.keys.now s.args.heads.now s.args.links.now s.args.entries.now c.follow-row.new.keys c.follow-row.new.heads c.follow-row.new.links (set loop.entries (s.args.s * s.args.sizes.letters + loop.a) c.follow-row.result) = record { keys_long = long.keys_long; heads_long = long.heads_long; links_long = long.links_long; entries_long = length-set loop.entries (s.args.s * s.args.sizes.letters + loop.a) c.follow-row.result ∙ long.entries_long } in
    let same = followed-row c.follow-row.ensures s.args.s loop.invariant.0 ∙ loop.invariant.3 in
    elim c.if-row-known.branch [
      | then-row-known+else-known-sizes w ↦ (rw w.known-is (omega (arith, loop.invariant.0)), rw w.known-is (follow_new _ _ _ _ _ _ _ _ loop.invariant.1 loop.invariant.0 c.loop-a-test.true within s.requires.has_pair_room.few_rows (omega (arith, s.requires.has_pair_room.keys_room, loop.invariant.2.keys_long)) c.follow-row.result c.successor-next.result key_is c.follow-row.ensures w.if-row-known.true w.if-known-sizes.false), stored, same)
      | else-row-known w ↦ (rw w.known-is loop.invariant.0, rw w.known-is (follow_old _ _ _ _ _ _ _ _ loop.invariant.1 loop.invariant.0 c.loop-a-test.true within s.requires.has_pair_room.few_rows (omega (arith, s.requires.has_pair_room.keys_room, loop.invariant.2.keys_long)) c.follow-row.result c.successor-next.result key_is c.follow-row.ensures w.if-row-known.false), stored, same)
    ]

pub returns-then-known-sizes : goal.returns-then-known-sizes
returns-then-known-sizes c =
    let row_room : c.args.s * c.args.sizes.letters + c.args.sizes.letters ≤ length c.args.entries.now = row_fits c.args.s c.args.sizes.limit c.args.sizes.letters (length c.args.entries.now) (omega (arith, c.requires.s_lt_n.0, c.requires.s_lt_n.1.turn.within)) c.requires.has_pair_room.entries_room in
    let within : c.args.s * c.args.sizes.letters + c.loop-a.a < length c.loop-a.entries = omega (arith, c.loop-a-test.true, c.loop-a.invariant.2.entries_long, row_room) in
    let key_is : let a = c.args in let loop = c.loop-a in c.successor-next.result ≡ key_of_entries (at a.left.now (at loop.keys a.s / most_rows * a.sizes.left_letters + at a.left_cuts.now loop.a)) (at a.right.now (at loop.keys a.s % most_rows * a.sizes.right_letters + at a.right_cuts.now loop.a)) = (let a = c.args in
    let loop = c.loop-a in
    c.successor-next.ensures ∙ ap (λ (x : ℕ). key_of_entries (at a.left.now (x / most_rows * a.sizes.left_letters + at a.left_cuts.now loop.a)) (at a.right.now (x % most_rows * a.sizes.right_letters + at a.right_cuts.now loop.a))) (sym loop.invariant.3)) in
    let s = c in
    let loop = c.loop-a in
    let full = follow_full _ _ _ _ _ _ _ _ loop.invariant.1 loop.invariant.0 c.loop-a-test.true within s.requires.has_pair_room.few_rows (omega (arith, s.requires.has_pair_room.keys_room, loop.invariant.2.keys_long)) c.follow-row.result c.successor-next.result key_is c.follow-row.ensures c.if-row-known.true c.if-known-sizes.true in
    row_full full
