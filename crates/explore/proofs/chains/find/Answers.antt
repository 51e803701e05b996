-- `chains::find` meets its contract. The loop goes along one chain: every row that holds the key is below the row that the loop has come to.
use Prim.Native.Nat.{◌≤◌, ◌<◌, ◌-◌, ◌*◌, ◌+◌}
use mathlib.Core.Path.{sym, ◌∙◌}
use native.Mathlib.Omega.{arith}
use lib.ListN.{length}
use Rattle.basics.proofs.Answers.{says_yes, says_no}
use Rattle.sizes.specs.Room.{key_size}
use Rattle.prepare.proofs.Parts.{part-size, part-long}
use Rattle.explore.proofs.ChainLaws.{left-first, left-next}
use Rattle.explore.proofs.chains.find.Goals as goal

pub overflow_cast-j : goal.overflow_cast-j
overflow_cast-j c = omega (arith, c.type_inv.heads c.args.h)

pub loop-j-init : goal.loop-j-init
loop-j-init c = let begin = c in rw begin.requires.key_len.1 (left-first begin.requires.key_tables _)

pub overflow_mul-at : goal.overflow_mul-at
overflow_mul-at c =
    let pos : 0 < c.loop-j.j = omega (arith, c.loop-j-test.true) in
    let fits : (c.loop-j.j - 1) * key_size + key_size ≤ length c.args.keys.now = omega (arith, c.loop-j.invariant.at_most, pos, c.requires.key_tables.keys_room) in
    omega (arith, fits)

pub overflow_add-end : goal.overflow_add-end
overflow_add-end c =
    let pos : 0 < c.loop-j.j = omega (arith, c.loop-j-test.true) in
    let fits : (c.loop-j.j - 1) * key_size + key_size ≤ length c.args.keys.now = omega (arith, c.loop-j.invariant.at_most, pos, c.requires.key_tables.keys_room) in
    omega (arith, fits)

pub offset_bounds-keys-at : goal.offset_bounds-keys-at
offset_bounds-keys-at c =
    let pos : 0 < c.loop-j.j = omega (arith, c.loop-j-test.true) in
    let fits : (c.loop-j.j - 1) * key_size + key_size ≤ length c.args.keys.now = omega (arith, c.loop-j.invariant.at_most, pos, c.requires.key_tables.keys_room) in
    omega (arith, fits)

pub slice_bounds-same-end : goal.slice_bounds-same-end
slice_bounds-same-end c =
    let pos : 0 < c.loop-j.j = omega (arith, c.loop-j-test.true) in
    let fits : (c.loop-j.j - 1) * key_size + key_size ≤ length c.args.keys.now = omega (arith, c.loop-j.invariant.at_most, pos, c.requires.key_tables.keys_room) in
    omega (arith, fits)

pub same-requires : goal.same-requires
same-requires c =
    let pos : 0 < c.loop-j.j = omega (arith, c.loop-j-test.true) in
    let fits : (c.loop-j.j - 1) * key_size + key_size ≤ length c.args.keys.now = omega (arith, c.loop-j.invariant.at_most, pos, c.requires.key_tables.keys_room) in
    part-long _ _ _ fits ∙ sym c.requires.key_len.0

pub returns-then-same : goal.returns-then-same
returns-then-same c =
    let pos : 0 < c.loop-j.j = omega (arith, c.loop-j-test.true) in
    (omega (arith, c.loop-j.invariant.at_most, pos), rw part-size at (says_yes c.if-same.true c.same.ensures))

pub overflow_cast-j-in-loop-j : goal.overflow_cast-j-in-loop-j
overflow_cast-j-in-loop-j c = omega (arith, c.type_inv.links (c.loop-j.j - 1))

pub loop-j-smaller : goal.loop-j-smaller
loop-j-smaller c =
    let pos : 0 < c.loop-j.j = omega (arith, c.loop-j-test.true) in
    let in-loop = c in
    omega (arith, c.requires.key_tables.chained.link_le (in-loop.loop-j.j - 1) (omega (arith, pos, in-loop.loop-j.invariant.at_most)), pos)

pub loop-j-preserved : goal.loop-j-preserved
loop-j-preserved c =
    let pos : 0 < c.loop-j.j = omega (arith, c.loop-j-test.true) in
    let in-loop = c in
    left-next c.requires.key_tables in-loop.loop-j.invariant pos (rw part-size at (says_no c.if-same.false c.same.ensures))

pub returns : goal.returns
returns c = λ i h q. omega (arith, c.loop-j.invariant.all i h q, c.loop-j-test.false)
