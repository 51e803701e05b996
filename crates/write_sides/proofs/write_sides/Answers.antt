-- `write_sides::write_sides` meets its contract. The loop's invariant: the sides of the constraints passed are written before the place `at`, which is as
-- far as their nodes go. The measure is what is left of the constraints.
use Prim.Native.Nat.{ℕ, ◌/◌, min}
use native.Mathlib.Omega.{arith}
use mathlib.Core.Path.{◌≡◌, refl, ◌∙◌, ap}
use mathlib.Core.List.{List}
use lib.ListN.{length}
use Rattle.nodes.specs.Evaluate.{stored, view}
use Rattle.write_sides.specs.Sides.{sides_within}
use Rattle.write_sides.proofs.Sides.{up_to-none, up_to-more, no_room, sides-refused, sides-done}
use Rattle.write_sides.proofs.write_sides.Goals as goal

count_is : (lefts rights : List ℕ) {a b : ℕ} → a ≡ min (length lefts) (length rights) → b ≡ min a 32 → b ≡ sides_within lefts rights
count_is lefts rights p q = q ∙ ap (λ n. min n 32) p

pub loop-j-init : goal.loop-j-init
loop-j-init c =
    let s = c in
    up_to-none (stored s.args.kinds.now s.args.values.now s.args.starts.now) (view s.args.window.now s.args.asked.streams s.args.firsts.now s.args.asked.whole) (length s.args.window.now / s.args.asked.streams) s.args.asked.place s.args.lefts.now s.args.rights.now (omega (arith, c.min-count.ensures))
    (record { kinds = omega arith; values = omega arith; starts = omega arith }) (omega arith) (omega arith)

pub write_constraint-ends-requires : goal.write_constraint-ends-requires
write_constraint-ends-requires c =
    c.loop-j.invariant.room

pub returns-then-ends-gt1024 : goal.returns-then-ends-gt1024
returns-then-ends-gt1024 c =
    let s = c in
    sides-refused (stored s.args.kinds.now s.args.values.now s.args.starts.now) (view s.args.window.now s.args.asked.streams s.args.firsts.now s.args.asked.whole) s.args.asked.place s.args.lefts.now s.args.rights.now (count_is s.args.lefts.now s.args.rights.now c.min.ensures c.min-count.ensures) c.write_constraint-ends.ensures.arrays
    (no_room (stored s.args.kinds.now s.args.values.now s.args.starts.now) (view s.args.window.now s.args.asked.streams s.args.firsts.now s.args.asked.whole) (length s.args.window.now / s.args.asked.streams) s.args.asked.place s.args.lefts.now s.args.rights.now c.loop-j.invariant c.loop-j-test.true refl refl c.write_constraint-ends.ensures c.if-ends-gt1024.true)

pub loop-j-preserved : goal.loop-j-preserved
loop-j-preserved c =
    let s = c in
    up_to-more (stored s.args.kinds.now s.args.values.now s.args.starts.now) (view s.args.window.now s.args.asked.streams s.args.firsts.now s.args.asked.whole) (length s.args.window.now / s.args.asked.streams) s.args.asked.place s.args.lefts.now s.args.rights.now c.loop-j.invariant c.loop-j-test.true refl refl c.write_constraint-ends.ensures c.if-ends-gt1024.false

pub returns : goal.returns
returns c =
    let s = c in
    sides-done (stored s.args.kinds.now s.args.values.now s.args.starts.now) (view s.args.window.now s.args.asked.streams s.args.firsts.now s.args.asked.whole) s.args.asked.place s.args.lefts.now s.args.rights.now (count_is s.args.lefts.now s.args.rights.now c.min.ensures c.min-count.ensures) c.loop-j-test.false c.loop-j.invariant
