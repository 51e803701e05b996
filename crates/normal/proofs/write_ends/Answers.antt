-- `normal::write_ends` meets its contract. The invariant: the ends of the ranges of the rows passed stand in the table.
use Prim.Native.Nat.{◌*◌}
use native.Mathlib.Omega.{arith}
use mathlib.Core.Path.{◌≡◌, ◌∙◌, ap, ap₂}
use mathlib.Core.List.{[], ◌∷◌}
use mir.Syntax.{w64}
use mir.ValLaws.{to_z-of_z}
use lib.Seq.{sets}
use Rattle.nodes.specs.Evaluate.{stored}
use Rattle.normal.specs.Stored.{range_before}
use Rattle.normal.specs.Table.{range_or_zeros, ends_up_to}
use Rattle.normal.proofs.Ends.{no_ends, more-ends}
use Rattle.normal.proofs.write_ends.Goals as goal

pub loop-i-init : goal.loop-i-init
loop-i-init c = let s = c in (omega arith, no_ends (range_before (stored s.args.kinds.now s.args.values.now s.args.starts.now) s.args.lows.now s.args.highs.now) s.args.numbers.now s.args.ends.now)

pub overflow_mul-i : goal.overflow_mul-i
overflow_mul-i c = let s = c in omega (arith, s.requires)

pub overflow_add-i : goal.overflow_add-i
overflow_add-i c = let s = c in omega (arith, s.requires)

pub offset_bounds-numbers-i : goal.offset_bounds-numbers-i
offset_bounds-numbers-i c = let s = c in omega (arith, s.requires)

pub bounds-numbers-i : goal.bounds-numbers-i
bounds-numbers-i c = let s = c in omega (arith, s.requires)

pub put_range-requires : goal.put_range-requires
put_range-requires c = let s = c in omega (arith, s.requires)

pub loop-i-preserved : goal.loop-i-preserved
loop-i-preserved c =
    let s = c in
    let o = c.loop-i in
    let r = c.unwrap_or-range.result in
    let range = range_before (stored s.args.kinds.now s.args.values.now s.args.starts.now) s.args.lows.now s.args.highs.now in (
      omega arith,
      more-ends range s.args.numbers.now s.args.ends.now o.i o.invariant.1 (c.unwrap_or-range.ensures ∙ ap range_or_zeros (c.range_before.ensures ∙ ap range c.from-source.ensures)) (c.put_range.ensures
          ∙ ap₂ (λ x y. sets o.ends (o.i * 2) (x ∷ y ∷ [])) (to_z-of_z w64 r.low (record { sfits = omega arith })) (to_z-of_z w64 r.high (record { sfits = omega arith }))),
    )

pub returns : goal.returns
returns c =
    let s = c in
    let o = c.loop-i in
    let e : o.i ≡ s.args.rows = omega (arith, o.invariant.0, c.loop-i-test.false) in
    o.invariant.1 ∙ ap (λ k. sets s.args.ends.now 0 (ends_up_to (range_before (stored s.args.kinds.now s.args.values.now s.args.starts.now) s.args.lows.now s.args.highs.now) s.args.numbers.now k)) e
