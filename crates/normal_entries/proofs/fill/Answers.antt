-- `normal_entries::fill` meets its contract: each turn stores one entry more (Entries).
use mathlib.Core.Path.{◌≡◌, refl, sym, subst}
use Prim.Native.Nat.{ℕ}
use native.Mathlib.Omega.{arith}
use native.Mathlib.Numerals.{add-one}
use lib.ListN.{length, length-set, take, set}
use Rattle.normal_entries.specs.Entries.{stored_entry, listed}
use Rattle.normal_entries.proofs.Entries.{listed_more, listed-whole}
use Rattle.normal_entries.proofs.fill.Goals as goal

pub loop-i-init : goal.loop-i-init
unfolding listed
loop-i-init c = record { inside = omega arith; stored = refl }

pub loop-i-preserved : goal.loop-i-preserved
loop-i-preserved c =
    let f = stored_entry c.args.numbers.now c.args.ends.now in
    let loop = c.loop-i in
    record {
      inside = omega (arith, c.loop-i-test.true, length-set loop.list loop.i c.entry_at.result);
      stored = subst (λ (k : ℕ). take k (set loop.list loop.i c.entry_at.result) ≡ listed f k) (sym (add-one loop.i)) (listed_more f loop.list loop.i c.entry_at.result (omega arith) loop.invariant.stored c.entry_at.ensures);
    }

pub returns : goal.returns
returns c =
    let f = stored_entry c.args.numbers.now c.args.ends.now in
    let loop = c.loop-i in
    let end : loop.i ≡ length c.args.list.now = omega (arith, c.loop-i-test.false, loop.invariant.inside, loop.auto.list) in
    listed-whole f loop.list loop.auto.list (subst (λ (k : ℕ). take k loop.list ≡ listed f k) end loop.invariant.stored)
