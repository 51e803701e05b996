-- `refine::hash_part` meets its contract: `h` is the hash of the classes before `entry`.
use mathlib.Core.Path.{◌≡◌, sym, ap₂, ◌∙◌}
use native.Mathlib.Omega.{arith}
use native.Mathlib.Numerals.{add-one}
use Rattle.refine.specs.Signatures.{class_after, mixed}
use Rattle.refine.proofs.Signatures.{hash-step, hash-start}
use Prim.Native.Nat.{◌+◌}
use lib.ListN.{get_or}
use Rattle.std.proofs.lemmas.Grind.{common_steps}
use Rattle.refine.proofs.hash_part.Goals as goal

pub loop-entry-init : goal.loop-entry-init
loop-entry-init c = (c.requires.1, sym (hash-start (class_after c.args.entries.now c.args.class.now c.args.start) c.args.first))

pub loop-entry-preserved : goal.loop-entry-preserved
loop-entry-preserved c =
    let args = c.args in
    let loop = c.loop-entry in
    let f = class_after args.entries.now args.class.now args.start in
    let e : c.number_at.result ≡ get_or args.class.now (get_or args.entries.now (args.start + loop.entry-index) 0) 0 = grind (arith, common_steps) in
    (omega (arith, c.mix-h.ensures), c.mix-h.ensures ∙ (ap₂ mixed loop.invariant.1 e ∙ rw add-one (sym (hash-step f args.first loop.entry-index))))
