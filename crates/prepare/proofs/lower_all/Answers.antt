-- `prepare::lower_all` meets its contract: before each turn the places passed hold the numbers, lowered.
use mir.Syntax.{w64}
use mir.ValLaws.{to_z-of_z}
use Prim.Native.Nat.{◌+◌}
use mathlib.Core.Path.{◌≡◌, refl, sym, ap, ◌∙◌}
use mathlib.Core.List.{map}
use native.Mathlib.Omega.{arith}
use native.Mathlib.Numerals.{add-one}
use lib.ListN.{length, get_or, set, length-set, length-map, get_or-map}
use lib.Seq.{paste, paste-zero, paste-suc}
use Rattle.prepare.specs.Key.{lowered}
use Rattle.sizes.specs.Room.{window_room}
use Rattle.prepare.proofs.lower_all.Goals as goal

pub loop-i-init : goal.loop-i-init
loop-i-init c = (paste-zero c.args.prepared.now window_room (map lowered c.args.numbers.now), refl)

pub loop-i-preserved : goal.loop-i-preserved
loop-i-preserved c =
    let loop = c.loop-i in
    let start = c in
    let list = start.args.prepared.now in
    let numbers = start.args.numbers.now in
    let is = to_z-of_z w64 c.lowered.result (record { sfits = c.lowered.type_inv }) ∙ c.lowered.ensures ∙ sym (get_or-map lowered numbers loop.i 0) in (
      ap (set loop.prepared (56 + loop.i)) is ∙ ap (λ l. set l (56 + loop.i) (get_or (map lowered numbers) loop.i (lowered 0))) loop.invariant.0
          ∙ paste-suc list window_room (map lowered numbers) loop.i (lowered 0) (omega (arith, start.requires)) (omega (arith, length-map numbers lowered))
          ∙ ap (paste list window_room (map lowered numbers)) (sym (add-one loop.i)),
      simp length-set loop.invariant.1,
    )

pub returns : goal.returns
returns c =
    let args = c.args in
    let end : c.loop-i.i ≡ length args.numbers.now = omega arith in
    c.loop-i.invariant.0 ∙ ap (paste args.prepared.now window_room (map lowered args.numbers.now)) end
