-- `with_name` meets its contract: the name is copied (Places).
use Prim.Native.Nat.{◌*◌, ◌≤◌, min}
use mathlib.Core.Path.{◌≡◌, ap, ◌∙◌}
use native.Mathlib.Omega.{arith}
use lib.ListN.{length, drop, get_or, length-take}
use borrow.Author.Rules.{rules}
use Rattle.sheet.specs.Names.{name_in}
use Rattle.joined_streams.proofs.Places.{name-copied}
use Rattle.joined_streams.proofs.with_name.Goals as goal

pub returns : goal.returns
returns c =
    let from = c.args.from.now in
    let names-long : length c.args.to.now.names ≡ 64 = search rules in
    let long = ap length c.name-name.ensures in
    let few : length (name_in from.names from.lengths c.args.stream) ≤ 8 = omega (arith, length-take (min (get_or from.lengths c.args.stream 0) 8) (drop (c.args.stream * 8) from.names)) in
    name-copied c.args.to.now.names (name_in from.names from.lengths c.args.stream) c.copy_from_slice.new.self (c.args.to.now.count * 8) _ (c.copy_from_slice.ensures.after ∙ c.name-name.ensures) (omega (arith, long)) (omega (arith, names-long, few, c.requires))
