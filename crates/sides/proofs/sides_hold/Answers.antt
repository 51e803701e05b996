-- `sides::sides_hold` meets its contract, from the values of both sides.
use mathlib.Core.Path.{◌∙◌, ap₂}
use Rattle.meaning.specs.Expression.{holds}
use Rattle.nodes.specs.Code.{sign_at}
use Rattle.nodes.specs.Evaluate.{Nodes, stored, View, view}
use Rattle.sides.proofs.Values.{value-given}
use Rattle.sides.proofs.sides_hold.Goals as goal

pub returns : goal.returns
returns c =
    let nodes : Nodes = stored c.args.kinds.now c.args.values.now c.args.starts.now in
    let seen : View = view c.args.window.now c.args.streams c.args.firsts.now c.args.whole in
    let a = c.evaluate-a in
    let b = c.evaluate-b in
    c.sign_holds.ensures
    ∙ ap₂ (holds (sign_at c.args.relation)) (value-given nodes seen c.args.left c.args.place (record { sfits = a.type_inv }) a.ensures)
    (value-given nodes seen c.args.right c.args.place (record { sfits = b.type_inv }) b.ensures)
