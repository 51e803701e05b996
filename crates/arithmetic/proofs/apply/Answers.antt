-- `arithmetic::apply` meets its contract: what an operator gives can be read back from its number.
use mathlib.Core.Path.{◌∙◌, ap}
use Rattle.nodes.specs.Bounded.{applied_by_kind}
use Rattle.arithmetic.specs.Coded.{coded}
use Rattle.arithmetic.proofs.Machine.{held_both}
use Rattle.arithmetic.proofs.Coded.{held_decoded, decodes_applied}
use Rattle.arithmetic.proofs.apply.Goals as goal

pub returns : goal.returns
returns c =
    let s = c in
    let a = s.args in
    c.bounded.ensures
    ∙ held_decoded (applied_by_kind a.kind a.a a.b) (record { sfits = c.apply_coded.type_inv })
    (c.apply_coded.ensures ∙ ap coded (held_both (applied_by_kind a.kind) a.a a.b s.ranges.a s.ranges.b))
    (decodes_applied a.kind a.a a.b)
