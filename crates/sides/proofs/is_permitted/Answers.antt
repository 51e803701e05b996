-- `sides::is_permitted` meets its contract, by its test and from the value of the left side.
use mathlib.Core.Path.{◌∙◌, sym, ap}
use Rattle.meaning.specs.Value.{truth}
use Rattle.nodes.specs.Evaluate.{stored, view}
use Rattle.sides.proofs.Values.{value-given}
use Rattle.sides.proofs.is_permitted.Goals as goal

pub returns-else-done : goal.returns-else-done
returns-else-done c =
    let value = c.evaluate in
    let a = c.args in
    c.truth.ensures
    ∙ ap truth (value-given (stored a.kinds.now a.values.now a.starts.now) (view a.window.now a.streams a.firsts.now a.whole) a.left a.place (record { sfits = value.type_inv }) value.ensures)
    ∙ sym (simp c.if-done.false)
