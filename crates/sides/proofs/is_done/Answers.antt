-- `sides::is_done` meets its contract, by its test and from the value of the right side.
use Prim.Native.Nat.{◌%◌}
use mathlib.Core.Path.{◌∙◌, sym, ap}
use borrow.Author.Tests.{ne_eqb}
use Rattle.meaning.specs.Value.{truth}
use Rattle.nodes.specs.Evaluate.{stored, view}
use Rattle.sides.proofs.Values.{value-given}
use Rattle.sides.proofs.is_done.Goals as goal

pub returns-else-marks-eq1 : goal.returns-else-marks-eq1
returns-else-marks-eq1 c =
    let value = c.evaluate in
    let a = c.args in
    c.truth.ensures
    ∙ ap truth (value-given (stored a.kinds.now a.values.now a.starts.now) (view a.window.now a.streams a.firsts.now a.whole) a.right a.place (record { sfits = value.type_inv }) value.ensures)
    ∙ sym (simp (ne_eqb (a.marks % 2) 1 c.if-marks-eq1.false))
