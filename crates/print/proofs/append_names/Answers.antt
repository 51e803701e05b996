-- `print::append_names` meets its contract: after i turns the first i names are appended.
use native.Mathlib.Numerals.{add-one}
use mathlib.Core.Path.{sym, ◌∙◌, ap}
use Rattle.print.specs.Text.{spaced}
use Rattle.sheet.specs.Names.{name_in}
use Rattle.print.specs.Lines.{stored_names}
use Rattle.print.proofs.Append.{appends_nothing, appends_then, appends_same}
use Rattle.print.proofs.Lines.{spaced-more}
use Rattle.print.proofs.append_names.Goals as goal

pub loop-i-init : goal.loop-i-init
unfolding stored_names
loop-i-init c = appends_nothing c.requires

pub loop-i-preserved : goal.loop-i-preserved
unfolding stored_names
loop-i-preserved c =
    let a = c.args in
    let i = c.loop-i.i in
    let names = stored_names a.names.now a.lengths.now in
    appends_same (appends_then c.loop-i.invariant c.append_name-to.ensures)
    (sym (spaced-more (names i) (name_in a.names.now a.lengths.now i)) ∙ ap (λ k. spaced (names k)) (sym (add-one i)))
