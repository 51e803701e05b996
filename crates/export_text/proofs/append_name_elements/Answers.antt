-- `export_text::append_name_elements` meets its contract: after i turns the first i names are appended as elements.
use mathlib.Core.Path.{◌∙◌, ap}
use Rattle.print.specs.Lines.{stored_names}
use Rattle.print.proofs.Append.{appends_nothing, appends_then, appends_same}
use Rattle.export_text.specs.Export.{element, quoted}
use Rattle.export_text.proofs.Elements.{name-element, next-name}
use Rattle.export_text.proofs.append_name_elements.Goals as goal

pub loop-i-init : goal.loop-i-init
unfolding stored_names
loop-i-init c = appends_nothing c.requires

pub loop-i-preserved : goal.loop-i-preserved
loop-i-preserved c =
    let a = c.args in
    let one = appends_same (appends_then (appends_then c.append_bytes-name_at.ensures c.append_bytes-end.ensures) c.append_bytes-to.ensures) (name-element c.name_in.result.now ∙ ap (λ n. element (quoted n)) c.name_in.ensures) in
    appends_same (appends_then c.loop-i.invariant one) (next-name a.names.now a.lengths.now c.loop-i.i)
