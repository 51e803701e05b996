-- `print::names_line` meets its contract: the names but the last, each with a space, the last one and the line's end.
use Prim.Native.Nat.{suc, ◌-◌}
use native.Mathlib.Omega.{arith}
use mathlib.Core.Path.{◌≡◌, sym, ◌∙◌, ap}
use Rattle.print.specs.Text.{tokens_line}
use Rattle.print.specs.Lines.{stored_names}
use Rattle.print.proofs.Append.{appends_then, appends_same}
use Rattle.print.proofs.Lines.{names-parts}
use Rattle.print.proofs.names_line.Goals as goal

pub returns-then-count-eq0 : goal.returns-then-count-eq0
unfolding stored_names
returns-then-count-eq0 c =
    let a = c.args in
    appends_same c.append_bytes.ensures (ap (λ k. tokens_line (stored_names a.names.now a.lengths.now k)) (sym c.if-count-eq0.true ∙ c.min-count.ensures))

pub returns : goal.returns
returns c =
    let a = c.args in
    let n = c.min-count.ensures in
    let e = names-parts a.names.now a.lengths.now (c.min-count.result - 1) in
    let k : suc (c.min-count.result - 1) ≡ c.min-count.result = omega (arith, c.if-count-eq0.false) in
    appends_same (appends_then (appends_then c.append_names-to.ensures c.append_stored-end.ensures) c.append_bytes-2.ensures)
    (e ∙ ap (λ m. tokens_line (stored_names a.names.now a.lengths.now m)) (k ∙ n))
