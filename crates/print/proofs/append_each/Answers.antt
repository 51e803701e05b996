-- `print::append_each` meets its contract: after i turns the first i numbers are appended.
use native.Mathlib.Omega.{arith}
use mathlib.Core.Path.{◌∙◌, ap}
use mathlib.Core.List.{◌++◌}
use lib.ListN.{take}
use Rattle.print.specs.Lines.{each}
use Rattle.print.proofs.Append.{appends_then, appends_same}
use Rattle.print.proofs.Each.{each_next}
use Rattle.print.proofs.append_each.Goals as goal

pub loop-number-preserved : goal.loop-number-preserved
loop-number-preserved g c =
    let a = c.args in
    appends_same (appends_then c.loop-number.invariant (appends_then c.append_bytes-number_at.ensures (appends_then c.append-end.ensures c.append_bytes-to.ensures)))
    (ap (λ n. each a.before.now g.N.Number.text (take c.loop-number.number-index a.numbers.now) a.after.now ++ (a.before.now ++ (g.N.Number.text n ++ a.after.now))) c.number-item.is
    ∙ each_next a.before.now a.after.now g.N.Number.text a.numbers.now _ c.loop-number.number-index (omega arith))
