-- `judge::mark_on` meets its contract, by its test.
use mathlib.Core.Path.{◌∙◌, sym}
use Rattle.extend.proofs.JudgeLaws.{grown-is}
use Rattle.extend.proofs.judge.mark_on.Goals as goal
use Rattle.extend.proofs.judge.mark_on.Goals.{then-done, else-done}

pub returns : goal.returns
returns c =
    let m = c.args.m in
    grown-is m c.args.done c.if-done.told
    (elim c.if-done.branch [ then-done w ↦ w.told-is ∙ sym (simp w.if-done.true) | else-done w ↦ w.told-is ∙ sym (simp w.if-done.false) ])
