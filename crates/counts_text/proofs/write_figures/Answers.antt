-- `counts_text::write_figures` meets its contract: before each turn the lines before it are written (Lines).
use Prim.Native.Nat.{min}
use native.Mathlib.Omega.{arith}
use mathlib.Core.Path.{◌≡◌, ap}
use lib.ListN.{length}
use Rattle.print.specs.Lines.{lines_from}
use Rattle.print.proofs.Append.{appends_nothing, appends_then, appends_same, reached}
use Rattle.counts_text.specs.Counts.{listed_text}
use Rattle.counts_text.proofs.Lines.{listed_more}
use Rattle.counts_text.proofs.write_figures.Goals as goal

pub loop-letters-init : goal.loop-letters-init
unfolding lines_from
loop-letters-init c = appends_nothing (omega arith)

pub append_line-to-requires : goal.append_line-to-requires
append_line-to-requires c = reached c.loop-letters.invariant

pub loop-letters-preserved : goal.loop-letters-preserved
loop-letters-preserved c =
    let a = c.args in
    let loop = c.loop-letters in
    appends_same (appends_then loop.invariant c.append_line-to.ensures) (listed_more a.figures.now a.final_figures.now loop.letters)

pub returns : goal.returns
returns c =
    let a = c.args in
    let loop = c.loop-letters in
    let end : loop.letters ≡ min (length a.figures.now) (length a.final_figures.now) = omega arith in
    appends_same loop.invariant (ap (listed_text a.figures.now a.final_figures.now) end)
