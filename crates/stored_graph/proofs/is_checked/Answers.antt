-- `stored_graph::is_checked` meets its contract: the rows before `row` are checked, and `met` rows were met.
use native.Mathlib.Numerals.{add-one}
use native.Mathlib.Omega.{arith}
use lib.Dec.{eqb}
use borrow.Author.Tests.{eqb-true, eqb-false}
use Rattle.basics.proofs.Answers.{says_either}
use Rattle.stored_graph.proofs.Checking.{checked_row, row_unmet, checked_graph}
use Rattle.stored_graph.proofs.is_checked.Goals as goal

pub returns-then-row-met : goal.returns-then-row-met
returns-then-row-met c = λ G. row_unmet G c.loop-row.invariant c.loop-row.row c.if-row-met.true c.loop-row-test.true (omega arith)

pub loop-row-preserved : goal.loop-row-preserved
loop-row-preserved c = rw add-one (checked_row c.in-Some.ensures.1)

pub returns : goal.returns
returns c =
    let loop = c.loop-row in
    says_either (eqb loop.met c.args.rows)
    (λ e. checked_graph (omega arith) (eqb-true loop.met c.args.rows e) c.requires.has_graph_sizes c.requires.are_bits loop.invariant)
    (λ e G. row_unmet G loop.invariant loop.met (omega arith) (omega (arith, loop.invariant.most, eqb-false loop.met c.args.rows e)) (omega (arith, loop.invariant.most, c.loop-row-test.false)))
