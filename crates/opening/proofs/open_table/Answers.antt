-- `opening::open_table` meets its contract (Opening).
use native.Mathlib.Omega.{arith}
use Rattle.lend.proofs.Outcome.{few_states}
use Rattle.opening.specs.Start.{start_text}
use Rattle.opening.proofs.Opening.{sheet-refused, start-refused, sheet-opened}
use borrow.Author.Rules.{rules}
use Rattle.opening.proofs.open_table.Goals as goal

pub returns-then-compiled-ne0 : goal.returns-then-compiled-ne0
returns-then-compiled-ne0 c =
    let a = c.args in
    sheet-refused a.text.now (start_text a.given a.start.now) c.read.ensures c.compile_lent-compiled.ensures (omega (arith, c.if-compiled-ne0.true))

pub judge_start-requires : goal.judge_start-requires
judge_start-requires c = omega (arith, few_states c.compile_lent-compiled.ensures c.if-compiled-ne0.false)

pub returns : goal.returns
returns c =
    let a = c.args in
    sheet-opened a.text.now (start_text a.given a.start.now) c.read.ensures c.compile_lent-compiled.ensures c.if-compiled-ne0.false c.judge_start.ensures c.in-Some.is

pub returns-in_default : goal.returns-in_default
returns-in_default c =
    let a = c.args in
    start-refused a.text.now (start_text a.given a.start.now) c.read.ensures c.compile_lent-compiled.ensures c.if-compiled-ne0.false c.judge_start.ensures (search rules) (search rules) (search rules)
