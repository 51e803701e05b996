-- `extend::judge_letter` meets its contract, by its test.
use mathlib.Core.Path.{◌∙◌, sym}
use borrow.Author.Tests.{le-leb, lt-leb}
use Rattle.extend.proofs.judge_letter.Goals as goal

pub returns-then-held-ahead : goal.returns-then-held-ahead
returns-then-held-ahead c = sym (simp (lt-leb c.args.ahead c.args.held c.if-held-ahead.true))

pub returns : goal.returns
returns c = c.judge.ensures ∙ sym (simp (le-leb c.args.ahead c.args.held c.if-held-ahead.false))
