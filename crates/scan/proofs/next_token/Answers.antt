-- `scan::next_token` meets its contract: past the bytes between tokens a bracket or a run is the first token.
use mathlib.Core.Path.{sym, ◌∙◌}
use Rattle.scan.proofs.Tokens.{token-none, token_bracket, token-run}
use Rattle.scan.proofs.next_token.Goals as goal

pub returns-then-text-start : goal.returns-then-text-start
returns-then-text-start c = token-none c.args.text.now c.args.at c.skip_between-start.result c.skip_between-start.ensures c.if-text-start.true

pub returns-then-is_bracket : goal.returns-then-is_bracket
returns-then-is_bracket c = token_bracket c.args.text.now c.args.at c.skip_between-start.result c.skip_between-start.ensures c.if-text-start.false (sym c.is_bracket.ensures ∙ c.if-is_bracket.true)

pub returns : goal.returns
returns c = token-run c.args.text.now c.args.at c.skip_between-start.result c.skip_between-start.ensures c.if-text-start.false (sym c.is_bracket.ensures ∙ c.if-is_bracket.false) c.run_end-end.ensures
