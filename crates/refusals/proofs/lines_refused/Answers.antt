-- `refusals::lines_refused` meets its contract: line 1 and the constraint lines decide.
use mathlib.Core.Path.{refl, sym, ap, ◌∙◌}
use native.Mathlib.Omega.{arith}
use mathlib.Core.Bool.{◌||◌}
use lib.ListN.{drop}
use borrow.Author.Tests.{lt-ltb, le-ltb}
use Rattle.text.specs.Bytes.{lines}
use Rattle.refusals.specs.Places.{constraint_lines_refused}
use Rattle.refusals.proofs.Lines.{between-all, lines-refused}
use Rattle.refusals.proofs.lines_refused.Goals as goal

pub slice_bounds-token_count-count : goal.slice_bounds-token_count-count
slice_bounds-token_count-count c = let o = c.header_of-header.ensures.names_ordered in let w = c.header_of-header.ensures.names_within in omega arith

pub slice_bounds-token_count-start : goal.slice_bounds-token_count-start
slice_bounds-token_count-start c = let o = c.header_of-header.ensures.names_ordered in let w = c.header_of-header.ensures.names_within in omega arith

pub slice_bounds-token_count-end : goal.slice_bounds-token_count-end
slice_bounds-token_count-end c = let o = c.header_of-header.ensures.names_ordered in let w = c.header_of-header.ensures.names_within in omega arith

pub returns-then-token_count-gt8 : goal.returns-then-token_count-gt8
returns-then-token_count-gt8 c =
    let rest = constraint_lines_refused (lines (drop c.header_of-header.result.constraints c.args.text.now)) in
    lt-ltb _ _ c.if-token_count-gt8.true ∙ sym (ap (λ t. t || rest) (lt-ltb _ _ c.if-token_count-gt8.true)) ∙ lines-refused c.header_of-header.ensures c.token_count.ensures refl

pub slice_bounds-constraint_lines_refused-count : goal.slice_bounds-constraint_lines_refused-count
slice_bounds-constraint_lines_refused-count c = let w = c.header_of-header.ensures.constraints_within in omega arith

pub slice_bounds-constraint_lines_refused-start : goal.slice_bounds-constraint_lines_refused-start
slice_bounds-constraint_lines_refused-start c = let w = c.header_of-header.ensures.constraints_within in omega arith

pub slice_bounds-constraint_lines_refused-end : goal.slice_bounds-constraint_lines_refused-end
slice_bounds-constraint_lines_refused-end c = let w = c.header_of-header.ensures.constraints_within in omega arith

pub returns-else-token_count-gt8 : goal.returns-else-token_count-gt8
returns-else-token_count-gt8 c =
    let all = ap (λ l. constraint_lines_refused (lines l)) (between-all c.args.text.now c.header_of-header.result.constraints c.header_of-header.ensures.constraints_within) in
    sym (ap (λ t. t || c.constraint_lines_refused.result) (le-ltb _ _ c.if-token_count-gt8.false)) ∙ lines-refused c.header_of-header.ensures c.token_count.ensures (c.constraint_lines_refused.ensures ∙ all)
