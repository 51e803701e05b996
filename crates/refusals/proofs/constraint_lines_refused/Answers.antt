-- `refusals::constraint_lines_refused` meets its contract: what the lines before the loop's place gave is counted, and none of them is too deep.
use mathlib.Core.Path.{sym, ap, ◌∙◌}
use native.Mathlib.Omega.{arith}
use borrow.Author.Tests.{lt-ltb, le-ltb}
use mathlib.Core.Bool.{◌||◌}
use lib.Dec.{ltb}
use Rattle.scan.proofs.Lines.{line-within}
use Rattle.refusals.proofs.Lines.{counted_start, counted_step, counted-deep, counted-end}
use Rattle.refusals.proofs.constraint_lines_refused.Goals as goal

pub loop-at-init : goal.loop-at-init
loop-at-init c = counted_start c.args.text.now

pub slice_bounds-too_deep-count : goal.slice_bounds-too_deep-count
slice_bounds-too_deep-count c = let w = line-within c.next_line-line.ensures c.loop-at.invariant.within in let f = w.forward in let o = w.ordered in let i = w.within in omega arith

pub slice_bounds-too_deep-start : goal.slice_bounds-too_deep-start
slice_bounds-too_deep-start c = let w = line-within c.next_line-line.ensures c.loop-at.invariant.within in let f = w.forward in let o = w.ordered in let i = w.within in omega arith

pub slice_bounds-too_deep-end : goal.slice_bounds-too_deep-end
slice_bounds-too_deep-end c = let w = line-within c.next_line-line.ensures c.loop-at.invariant.within in let f = w.forward in let o = w.ordered in let i = w.within in omega arith

pub returns-then-too_deep : goal.returns-then-too_deep
returns-then-too_deep c =
    let line = c in
    counted-deep line.loop-at.invariant line.loop-at-test.true line.next_line-line.ensures (sym c.if-too_deep.true ∙ c.too_deep.ensures)

pub overflow_add-count : goal.overflow_add-count
overflow_add-count c = let k = c.loop-at.invariant.few_lines in omega arith

pub slice_bounds-token_count-count : goal.slice_bounds-token_count-count
slice_bounds-token_count-count c = let w = line-within c.next_line-line.ensures c.loop-at.invariant.within in let f = w.forward in let o = w.ordered in let i = w.within in omega arith

pub slice_bounds-token_count-start : goal.slice_bounds-token_count-start
slice_bounds-token_count-start c = let w = line-within c.next_line-line.ensures c.loop-at.invariant.within in let f = w.forward in let o = w.ordered in let i = w.within in omega arith

pub slice_bounds-token_count-end : goal.slice_bounds-token_count-end
slice_bounds-token_count-end c = let w = line-within c.next_line-line.ensures c.loop-at.invariant.within in let f = w.forward in let o = w.ordered in let i = w.within in omega arith

pub overflow_add-tokens : goal.overflow_add-tokens
overflow_add-tokens c =
    let line = c in
    let k = counted_step line.loop-at.invariant line.loop-at-test.true line.next_line-line.ensures (sym c.if-too_deep.false ∙ c.too_deep.ensures) c.token_count-tokens.ensures in
    let f = k.few_tokens in
    let i = k.within in
    omega arith

pub loop-at-smaller : goal.loop-at-smaller
loop-at-smaller c =
    let line = c in
    let w = line-within line.next_line-line.ensures line.loop-at.invariant.within in
    let f = w.further line.loop-at-test.true in
    let i = w.within in
    omega arith

pub loop-at-preserved : goal.loop-at-preserved
loop-at-preserved c =
    let line = c in
    counted_step line.loop-at.invariant line.loop-at-test.true line.next_line-line.ensures (sym c.if-too_deep.false ∙ c.too_deep.ensures) c.token_count-tokens.ensures

pub returns-then-count-gt-MOST_LINES : goal.returns-then-count-gt-MOST_LINES
returns-then-count-gt-MOST_LINES c = lt-ltb _ _ c.if-count-gt-MOST_LINES.true ∙ sym (ap (λ t. t || ltb 1024 c.loop-at.tokens) (lt-ltb _ _ c.if-count-gt-MOST_LINES.true)) ∙ counted-end c.loop-at.invariant c.loop-at-test.false

pub returns-else-count-gt-MOST_LINES : goal.returns-else-count-gt-MOST_LINES
returns-else-count-gt-MOST_LINES c = sym (ap (λ t. t || ltb 1024 c.loop-at.tokens) (le-ltb _ _ c.if-count-gt-MOST_LINES.false)) ∙ counted-end c.loop-at.invariant c.loop-at-test.false
