-- `parse::store_token_starts` meets its contract: the starts below the loop's place are stored, and at the end these are all starts of the
-- line's tokens.
use mathlib.Core.Path.{sym, ◌∙◌}
use native.Mathlib.Omega.{arith}
use Rattle.parse.proofs.Filled.{filled-start, filled-end, filled-count, begins-room, filled-begins, filled-passes}
use Rattle.parse.proofs.store_token_starts.Goals as goal
use Rattle.parse.proofs.store_token_starts.Goals.{then-begins_token, else-begins_token}

pub loop-i-init : goal.loop-i-init
loop-i-init c = filled-start _ _ _ c.requires

pub offset_bounds-token_starts-count : goal.offset_bounds-token_starts-count
offset_bounds-token_starts-count c = let room = begins-room c.loop-i.invariant c.loop-i-test.true (sym c.begins_token.ensures ∙ c.if-begins_token.true) in omega arith

pub bounds-token_starts-count : goal.bounds-token_starts-count
bounds-token_starts-count c = begins-room c.loop-i.invariant c.loop-i-test.true (sym c.begins_token.ensures ∙ c.if-begins_token.true)

pub overflow_add-count : goal.overflow_add-count
overflow_add-count c = let room = begins-room c.loop-i.invariant c.loop-i-test.true (sym c.begins_token.ensures ∙ c.if-begins_token.true) in omega arith

pub returns : goal.returns
returns c = (filled-count c.loop-i.invariant c.loop-i-test.false, filled-end c.loop-i.invariant c.loop-i-test.false)

pub loop-i-preserved : goal.loop-i-preserved
loop-i-preserved c =
    let filled = c.loop-i.invariant in
    let more = c.loop-i-test.true in
    let tested = c.begins_token.ensures in
    elim c.if-begins_token.branch [
      | then-begins_token w ↦ rw (w.token_starts-is, w.count-is, c.is_inside-inside.ensures) (filled-begins filled more (sym tested ∙ w.if-begins_token.true))
      | else-begins_token w ↦ rw (w.token_starts-is, w.count-is, c.is_inside-inside.ensures) (filled-passes filled more (sym tested ∙ w.if-begins_token.false))
    ]
