-- `refusals::release_number` meets its contract: the first word and the number of tokens decide, and the second token is read.
use mathlib.Core.Path.{sym, ◌∙◌}
use native.Mathlib.Omega.{arith}
use Rattle.scan.proofs.Tokens.{token-within}
use Rattle.refusals.proofs.Lines.{number-other, number_more, number-said}
use Rattle.refusals.proofs.release_number.Goals as goal
use Rattle.refusals.proofs.release_number.Goals.{then-not-is_release-via-then-not-is_release, then-not-is_release-via-else-not-is_release+then-token_count-ne2}

pub slice_bounds-is_release-count : goal.slice_bounds-is_release-count
slice_bounds-is_release-count c = let w = token-within c.next_token-word.ensures in omega arith

pub slice_bounds-is_release-start : goal.slice_bounds-is_release-start
slice_bounds-is_release-start c = let w = token-within c.next_token-word.ensures in omega arith

pub slice_bounds-is_release-end : goal.slice_bounds-is_release-end
slice_bounds-is_release-end c = let w = token-within c.next_token-word.ensures in omega arith

pub returns-then-not-is_release : goal.returns-then-not-is_release
returns-then-not-is_release c =
    elim c.then-not-is_release.branch [
      | then-not-is_release-via-then-not-is_release w ↦ number-other c.next_token-word.ensures (sym c.is_release.ensures ∙ w.if-not-is_release.true)
      | then-not-is_release-via-else-not-is_release+then-token_count-ne2 w ↦ number_more c.next_token-word.ensures (λ e. w.if-token_count-ne2.true (w.token_count.ensures ∙ e))
    ]

pub slice_bounds-read_integer-count : goal.slice_bounds-read_integer-count
slice_bounds-read_integer-count c = let w = token-within c.next_token-number.ensures in omega arith

pub slice_bounds-read_integer-start : goal.slice_bounds-read_integer-start
slice_bounds-read_integer-start c = let w = token-within c.next_token-number.ensures in omega arith

pub slice_bounds-read_integer-end : goal.slice_bounds-read_integer-end
slice_bounds-read_integer-end c = let w = token-within c.next_token-number.ensures in omega arith

pub returns : goal.returns
returns c = c.read_integer.ensures ∙ number-said c.next_token-word.ensures (sym c.is_release.ensures ∙ c.if-not-is_release.false) (sym c.token_count.ensures ∙ c.if-token_count-ne2.false) c.next_token-number.ensures
