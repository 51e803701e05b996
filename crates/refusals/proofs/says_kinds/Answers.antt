-- `refusals::says_kinds` meets its contract: the first token's code tells whether it is one of the words.
use native.Mathlib.Omega.{arith}
use Rattle.scan.proofs.Tokens.{token-within}
use Rattle.refusals.proofs.Lines.{says_first}
use Rattle.refusals.proofs.says_kinds.Goals as goal

pub slice_bounds-stream_kind_code-count : goal.slice_bounds-stream_kind_code-count
slice_bounds-stream_kind_code-count c = let w = token-within c.next_token-start.ensures in omega arith

pub slice_bounds-stream_kind_code-start : goal.slice_bounds-stream_kind_code-start
slice_bounds-stream_kind_code-start c = let w = token-within c.next_token-start.ensures in omega arith

pub slice_bounds-stream_kind_code-end : goal.slice_bounds-stream_kind_code-end
slice_bounds-stream_kind_code-end c = let w = token-within c.next_token-start.ensures in omega arith

pub returns : goal.returns
returns c = says_first c.next_token-start.ensures c.stream_kind_code.ensures
