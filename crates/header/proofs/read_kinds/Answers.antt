-- `header::read_kinds` meets its contract: the words before the loop's place are kinds, which are stored, and as many words as streams are read.
use mathlib.Core.Path.{refl}
use native.Mathlib.Omega.{arith}
use Rattle.scan.proofs.Tokens.{token-within}
use Rattle.header.proofs.StreamKinds.{kinds-unsaid, kinds_uneven, kinds-start, kinds-end, kinds-other, kinds-step}
use Rattle.header.proofs.read_kinds.Goals as goal

pub returns-then-total-eq0 : goal.returns-then-total-eq0
returns-then-total-eq0 c = kinds-unsaid c.token_count-total.ensures c.if-total-eq0.true c.requires.0 c.requires.1

pub returns-then-total-count : goal.returns-then-total-count
returns-then-total-count c = kinds_uneven c.token_count-total.ensures c.if-total-eq0.false c.if-total-count.true

pub loop-stream-init : goal.loop-stream-init
loop-stream-init c = kinds-start _ c.token_count-total.ensures c.if-total-count.false c.requires.1

pub slice_bounds-stream_kind_code-count : goal.slice_bounds-stream_kind_code-count
slice_bounds-stream_kind_code-count c = let w = token-within c.next_token-start.ensures in omega arith

pub slice_bounds-stream_kind_code-start : goal.slice_bounds-stream_kind_code-start
slice_bounds-stream_kind_code-start c = let w = token-within c.next_token-start.ensures in omega arith

pub slice_bounds-stream_kind_code-end : goal.slice_bounds-stream_kind_code-end
slice_bounds-stream_kind_code-end c = let w = token-within c.next_token-start.ensures in omega arith

pub returns-then-kind : goal.returns-then-kind
returns-then-kind c =
    let start = c in
    kinds-other c.loop-stream.invariant c.next_token-start.ensures c.stream_kind_code-kind.ensures
    start.token_count-total.ensures c.if-total-eq0.false c.if-total-count.false c.loop-stream-test.true c.if-kind.true

pub bounds-stream_kinds-stream : goal.bounds-stream_kinds-stream
bounds-stream_kinds-stream c = omega (arith, c.requires.0)

pub loop-stream-preserved : goal.loop-stream-preserved
loop-stream-preserved c =
    kinds-step c.loop-stream.invariant c.next_token-start.ensures c.stream_kind_code-kind.ensures
    c.requires.0 c.loop-stream-test.true c.if-kind.false refl

pub returns : goal.returns
returns c =
    kinds-end c.loop-stream.invariant c.token_count-total.ensures c.if-total-eq0.false c.if-total-count.false c.loop-stream-test.false
