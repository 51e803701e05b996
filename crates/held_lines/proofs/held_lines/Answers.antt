-- `held_lines::held_lines` meets its contract: the streams before, the stream itself and those behind it have the letters that are counted (Streams).
use Prim.Native.Nat.{◌+◌, ◌-◌}
use native.Mathlib.Omega.{arith}
use native.Mathlib.Numerals.{add-one}
use mathlib.Core.Path.{◌≡◌, sym, ◌∙◌, ap}
use lib.ListN.{drop}
use lib.Seq.{length-take-le}
use Rattle.meaning.specs.Letter.{letter_count}
use Rattle.letters.specs.Described.{described, cut_count}
use Rattle.held_lines.proofs.Streams.{described-take, one-stream, streams-behind, no_stream, no_value, stream-lines}
use Rattle.held_lines.proofs.held_lines.Goals as goal

pub returns-then-min-stream : goal.returns-then-min-stream
returns-then-min-stream c =
    let a = c.args in
    no_stream a.counts.now a.lows.now a.highs.now a.stream a.digit c.min.ensures c.if-min-stream.true

pub returns-then-size-digit : goal.returns-then-size-digit
returns-then-size-digit c =
    let a = c.args in
    let one : a.stream + 1 - a.stream ≡ 1 = omega arith in
    no_value a.counts.now a.lows.now a.highs.now a.stream a.digit c.min.ensures c.if-min-stream.false
    (c.letter_count-size.ensures ∙ ap (λ ss. cut_count (letter_count ss)) (one-stream a.lows.now a.highs.now a.stream _ one)) c.if-size-digit.true

pub slice_bounds-letter_count-end-3 : goal.slice_bounds-letter_count-end-3
slice_bounds-letter_count-end-3 c = sym (length-take-le _ _ (omega (arith, c.min.ensures, c.if-min-stream.false)))

pub slice_bounds-letter_count-end-4 : goal.slice_bounds-letter_count-end-4
slice_bounds-letter_count-end-4 c = sym (length-take-le _ _ (omega (arith, c.min.ensures, c.if-min-stream.false)))

pub sum_blocks-requires : goal.sum_blocks-requires
sum_blocks-requires c = (omega (arith, c.letter_count-before.ensures), omega (arith, c.letter_count-size.ensures), omega (arith, c.letter_count-behind.ensures))

pub returns : goal.returns
returns c =
    let a = c.args in
    let one : a.stream + 1 - a.stream ≡ 1 = omega arith in
    stream-lines a.counts.now a.lows.now a.highs.now a.stream a.digit c.min.ensures c.if-min-stream.false c.if-size-digit.false
    (c.letter_count-before.ensures ∙ ap (λ ss. cut_count (letter_count ss)) (described-take a.stream a.lows.now a.highs.now))
    (c.letter_count-size.ensures ∙ ap (λ ss. cut_count (letter_count ss)) (one-stream a.lows.now a.highs.now a.stream _ one))
    (c.letter_count-behind.ensures ∙ ap (λ ss. cut_count (letter_count ss)) (streams-behind a.lows.now a.highs.now (a.stream + 1) ∙ ap (λ n. drop n (described a.lows.now a.highs.now)) (add-one a.stream)))
    c.sum_blocks.ensures
