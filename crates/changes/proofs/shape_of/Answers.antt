-- `changes::shape_of` meets its contract: the sizes of the streams before `i` are stored.
use mathlib.Core.Path.{◌≡◌, refl, ap, ◌∙◌}
use native.Mathlib.Omega.{arith}
use lib.ListN.{length, length-set}
use borrow.Author.Rules.{rules}
use Rattle.basics.proofs.Lists.{below_set}
use Rattle.meaning.specs.Letter.{size}
use Rattle.letters.specs.Described.{cut_count}
use Rattle.streams.specs.Description.{range_at}
use Rattle.changes.proofs.Streams.{one-stream}
use Rattle.changes.proofs.shape_of.Goals as goal

pub loop-i-init : goal.loop-i-init
loop-i-init c = (omega arith, refl, λ k h. absurd (omega arith))

pub overflow_add-next : goal.overflow_add-next
overflow_add-next c = omega arith

pub offset_bounds-lows-i : goal.offset_bounds-lows-i
offset_bounds-lows-i c = omega arith

pub slice_bounds-letter_count-count : goal.slice_bounds-letter_count-count
slice_bounds-letter_count-count c = omega arith

pub slice_bounds-letter_count-start : goal.slice_bounds-letter_count-start
slice_bounds-letter_count-start c = omega arith

pub slice_bounds-letter_count-end : goal.slice_bounds-letter_count-end
slice_bounds-letter_count-end c =
    let lows-long : length c.args.streams.lows ≡ 8 = search rules in
    omega (arith, lows-long)

pub offset_bounds-highs-i : goal.offset_bounds-highs-i
offset_bounds-highs-i c = omega arith

pub slice_bounds-letter_count-count-in-loop-i : goal.slice_bounds-letter_count-count-in-loop-i
slice_bounds-letter_count-count-in-loop-i c = omega arith

pub slice_bounds-letter_count-start-in-loop-i : goal.slice_bounds-letter_count-start-in-loop-i
slice_bounds-letter_count-start-in-loop-i c = omega arith

pub slice_bounds-letter_count-end-in-loop-i : goal.slice_bounds-letter_count-end-in-loop-i
slice_bounds-letter_count-end-in-loop-i c =
    let highs-long : length c.args.streams.highs ≡ 8 = search rules in
    omega (arith, highs-long)

pub letter_count-requires : goal.letter_count-requires
letter_count-requires c = tt

pub offset_bounds-sizes-i : goal.offset_bounds-sizes-i
offset_bounds-sizes-i c = omega arith

pub bounds-sizes-i : goal.bounds-sizes-i
bounds-sizes-i c = omega arith

pub loop-i-preserved : goal.loop-i-preserved
loop-i-preserved c =
    let lows-long : length c.args.streams.lows ≡ 8 = search rules in
    let highs-long : length c.args.streams.highs ≡ 8 = search rules in
    let start = c in
    let s = start.args.streams in
    let turn = c.loop-i in
    let counted = c.letter_count.ensures ∙ ap cut_count (one-stream s.lows s.highs turn.i (omega (arith, lows-long)) (omega (arith, highs-long))) in (
      omega arith,
      length-set turn.sizes turn.i c.letter_count.result ∙ turn.invariant.1,
      below_set (λ k n. n ≡ cut_count (size (range_at s.lows s.highs k))) turn.sizes turn.i c.letter_count.result (omega (arith, turn.invariant.1)) turn.invariant.2 counted,
    )

pub returns : goal.returns
returns c = record { count = refl; places = c.loop-i.invariant.1; sizes = λ k h. c.loop-i.invariant.2 k (omega arith); kinds = refl }
