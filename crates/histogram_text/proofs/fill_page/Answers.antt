-- `histogram_text::fill_page` meets its contract: before each turn the bytes hold the lines from `from` to before the place (pages, Lines).
use native.Mathlib.Omega.{arith}
use mathlib.Core.Path.{refl, sym, ◌∙◌}
use lib.Seq.{length-take-le}
use Rattle.pages.proofs.Lines.{no_lines, same-room, copied-line, page_full, page_last}
use Rattle.pages.proofs.Placed.{placed-text}
use Rattle.histogram_text.proofs.fill_page.Goals as goal

pub loop-place-init : goal.loop-place-init
loop-place-init c = (no_lines _, refl)

pub slice_bounds-line_at-end : goal.slice_bounds-line_at-end
slice_bounds-line_at-end c = sym c.loop-place.invariant.1

pub line_at-length-requires : goal.line_at-length-requires
line_at-length-requires c = c.loop-place.invariant.1

pub overflow_sub-out : goal.overflow_sub-out
overflow_sub-out c = let t = c.loop-place.invariant.0 in omega (arith, same-room _ t, t.room)

pub slice_bounds-line-end : goal.slice_bounds-line-end
slice_bounds-line-end c = omega (arith, c.line_at-length.auto.line, c.loop-place.invariant.1, c.min.ensures, c.if-min-length.false)

pub slice_bounds-text-end : goal.slice_bounds-text-end
slice_bounds-text-end c = sym (length-take-le _ _ (omega (arith, c.line_at-length.auto.line, c.loop-place.invariant.1, c.min.ensures, c.if-min-length.false)))

pub slice_bounds-text-count : goal.slice_bounds-text-count
slice_bounds-text-count c = let t = c.loop-place.invariant.0 in omega (arith, same-room _ t, t.room)

pub slice_bounds-text-start : goal.slice_bounds-text-start
slice_bounds-text-start c = let t = c.loop-place.invariant.0 in omega (arith, same-room _ t, t.room)

pub overflow_add-size : goal.overflow_add-size
overflow_add-size c =
    let t = c.loop-place.invariant.0 in
    omega (arith, same-room _ t, t.room, c.min.ensures, c.if-min-length.false, c.well_formed)

pub overflow_add-place : goal.overflow_add-place
overflow_add-place c = omega (arith, c.loop-place-test.true)

pub loop-place-smaller : goal.loop-place-smaller
loop-place-smaller c = omega (arith, c.loop-place-test.true)

pub loop-place-preserved : goal.loop-place-preserved
loop-place-preserved c =
    let t = c.loop-place.invariant in
    let placed = placed-text c.loop-place.out c.loop-place.size c.text.ensures (omega (arith, length-take-le c.line_at-length.result c.line_at-length.new.line (omega (arith, c.line_at-length.auto.line, c.loop-place.invariant.1, c.min.ensures, c.if-min-length.false)), same-room _ t.0, t.0.room, c.min.ensures, c.if-min-length.false)) in
    (copied-line _ t.0 c.line_at-length.ensures c.min.ensures c.loop-place-test.true c.if-min-length.false placed, c.line_at-length.auto.line ∙ t.1)

pub returns-after-loop-place : goal.returns-after-loop-place
returns-after-loop-place c = page_last _ c.loop-place.invariant.0 c.place_count-count.ensures c.loop-place-test.false

pub returns-then-min-length : goal.returns-then-min-length
returns-then-min-length c = page_full _ c.loop-place.invariant.0 c.line_at-length.ensures c.min.ensures c.place_count-count.ensures c.if-min-length.true
