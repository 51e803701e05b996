-- `replaying::advance` meets its contract: before each turn the bytes so far are played, and a turn plays a part more, to the end of the chunk or
-- until there is no room (Plays).
use Prim.Native.Nat.{◌≤◌}
use native.Mathlib.Omega.{arith}
use mathlib.Core.Path.{sym, ◌∙◌, ap, subst}
use lib.ListN.{length, length-drop}
use Rattle.replaying.proofs.Plays.{plays-nothing, same-room, lent-rest, plays_on, stops-at-end, stops-without-room}
use Rattle.replaying.proofs.advance.Goals as goal

pub letter_count-letters-requires : goal.letter_count-letters-requires
letter_count-letters-requires c = tt

pub loop-at-init : goal.loop-at-init
loop-at-init c = plays-nothing _ _ _ _ _

pub overflow_sub-out : goal.overflow_sub-out
overflow_sub-out c = let p = c.loop-at.invariant in omega (arith, p.fits, same-room _ _ p)

pub slice_bounds-advance_stage-count : goal.slice_bounds-advance_stage-count
slice_bounds-advance_stage-count c = let p = c.loop-at.invariant in omega (arith, p.fits, same-room _ _ p)

pub slice_bounds-advance_stage-start : goal.slice_bounds-advance_stage-start
slice_bounds-advance_stage-start c = let p = c.loop-at.invariant in omega (arith, p.fits, same-room _ _ p)

pub advance_stage-part-requires : goal.advance_stage-part-requires
advance_stage-part-requires c =
    let t = c.loop-at in
    (c.letter_count-letters.ensures, c.loop-at-test.true, subst (λ l. 32 ≤ length l) (sym (lent-rest t.out t.size)) (let d = length-drop t.size t.out in omega (arith, c.if-out-size-lt32.false)))

pub overflow_add-size : goal.overflow_add-size
overflow_add-size c =
    let t = c.loop-at in
    let p = t.invariant in
    let d = ap length (lent-rest t.out t.size) ∙ length-drop t.size t.out in
    omega (arith, p.fits, same-room _ _ p, c.advance_stage-part.ensures.1.fits, c.well_formed)

pub loop-at-smaller : goal.loop-at-smaller
loop-at-smaller c = omega (arith, c.advance_stage-part.ensures.0, c.loop-at-test.true)

pub loop-at-preserved : goal.loop-at-preserved
loop-at-preserved c = plays_on _ _ c.loop-at.invariant c.advance_stage-part.ensures.1

pub returns-after-loop-at : goal.returns-after-loop-at
returns-after-loop-at c = stops-at-end _ _ c.loop-at.invariant c.loop-at-test.false

pub returns-then-out-size-lt32 : goal.returns-then-out-size-lt32
returns-then-out-size-lt32 c = stops-without-room _ _ c.loop-at.invariant c.if-out-size-lt32.true
