-- `replaying::advance_values` meets its contract: before each turn the bytes so far are played, and what they print stands at the front of the lent
-- bytes; a turn plays one line, or its bytes to the end of the chunk (Lines). The first turn finds room, so that a byte is played.
use Prim.Native.Nat.{◌≤◌, ◌<◌}
use native.Mathlib.Omega.{arith}
use mathlib.Core.Path.{refl, sym, ◌∙◌, ap, subst}
use mathlib.Core.Logic.{inl, inr, ⊎_elim}
use mathlib.Core.List.{[]}
use lib.ListN.{length, length-drop}
use Rattle.replaying.proofs.Plays.{plays-nothing, same-room, lent-rest}
use Rattle.replaying.proofs.Lines.{from-values, values-bytes, values-state, values-refused}
use Rattle.replaying.proofs.advance_values.Goals.{else-loop-at-test, then-loop-at-test+then-out-size-lt32}
use Rattle.replaying.proofs.advance_values.Goals as goal

pub loop-at-init : goal.loop-at-init
loop-at-init c = (λ ns ls. plays-nothing _ _ _ _ _, inr refl)

pub overflow_sub-out : goal.overflow_sub-out
overflow_sub-out c = let p = c.loop-at.invariant.0 [] [] in omega (arith, p.fits, same-room _ _ p)

pub run_values-run-requires : goal.run_values-run-requires
run_values-run-requires c = tt

pub overflow_add-at : goal.overflow_add-at
overflow_add-at c = omega (arith, c.if-at-chunk.true)

pub slice_bounds-end_values-count : goal.slice_bounds-end_values-count
slice_bounds-end_values-count c = let p = c.loop-at.invariant.0 [] [] in omega (arith, p.fits, same-room _ _ p)

pub slice_bounds-end_values-start : goal.slice_bounds-end_values-start
slice_bounds-end_values-start c = let p = c.loop-at.invariant.0 [] [] in omega (arith, p.fits, same-room _ _ p)

pub end_values-played-requires : goal.end_values-played-requires
end_values-played-requires c =
    let t = c.loop-at in
    let p = t.invariant.0 [] [] in
    (c.requires.1, subst (λ l. 32 ≤ length l) (sym (lent-rest t.out t.size)) (let d = length-drop t.size t.out in omega (arith, c.if-out-size-lt32.false)))

pub overflow_add-size : goal.overflow_add-size
overflow_add-size c =
    let t = c.loop-at in
    let p = t.invariant.0 [] [] in
    let d = ap length (lent-rest t.out t.size) ∙ length-drop t.size t.out in
    omega (arith, p.fits, same-room _ _ p, c.end_values-played.ensures.fits, c.well_formed)

pub ended_at-requires : goal.ended_at-requires
ended_at-requires c = tt

pub returns-then-played : goal.returns-then-played
returns-then-played c =
    let b = c in
    let p = c.loop-at.invariant.0 [] [] in
    let l = c.run_values-run.ensures.0 in
    let e = c.ended_at.ensures in
    let n = ap (λ x. x.next) e in (
      omega (arith, n, p.onward, l.onward),
      λ ns ls.
          from-values b.args.replay b.requires.0 e
          (values-refused _ _ (c.loop-at.invariant.0 ns ls) c.if-out-size-lt32.false l c.run_values-run.ensures.1 c.if-at-chunk.true c.end_values-played.ensures c.if-played.true),
    )

pub line_start-line-requires : goal.line_start-line-requires
line_start-line-requires c = tt

pub one_more-number-requires : goal.one_more-number-requires
one_more-number-requires c = tt

pub loop-at-smaller-then-at-chunk : goal.loop-at-smaller-then-at-chunk
loop-at-smaller-then-at-chunk c = let l = c.run_values-run.ensures.0 in omega (arith, l.onward, c.if-at-chunk.true)

pub loop-at-preserved-then-at-chunk : goal.loop-at-preserved-then-at-chunk
loop-at-preserved-then-at-chunk c =
    let p = c.loop-at.invariant.0 in
    let l = c.run_values-run.ensures.0 in
    (λ ns ls. values-state _ _ (p ns ls) c.if-out-size-lt32.false l c.run_values-run.ensures.1 c.if-at-chunk.true c.end_values-played.ensures c.if-played.false c.line_start-line.ensures c.one_more-number.ensures, inl (omega (arith, (p [] []).onward, l.onward)))

pub loop-at-smaller : goal.loop-at-smaller
loop-at-smaller c = let l = c.run_values-run.ensures.0 in omega (arith, l.inside, c.if-at-chunk.false, c.loop-at-test.true)

pub loop-at-preserved : goal.loop-at-preserved
loop-at-preserved c =
    let p = c.loop-at.invariant.0 in
    let l = c.run_values-run.ensures.0 in
    let h : c.loop-at.at < c.run_values-run.result.next = omega (arith, l.inside, c.if-at-chunk.false, c.loop-at-test.true) in
    (λ ns ls. values-bytes _ _ (p ns ls) c.if-out-size-lt32.false l c.run_values-run.ensures.1 h, inl (omega (arith, h, (p [] []).onward)))

pub values_at-requires : goal.values_at-requires
values_at-requires c = tt

pub returns : goal.returns
returns c =
    let b = c in
    let t = c.loop-at in
    let p = t.invariant.0 [] [] in
    let e = c.values_at.ensures in
    let n = ap (λ x. x.next) e in
    let onward : b.args.from < t.at = elim c.loop-at-test.branch [
      | else-loop-at-test w ↦ omega (arith, w.loop-at-test.false, b.requires.2)
      | then-loop-at-test+then-out-size-lt32 w ↦ ⊎_elim (λ h. h) (λ z. absurd (omega (arith, z, w.if-out-size-lt32.true, same-room _ _ p, b.requires.3))) t.invariant.1
    ] in
    (omega (arith, n, onward), λ ns ls. from-values b.args.replay b.requires.0 e (t.invariant.0 ns ls))
