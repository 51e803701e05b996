-- `with_others` meets its contract: what is left to add to the streams so far gives the same (Describing).
use Prim.Native.Nat.{◌+◌, ◌-◌}
use mathlib.Core.Path.{◌≡◌, sym, ◌∙◌, ap}
use mathlib.Core.Bool.{Bool, true, false, not, cond}
use native.Mathlib.Omega.{arith}
use lib.Dec.{eqb}
use lib.ListN.{length}
use borrow.Author.Tests.{eq-eqb, ne_eqb}
use Rattle.streams.specs.Description.{stream_in, description_of}
use Rattle.streams.proofs.Fit.{streams-length}
use Rattle.streams.specs.declared.StreamsDescription.{StreamsDescription}
use Rattle.joined_streams.specs.Joined.{place_of}
use Rattle.joined_streams.specs.Describing.{with_described, with_others}
use Rattle.joined_streams.proofs.Describing.{described-count, others-step, others-none-left}
use Rattle.joined_streams.proofs.Places.{missing-place, found-place}
use Rattle.joined_streams.proofs.with_others.Goals as goal
use Rattle.joined_streams.proofs.with_others.Goals.{then-is_none, else-is_none}

pub loop-stream-init : goal.loop-stream-init
loop-stream-init c =
    let a = c.args in
    let e : a.from.now.count - 0 ≡ a.from.now.count = omega arith in (omega (arith, c.requires.0), ap (with_others a.known.now a.from.now a.to.now 0) e)

pub loop-stream-preserved : goal.loop-stream-preserved
loop-stream-preserved c =
    let loop = c.loop-stream in
    let known = c.args.known.now in
    let from = c.args.from.now in
    let to = c.args.to.now in
    let long = streams-length known 0 known.count in
    let place = place_of (description_of known) (stream_in from loop.stream).name in
    let all = length (description_of known) in
    let step = others-step known from loop.all loop.stream from.count c.loop-stream-test.true in
    let by : (b : Bool) → eqb (place_of (description_of known) (stream_in from loop.stream).name) (length (description_of known)) ≡ b
    → with_others known from (cond b (with_described loop.all from loop.stream) loop.all) (loop.stream + 1) (from.count - (loop.stream + 1)) ≡ with_others known from to 0 from.count =
    λ b q. ap (λ x. with_others known from (cond x (with_described loop.all from loop.stream) loop.all) (loop.stream + 1) (from.count - (loop.stream + 1))) (sym q) ∙ sym step ∙ loop.invariant.1 in
    elim c.if-is_none.branch [
      | then-is_none w ↦ (rw w.all-is (omega (arith, loop.invariant.0, ap (λ (x : StreamsDescription). x.count) w.with_stream-all.ensures, described-count loop.all from loop.stream)), rw (w.all-is, w.with_stream-all.ensures) (by true (eq-eqb place all (omega (arith, missing-place known _ c.place_of.result c.place_of.ensures (c.is_none.ensures ∙ ap not w.if-is_none.true), long)))))
      | else-is_none w ↦ (rw w.all-is (omega (arith, loop.invariant.0)), rw w.all-is (by false (ne_eqb place all (λ q. found-place known _ c.place_of.result c.place_of.ensures (c.is_none.ensures ∙ ap not w.if-is_none.false) (omega (arith, q, long))))))
    ]

pub returns : goal.returns
returns c =
    let loop = c.loop-stream in
    let a = c.args in
    let e : a.from.now.count - loop.stream ≡ 0 = omega (arith, c.loop-stream-test.false) in
    sym (others-none-left a.known.now a.from.now loop.all loop.stream) ∙ ap (with_others a.known.now a.from.now loop.all loop.stream) (sym e) ∙ loop.invariant.1
