-- `places_of` meets its contract: before each turn the places before it are found.
use Prim.Native.Nat.{ℕ, ◌<◌}
use mathlib.Core.Path.{◌≡◌, refl, ◌∙◌}
use native.Mathlib.Omega.{arith}
use lib.ListN.{length, length-set}
use Rattle.basics.proofs.Clearing.{zeros}
use Rattle.streams.specs.Description.{stream_in, description_of}
use Rattle.streams.proofs.Fit.{streams-length, stream-member}
use Rattle.joined_streams.specs.Joined.{place_of}
use Rattle.joined_streams.proofs.Places.{set_below, set-every, place-there}
use Rattle.joined_streams.proofs.places_of.Goals as goal

pub loop-stream-init : goal.loop-stream-init
loop-stream-init c = (refl, (λ k l. absurd (omega arith)), λ k. omega (arith, zeros 8 k))

pub loop-stream-preserved : goal.loop-stream-preserved
loop-stream-preserved c =
    let joined = c.args.joined.now in
    let own = c.args.own.now in
    let loop = c.loop-stream in
    let there = c.requires.covers.place (stream_in own loop.stream) (stream-member own 0 own.count loop.stream (omega arith) (omega (arith, c.loop-stream-test.true))) in
    let long = streams-length joined 0 joined.count in
    let same : c.unwrap_or.result ≡ place_of (description_of joined) (stream_in own loop.stream).name = c.unwrap_or.ensures ∙ place-there joined _ c.place_of.result c.place_of.ensures (omega (arith, there, long)) in
    let small : c.unwrap_or.result < 8 = omega (arith, same, there, long, c.requires.few_joined) in
    let room : loop.stream < length loop.places = omega (arith, c.loop-stream-test.true, c.requires.few_own, loop.invariant.0) in (
      length-set loop.places loop.stream c.unwrap_or.result ∙ loop.invariant.0,
      (λ k l. set_below (λ k v. v ≡ place_of (description_of joined) (stream_in own k).name) loop.places loop.stream c.unwrap_or.result room same loop.invariant.1 k l),
      λ k. set-every (λ (v : ℕ). v < 8) loop.places loop.stream c.unwrap_or.result room small loop.invariant.2 k,
    )

pub returns : goal.returns
returns c = record { each = λ k h. c.loop-stream.invariant.1 k (omega (arith, c.loop-stream-test.false)); small = c.loop-stream.invariant.2 }
