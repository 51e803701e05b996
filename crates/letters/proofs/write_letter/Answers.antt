-- `letters::write_letter` meets its contract, from the last stream to the first. The loop's invariant: the values of the streams from i on are
-- written, and the rest is the quotient of the number by their count.
use Prim.Native.Nat.{suc, ◌-◌, ◌/◌, ◌%◌, ◌≤◌, ◌<◌, min}
use native.Mathlib.Omega.{arith}
use mathlib.Core.Path.{◌≡◌, refl, sym, ◌∙◌, ap, subst}
use lib.IntN.{pos, ◌+ℤ◌}
use lib.ListN.{length, get_or, length-set}
use mir.Syntax.{w64}
use mir.Val.{SFits}
use mir.ValLaws.{to_z-of_z}
use Rattle.basics.proofs.Reflects.{from_true}
use Rattle.meaning.specs.Letter.{size}
use Rattle.letters.specs.Described.{ranged, described}
use Rattle.letters.proofs.Counts.{length-described, count_from}
use Rattle.letters.proofs.Numbers.{size_exact, written, written_start, written-again, rest-start, rest-again, digit-fits, all-written}
use Rattle.letters.proofs.Streams.{LetterThere, letter_reflects}
use Rattle.letters.proofs.write_letter.Goals as goal
use Rattle.letters.proofs.write_letter.Goals.{Start}

-- In a turn there is a letter with room, and i - 1 is a stream's number.
there : (s : Start) → LetterThere (described s.args.lows.now s.args.highs.now) s.args.number (length s.args.out.now)
there s = from_true (letter_reflects (described s.args.lows.now s.args.highs.now) s.args.number (length s.args.out.now)) s.requires

some_letter : (s : Start) → 0 < count_from s.args.lows.now s.args.highs.now 0
some_letter s = omega (arith, (there s).known)

room-there : (s : Start) → min (length s.args.lows.now) (length s.args.highs.now) ≤ length s.args.out.now
room-there s = omega (arith, (there s).fits, length-described s.args.lows.now s.args.highs.now)

pub loop-i-init : goal.loop-i-init
loop-i-init c =
    let s = c in
    let n = c.min-i.ensures in
    (refl, written_start s.args.lows.now s.args.highs.now s.args.number s.args.out.now n, rest-start s.args.lows.now s.args.highs.now s.args.number n)

pub nonzero_rem-rest : goal.nonzero_rem-rest
nonzero_rem-rest c =
    let stream-there : c.loop-i.i - 1 < min (length c.args.lows.now) (length c.args.highs.now) = omega (arith, c.loop-i-test.true) in
    let exact : (c.values-size.result ≡ size (ranged (get_or c.args.lows.now (c.loop-i.i - 1) (pos 0)) (get_or c.args.highs.now (c.loop-i.i - 1) (pos 0))).range) × (0 < c.values-size.result) = (let s = c in
    let t = c in
    size_exact s.args.lows.now s.args.highs.now (some_letter (goal.at.nonzero_rem-rest c).Start) (there (goal.at.nonzero_rem-rest c).Start).few (c.loop-i.i - 1) (stream-there) (record { sfits = c.values-arg-1.given })
    (record { sfits = c.values-arg-in-loop-i-1.given }) c.values-size.ensures) in
    (exact).1

pub raised-requires : goal.raised-requires
raised-requires c =
    let stream-there : c.loop-i.i - 1 < min (length c.args.lows.now) (length c.args.highs.now) = omega (arith, c.loop-i-test.true) in
    let exact : (c.values-size.result ≡ size (ranged (get_or c.args.lows.now (c.loop-i.i - 1) (pos 0)) (get_or c.args.highs.now (c.loop-i.i - 1) (pos 0))).range) × (0 < c.values-size.result) = (let s = c in
    let t = c in
    size_exact s.args.lows.now s.args.highs.now (some_letter (goal.at.raised-requires c).Start) (there (goal.at.raised-requires c).Start).few (c.loop-i.i - 1) (stream-there) (record { sfits = c.values-arg-1.given })
    (record { sfits = c.values-arg-in-loop-i-1.given }) c.values-size.ensures) in
    let s = c in
    let i = c.loop-i.i - 1 in
    let fl : SFits w64 (get_or s.args.lows.now i (pos 0)) = record { sfits = c.values-arg-1.given } in
    subst (λ z. SFits w64 (z +ℤ pos (c.loop-i.rest % c.values-size.result))) (sym (to_z-of_z w64 (get_or s.args.lows.now i (pos 0)) fl))
    (digit-fits s.args.lows.now s.args.highs.now (some_letter (goal.at.raised-requires c).Start) i (stream-there) fl (record { sfits = c.values-arg-in-loop-i-1.given }) c.loop-i.rest
    (exact).0)

pub bounds-out-i : goal.bounds-out-i
bounds-out-i c = omega (arith, c.loop-i.invariant.0, room-there (goal.at.bounds-out-i c).Start)

pub nonzero_div-rest : goal.nonzero_div-rest
nonzero_div-rest c =
    let stream-there : c.loop-i.i - 1 < min (length c.args.lows.now) (length c.args.highs.now) = omega (arith, c.loop-i-test.true) in
    let exact : (c.values-size.result ≡ size (ranged (get_or c.args.lows.now (c.loop-i.i - 1) (pos 0)) (get_or c.args.highs.now (c.loop-i.i - 1) (pos 0))).range) × (0 < c.values-size.result) = (let s = c in
    let t = c in
    size_exact s.args.lows.now s.args.highs.now (some_letter (goal.at.nonzero_div-rest c).Start) (there (goal.at.nonzero_div-rest c).Start).few (c.loop-i.i - 1) (stream-there) (record { sfits = c.values-arg-1.given })
    (record { sfits = c.values-arg-in-loop-i-1.given }) c.values-size.ensures) in
    (exact).1

pub loop-i-preserved : goal.loop-i-preserved
loop-i-preserved c =
    let stream-there : c.loop-i.i - 1 < min (length c.args.lows.now) (length c.args.highs.now) = omega (arith, c.loop-i-test.true) in
    let exact : (c.values-size.result ≡ size (ranged (get_or c.args.lows.now (c.loop-i.i - 1) (pos 0)) (get_or c.args.highs.now (c.loop-i.i - 1) (pos 0))).range) × (0 < c.values-size.result) = (let s = c in
    let t = c in
    size_exact s.args.lows.now s.args.highs.now (some_letter (goal.at.loop-i-preserved c).Start) (there (goal.at.loop-i-preserved c).Start).few (c.loop-i.i - 1) (stream-there) (record { sfits = c.values-arg-1.given })
    (record { sfits = c.values-arg-in-loop-i-1.given }) c.values-size.ensures) in
    let s = c in
    let loop = c.loop-i in
    let i = loop.i - 1 in
    let t = c in
    let n : loop.i ≡ suc i = omega arith in
    let low = get_or s.args.lows.now i (pos 0) in
    let size = (exact).0 in
    let rest = loop.invariant.2 ∙ ap (λ k. s.args.number / count_from s.args.lows.now s.args.highs.now k) n in (
      length-set loop.out i _ ∙ loop.invariant.0,
      written-again s.args.lows.now s.args.highs.now s.args.number s.args.out.now (some_letter (goal.at.loop-i-preserved c).Start) i (stream-there)
          (room-there (goal.at.loop-i-preserved c).Start) (loop.invariant.1 ∙ ap (written s.args.lows.now s.args.highs.now s.args.number s.args.out.now) n) rest size
          (to_z-of_z w64 c.raised.result (record { sfits = c.raised.type_inv }) ∙ c.raised.ensures
          ∙ ap (λ z. z +ℤ pos (loop.rest % c.values-size.result)) (to_z-of_z w64 low (record { sfits = c.values-arg-1.given }))),
      rest-again s.args.lows.now s.args.highs.now s.args.number i (stream-there) rest size,
    )

pub returns : goal.returns
returns c =
    let s = c in
    all-written s.args.lows.now s.args.highs.now s.args.number s.args.out.now s.requires {i = c.loop-i.i} (omega arith) c.loop-i.invariant.1
