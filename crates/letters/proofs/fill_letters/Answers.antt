-- `letters::fill_letters` meets its contract, letter after letter. The loop's invariant: the letters before the number are written, and the next one's
-- place is behind them. From the laws of all letters (AllLetters).
use Prim.Native.Nat.{suc, ◌+◌, ◌*◌, ◌-◌}
use mathlib.Core.Path.{◌≡◌, refl, sym, ◌∙◌, ap}
use native.Mathlib.Nat.{zero-mul, suc-mul}
use native.Mathlib.Omega.{arith}
use Rattle.letters.proofs.AllLetters.{filled, too_many, no_letter, no_room, filled-start, filled-again, can_write_next, all-filled}
use Rattle.letters.proofs.fill_letters.Goals as goal

pub returns-then-count-gt1024 : goal.returns-then-count-gt1024
returns-then-count-gt1024 c = let s = c in too_many s.args.lows.now s.args.highs.now s.args.out.now c.letter_count-count.ensures c.if-count-gt1024.true

pub returns-then-count-eq0 : goal.returns-then-count-eq0
returns-then-count-eq0 c = let s = c in no_letter s.args.lows.now s.args.highs.now s.args.out.now c.letter_count-count.ensures c.if-count-gt1024.false c.if-count-eq0.true

pub returns-then-out-count : goal.returns-then-out-count
returns-then-out-count c = let s = c in no_room s.args.lows.now s.args.highs.now s.args.out.now c.letter_count-count.ensures c.if-count-gt1024.false c.min-n.ensures c.if-count-eq0.false c.if-out-count.true

pub loop-number-init : goal.loop-number-init
loop-number-init c = let s = c in (refl, sym (zero-mul c.min-n.result), filled-start s.args.lows.now s.args.highs.now s.args.out.now)

pub write_letter-requires : goal.write_letter-requires
write_letter-requires c =
    let s = c in
    let loop = c.loop-number in
    let n = c.min-n.result in
    let wide : loop.at + n - loop.at ≡ n = omega arith in
    can_write_next s.args.lows.now s.args.highs.now s.args.out.now c.letter_count-count.ensures c.if-count-gt1024.false c.min-n.ensures c.if-count-eq0.false c.if-out-count.false loop.number c.loop-number-test.true
    loop.out loop.invariant.1 wide loop.invariant.0

pub loop-number-preserved : goal.loop-number-preserved
loop-number-preserved c =
    let s = c in
    let loop = c.loop-number in
    let n = c.min-n.result in
    let more : suc loop.number ≡ loop.number + 1 = omega arith in
    let wide : loop.at + n - loop.at ≡ n = omega arith in (
      c.out-1.given.1 ∙ loop.invariant.0,
      ap (λ x. x + n) loop.invariant.1 ∙ sym (suc-mul loop.number n) ∙ ap (λ x. x * n) more,
      filled-again s.args.lows.now s.args.highs.now s.args.out.now c.letter_count-count.ensures c.if-count-gt1024.false c.min-n.ensures c.if-count-eq0.false c.if-out-count.false loop.number c.loop-number-test.true
          loop.invariant.1 wide loop.invariant.2 c.write_letter.ensures
          ∙ ap (filled s.args.lows.now s.args.highs.now s.args.out.now) more,
    )

pub returns : goal.returns
returns c = let s = c in all-filled s.args.lows.now s.args.highs.now s.args.out.now c.letter_count-count.ensures c.if-count-gt1024.false c.min-n.ensures c.if-count-eq0.false c.if-out-count.false (omega arith) c.loop-number.invariant.2
