-- `vocabulary::word_place` meets its contract: the places before the loop's hold other numbers, so that the rest decides.
use native.Mathlib.Omega.{arith}
use Rattle.vocabulary.proofs.Words.{number-here, number-later, number-end}
use Rattle.vocabulary.proofs.word_place.Goals as goal

pub loop-i-init : goal.loop-i-init
loop-i-init c = (omega arith, omega arith)

pub returns-then-word-number : goal.returns-then-word-number
returns-then-word-number c =
    let l = c.loop-i in
    let words = c.args.words.now in
    omega (arith, l.invariant.1, number-here words c.args.number l.i c.loop-i-test.true c.if-word-number.true)

pub loop-i-preserved : goal.loop-i-preserved
loop-i-preserved c =
    let l = c.loop-i in
    let words = c.args.words.now in
    (omega (arith, c.loop-i-test.true), omega (arith, l.invariant.1, number-later words c.args.number l.i c.loop-i-test.true c.if-word-number.false))

pub returns : goal.returns
returns c =
    let l = c.loop-i in
    let words = c.args.words.now in
    omega (arith, l.invariant.0, l.invariant.1, c.loop-i-test.false, number-end words c.args.number l.i (omega (arith, c.loop-i-test.false)))
