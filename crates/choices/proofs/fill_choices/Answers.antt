-- `choices::fill_choices` meets its contract, letter by letter. The loop's invariant: the choices of the letters before this one are written.
use Prim.Native.Nat.{◌≤◌, ◌<◌}
use native.Mathlib.Omega.{arith}
use mathlib.Core.Path.{◌≡◌}
use mathlib.Core.Logic.{inl, inr}
use lib.ListN.{length}
use Rattle.meaning.specs.Letter.{letter_count}
use Rattle.streams.specs.Description.{description_of}
use Rattle.choices.specs.Counted.{CanCount, filled, unfilled}
use Rattle.choices.proofs.Digits.{can-count, cannot_count}
use Rattle.choices.proofs.Filling.{filling_start, filling_next, filling_end, letter-choice, choice-small}
use Rattle.choices.proofs.fill_choices.Goals as goal
use Rattle.choices.proofs.fill_choices.Goals.{then-letters-eq0-via-then-letters-eq0, then-letters-eq0-via-else-letters-eq0+then-letters-gt1024, then-letters-eq0-via-else-letters-eq0+else-letters-gt1024+then-out-letters}

pub returns-then-letters-eq0 : goal.returns-then-letters-eq0
returns-then-letters-eq0 c = elim c.then-letters-eq0.branch [
  | then-letters-eq0-via-then-letters-eq0 w ↦ unfilled (λ h. cannot_count c.args.streams c.letters_made-letters.ensures (inl w.if-letters-eq0.true) h.0)
  | then-letters-eq0-via-else-letters-eq0+then-letters-gt1024 w ↦ unfilled (λ h. cannot_count c.args.streams c.letters_made-letters.ensures (inr w.if-letters-gt1024.true) h.0)
  | then-letters-eq0-via-else-letters-eq0+else-letters-gt1024+then-out-letters w ↦
      unfilled (λ h. omega (arith, h.1, w.if-out-letters.true, (can-count c.args.streams c.letters_made-letters.ensures w.if-letters-eq0.false (omega (arith, w.if-letters-gt1024.false))).1))
]

pub loop-letter-init : goal.loop-letter-init
loop-letter-init c = filling_start c.args.out.now

pub choice_of-chosen-requires : goal.choice_of-chosen-requires
choice_of-chosen-requires c =
    let can : CanCount c.args.streams × (c.letters_made-letters.result ≡ letter_count (description_of c.args.streams)) = can-count c.args.streams c.letters_made-letters.ensures c.if-letters-eq0.false (omega (arith, c.if-letters-gt1024.false)) in
    (can).0

pub overflow_cast-out : goal.overflow_cast-out
overflow_cast-out c =
    let can : CanCount c.args.streams × (c.letters_made-letters.result ≡ letter_count (description_of c.args.streams)) = can-count c.args.streams c.letters_made-letters.ensures c.if-letters-eq0.false (omega (arith, c.if-letters-gt1024.false)) in
    omega (arith, choice-small c.args.streams (can).0 c.choice_of-chosen.ensures)

pub loop-letter-preserved : goal.loop-letter-preserved
loop-letter-preserved c =
    let can : CanCount c.args.streams × (c.letters_made-letters.result ≡ letter_count (description_of c.args.streams)) = can-count c.args.streams c.letters_made-letters.ensures c.if-letters-eq0.false (omega (arith, c.if-letters-gt1024.false)) in
    let room : letter_count (description_of c.args.streams) ≤ length c.args.out.now = omega (arith, c.if-out-letters.false, (can).1) in
    let next : c.loop-letter.letter < length c.loop-letter.out = omega (arith, c.loop-letter.invariant.same, room, (can).1, c.loop-letter-test.true) in
    filling_next next (letter-choice c.args.streams (omega (arith, c.loop-letter-test.true, (can).1)) c.choice_of-chosen.ensures) c.loop-letter.invariant

pub returns : goal.returns
returns c =
    let can : CanCount c.args.streams × (c.letters_made-letters.result ≡ letter_count (description_of c.args.streams)) = can-count c.args.streams c.letters_made-letters.ensures c.if-letters-eq0.false (omega (arith, c.if-letters-gt1024.false)) in
    let room : letter_count (description_of c.args.streams) ≤ length c.args.out.now = omega (arith, c.if-out-letters.false, (can).1) in
    filled (can).0 (room) (filling_end (omega (arith, c.loop-letter-test.false, (can).1)) c.loop-letter.invariant)
