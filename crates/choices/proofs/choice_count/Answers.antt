-- `choices::choice_count` meets its contract: where the letters can be counted, the first one's choice is counted with the choices.
use native.Mathlib.Omega.{arith}
use mathlib.Core.Logic.{inl, inr}
use Rattle.choices.specs.Counted.{uncounted}
use Rattle.choices.proofs.Digits.{can-count, cannot_count}
use Rattle.choices.proofs.Filling.{counted_with}
use Rattle.choices.proofs.choice_count.Goals as goal
use Rattle.choices.proofs.choice_count.Goals.{then-letters-eq0-via-then-letters-eq0, then-letters-eq0-via-else-letters-eq0+then-letters-gt1024}

pub returns-then-letters-eq0 : goal.returns-then-letters-eq0
returns-then-letters-eq0 c = elim c.then-letters-eq0.branch [
  | then-letters-eq0-via-then-letters-eq0 w ↦ uncounted (cannot_count c.args.streams c.letters_made-letters.ensures (inl w.if-letters-eq0.true))
  | then-letters-eq0-via-else-letters-eq0+then-letters-gt1024 w ↦ uncounted (cannot_count c.args.streams c.letters_made-letters.ensures (inr w.if-letters-gt1024.true))
]

pub choice_of-requires : goal.choice_of-requires
choice_of-requires c =
    (can-count c.args.streams c.letters_made-letters.ensures c.if-letters-eq0.false (omega (arith, c.if-letters-gt1024.false))).0

pub returns : goal.returns
returns c =
    counted_with c.args.streams (can-count c.args.streams c.letters_made-letters.ensures c.if-letters-eq0.false (omega (arith, c.if-letters-gt1024.false))).0 c.choice_of.ensures
