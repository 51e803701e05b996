-- `opening::state_of` meets its contract (Judged).
use mathlib.Core.Path.{ap}
use Rattle.arithmetic.proofs.Machine.{number_cast}
use Rattle.opening.specs.Start.{judged}
use Rattle.opening.proofs.Judged.{negative-none, natural-state, natural-none}
use Rattle.opening.proofs.state_of.Goals as goal

pub returns-then-value-lt0 : goal.returns-then-value-lt0
returns-then-value-lt0 c = let s = c in ap judged (negative-none s.args.value s.ranges.value s.args.states c.if-value-lt0.true)

pub overflow_cast-number : goal.overflow_cast-number
overflow_cast-number c = let s = c in number_cast s.args.value s.ranges.value c.if-value-lt0.false

pub returns-then-number-states : goal.returns-then-number-states
returns-then-number-states c = let s = c in ap judged (natural-state s.args.value s.ranges.value s.args.states c.if-value-lt0.false c.if-number-states.true)

pub returns : goal.returns
returns c = let s = c in ap judged (natural-none s.args.value s.ranges.value s.args.states c.if-value-lt0.false c.if-number-states.false)
