-- `step::entry_at` meets its contract: the number of the two bytes is `number_at` of the entry's width.
use native.Mathlib.Omega.{arith}
use Rattle.stored.specs.Number.{number_at}
use Rattle.step.proofs.entry_at.Goals as goal

pub returns : goal.returns
unfolding number_at
returns c = omega (arith, c.from-low.ensures, c.from-high.ensures)
