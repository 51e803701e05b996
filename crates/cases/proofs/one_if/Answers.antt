-- `cases::one_if` meets its contract (Nonzeros).
use Rattle.cases.proofs.Nonzeros.{zero-not, one-not}
use Rattle.cases.proofs.one_if.Goals as goal

pub returns-then-value-eq0 : goal.returns-then-value-eq0
returns-then-value-eq0 c = zero-not _ c.if-value-eq0.true

pub returns-else-value-eq0 : goal.returns-else-value-eq0
returns-else-value-eq0 c = one-not _ c.if-value-eq0.false
