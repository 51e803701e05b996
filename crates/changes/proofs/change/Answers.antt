-- `changes::change` meets its contract: the tests are those of the definition.
use mathlib.Core.Path.{sym}
use Rattle.changes.proofs.Axes.{change-same, change-other}
use Rattle.changes.proofs.change.Goals as goal

pub returns-then-own-value : goal.returns-then-own-value
returns-then-own-value c = let a = c.args in sym (change-same a.is_set a.own a.value c.if-own-value.true)

pub returns-else-own-value : goal.returns-else-own-value
returns-else-own-value c = rw c.if-is_set.true (sym (change-other c.if-own-value.false))
