-- `changes::lowered` meets its contract: the tests are those of the definition.
use native.Mathlib.Numerals.{add-one}
use borrow.Author.Tests.{lt-ltb, le-ltb}
use Rattle.changes.proofs.lowered.Goals as goal

pub returns-then-least-own : goal.returns-then-least-own
returns-then-least-own c = rw (c.if-is_set.true, lt-ltb _ _ c.if-least-own.true) (add-one _)

pub returns-else-least-own : goal.returns-else-least-own
returns-else-least-own c = rw (c.if-is_set.true, le-ltb _ _ c.if-least-own.false)
