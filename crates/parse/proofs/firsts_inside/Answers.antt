-- `parse::firsts_inside` meets its contract: the test decides the definition.
use borrow.Author.Tests.{eq-eqb, ne_eqb}
use Rattle.parse.proofs.firsts_inside.Goals as goal

pub returns-then-kind-eq-FIRST_NODE : goal.returns-then-kind-eq-FIRST_NODE
returns-then-kind-eq-FIRST_NODE c = simp (eq-eqb _ _ c.if-kind-eq-FIRST_NODE.true)

pub returns-else-kind-eq-FIRST_NODE : goal.returns-else-kind-eq-FIRST_NODE
returns-else-kind-eq-FIRST_NODE c = simp (ne_eqb _ _ c.if-kind-eq-FIRST_NODE.false)
