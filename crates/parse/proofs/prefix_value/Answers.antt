-- `parse::prefix_value` meets its contract: the test decides the definition.
use mathlib.Core.Path.{sym, ◌∙◌}
use mir.Syntax.{w64}
use mir.ValLaws.{to_z-of_z}
use borrow.Author.Tests.{eq-eqb, ne_eqb}
use Rattle.parse.proofs.prefix_value.Goals as goal

pub returns-then-kind-eq-FIRST_NODE : goal.returns-then-kind-eq-FIRST_NODE
returns-then-kind-eq-FIRST_NODE c = to_z-of_z w64 c.value_of.result (record { sfits = c.value_of.type_inv }) ∙ c.value_of.ensures ∙ sym (simp (eq-eqb _ _ c.if-kind-eq-FIRST_NODE.true))

pub returns-else-kind-eq-FIRST_NODE : goal.returns-else-kind-eq-FIRST_NODE
returns-else-kind-eq-FIRST_NODE c = simp (ne_eqb _ _ c.if-kind-eq-FIRST_NODE.false)
