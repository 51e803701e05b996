-- `reader::floored_kind` meets its contract: its tests are the definition's.
use mathlib.Core.Path.{sym}
use borrow.Author.Tests.{eq-eqb, ne_eqb}
use Rattle.reader.proofs.floored_kind.Goals as goal

pub returns-then-kind-eq-DIVIDE_NODE : goal.returns-then-kind-eq-DIVIDE_NODE
returns-then-kind-eq-DIVIDE_NODE c = sym (simp (eq-eqb c.args.kind 10 c.if-kind-eq-DIVIDE_NODE.true))

pub returns-then-kind-eq-REMAINDER_NODE : goal.returns-then-kind-eq-REMAINDER_NODE
returns-then-kind-eq-REMAINDER_NODE c = sym (simp (ne_eqb c.args.kind 10 c.if-kind-eq-DIVIDE_NODE.false, eq-eqb c.args.kind 11 c.if-kind-eq-REMAINDER_NODE.true))

pub returns : goal.returns
returns c = sym (simp (ne_eqb c.args.kind 10 c.if-kind-eq-DIVIDE_NODE.false, ne_eqb c.args.kind 11 c.if-kind-eq-REMAINDER_NODE.false))
