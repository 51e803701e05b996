-- `reader::is_unknown` meets its contract, by its test.
use mathlib.Core.Path.{◌∙◌}
use borrow.Author.Tests.{ne_eqb}
use Rattle.reader.proofs.Unknown.{name_unknown, no_name}
use Rattle.reader.proofs.is_unknown.Goals as goal

pub returns-then-kind-eq-NAME_NODE : goal.returns-then-kind-eq-NAME_NODE
returns-then-kind-eq-NAME_NODE c = let s = c in name_unknown s.args.kind s.args.value s.args.streams s.ranges.value s.ranges.streams s.requires c.if-kind-eq-NAME_NODE.true

pub returns-else-kind-eq-NAME_NODE : goal.returns-else-kind-eq-NAME_NODE
returns-else-kind-eq-NAME_NODE c = let s = c in ne_eqb _ _ c.if-kind-eq-NAME_NODE.false ∙ no_name s.args.kind s.args.value s.args.streams c.if-kind-eq-NAME_NODE.false
