-- `scan::read_integer` meets its contract: a `-` before digits that are not `0`, or digits.
use mathlib.Core.Path.{ap, ◌∙◌}
use mathlib.Core.Bool.{true, false}
use Rattle.std.proofs.Common.{rules, ◌≡◌, length, Some}
use Rattle.scan.specs.Integer.{signed_read, natural_read}
use Rattle.scan.specs.Place.{between}
use Rattle.scan.proofs.Integers.{integer-none, integer-minus-zero, integer-minus, integer_plain}
use Rattle.scan.proofs.read_integer.Goals as goal

pub returns-then-is_empty : goal.returns-then-is_empty
returns-then-is_empty c = integer-none c.args.token.now (search rules)

pub returns-then-eq : goal.returns-then-eq
returns-then-eq c = let zero : natural_read (between c.args.token.now 1 (length c.args.token.now)) ≡ Some 0 = search rules in integer-minus-zero c.args.token.now (search rules) c.if-token-ne45.false zero

pub returns-then-token-ne45 : goal.returns-then-token-ne45
returns-then-token-ne45 c = c.integer_read.ensures ∙ ap (signed_read false) c.read_natural.ensures ∙ integer_plain c.args.token.now (search rules) c.if-token-ne45.true

pub returns : goal.returns
returns c =
    let other : natural_read (between c.args.token.now 1 (length c.args.token.now)) ≡ Some 0 → ⊥ = λ z. search rules in
    c.integer_read-2.ensures ∙ ap (signed_read true) c.read_natural-natural.ensures ∙ integer-minus c.args.token.now (search rules) c.if-token-ne45.false other
