-- The measure follows the number of bytes left: three times that number for a part, one more for what stands after `if`, which begins with a part,
-- and two more for an expression.
use Rattle.std.proofs.Common.{◌+◌, length, ◌-◌, ◌*◌}
use Rattle.spans.proofs.+branches_expression_part.Given as goal

abbrev pub decreases-branches : goal.decreases-branches
decreases-branches l = 3 * (length l.text.now - l.at) + 1

abbrev pub decreases-expression : goal.decreases-expression
decreases-expression l = 3 * (length l.text.now - l.at) + 2

abbrev pub decreases-part : goal.decreases-part
decreases-part l = 3 * (length l.text.now - l.at)
