-- The measure follows the number of unread tokens: twice that number for a part, one more for an expression and for what stands after `if`, since these
-- begin with a part of the same tokens.
use Prim.Native.Nat.{◌+◌, ◌*◌}
use lib.ListN.{length}
use Rattle.parse.specs.Numbered.{tokens_from}
use Rattle.parse.proofs.+conditional_expression_part.Given as goal

abbrev pub decreases-conditional : goal.decreases-conditional
decreases-conditional l = 2 * length (tokens_from l.text.now l.origin l.token_starts.now l.at) + 1

abbrev pub decreases-expression : goal.decreases-expression
decreases-expression l = 2 * length (tokens_from l.text.now l.origin l.token_starts.now l.at) + 1

abbrev pub decreases-part : goal.decreases-part
decreases-part l = 2 * length (tokens_from l.text.now l.origin l.token_starts.now l.at)
