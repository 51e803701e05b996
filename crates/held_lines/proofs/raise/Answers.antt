-- `held_lines::raise` meets its contract; a place beyond the list is not stored to.
use mathlib.Core.Path.{sym, ap}
use lib.ListN.{set}
use Rattle.held_lines.proofs.Raised.{set_beyond}
use Rattle.held_lines.proofs.raise.Goals as goal

pub returns-then-letter-counts : goal.returns-then-letter-counts
returns-then-letter-counts c = ap (set c.args.counts.now c.args.letter) c.one_more.ensures

pub returns-else-letter-counts : goal.returns-else-letter-counts
returns-else-letter-counts c = sym (set_beyond c.args.counts.now c.args.letter _ c.if-letter-counts.false)
