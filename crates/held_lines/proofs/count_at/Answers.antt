-- `held_lines::count_at` meets its contract: beyond the list the default of `get_or` is given.
use mathlib.Core.Path.{sym}
use lib.ListN.{get_or-eq_default}
use Rattle.held_lines.proofs.count_at.Goals as goal

pub returns-else-at-counts : goal.returns-else-at-counts
returns-else-at-counts c = sym (get_or-eq_default c.args.counts.now 0 c.if-at-counts.false)
