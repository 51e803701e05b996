-- `find_pairs` meets its contract: what is behind the rows, and every work table, is cleared (Turns).
use native.Mathlib.Omega.{arith}
use borrow.Author.Rules.{rules}
use Rattle.basics.proofs.Clearing.{zeroed}
use Rattle.pairs.proofs.Turns.{filled-small, filled-outcome}
use Rattle.pairs.proofs.find_pairs.Goals as goal

pub overflow_mul-count : goal.overflow_mul-count
overflow_mul-count c = omega (arith, filled-small c.fill_rows-count.ensures, c.well_formed.1.1.1.1.1.1.1.0)

pub returns : goal.returns
returns c =
    let rows = c.fill_rows-count in
    filled-outcome rows.auto.entries rows.auto.flags rows.ensures c.clear_from.ensures c.clear_from-2.ensures
    (record {
      keys_zero = zeroed (c.fill.ensures.after (search rules)) rows.auto.keys;
      heads_zero = zeroed (c.fill-2.ensures.after (search rules)) rows.auto.heads;
      links_zero = zeroed (c.fill-3.ensures.after (search rules)) rows.auto.links;
    })
