-- `cases::nonzero_words` meets its contract: before a place as many are counted as are not 0 (Nonzeros).
use Rattle.std.proofs.Common.{◌≤◌, length, arith}
use Rattle.cases.proofs.Nonzeros.{counted-all, counted_next, count-within}
use Rattle.cases.proofs.nonzero_words.Goals as goal

pub overflow_add-count : goal.overflow_add-count
overflow_add-count c = omega (arith, count-within _ _ _ c.loop-word.invariant _ (omega arith) c.one_if-count.ensures)

pub loop-word-preserved : goal.loop-word-preserved
loop-word-preserved c = counted_next _ _ _ c.loop-word.invariant _ (omega arith) c.one_if-count.ensures

pub returns : goal.returns
returns c = let end : length c.args.table.now ≤ c.loop-word.word-index = omega arith in counted-all _ _ _ c.loop-word.invariant end
