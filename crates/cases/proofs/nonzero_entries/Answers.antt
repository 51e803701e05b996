-- `cases::nonzero_entries` meets its contract: before a place as many are counted as are not 0 (Nonzeros).
use Rattle.std.proofs.Common.{◌≤◌, [], ◌∷◌, length, ◌∙◌, ap, arith}
use Rattle.cases.specs.Cases.{nonzeros}
use Rattle.cases.proofs.Nonzeros.{counted-all, counted_next, count-within}
use Rattle.cases.proofs.nonzero_entries.Goals as goal

pub overflow_add-count : goal.overflow_add-count
overflow_add-count c = omega (arith, count-within _ _ _ c.loop-entry.invariant _ (omega arith) (c.one_if-count.ensures ∙ ap (λ n. nonzeros (n ∷ [])) c.from.ensures))

pub loop-entry-preserved : goal.loop-entry-preserved
loop-entry-preserved c = counted_next _ _ _ c.loop-entry.invariant _ (omega arith) (c.one_if-count.ensures ∙ ap (λ n. nonzeros (n ∷ [])) c.from.ensures)

pub returns : goal.returns
returns c = let end : length c.args.table.now ≤ c.loop-entry.entry-index = omega arith in counted-all _ _ _ c.loop-entry.invariant end
