-- `cases::nonzero_bytes` meets its contract: before a place as many are counted as are not 0 (Nonzeros).
use Rattle.std.proofs.Common.{◌≤◌, [], ◌∷◌, length, ◌∙◌, ap, arith}
use Rattle.cases.specs.Cases.{nonzeros}
use Rattle.cases.proofs.Nonzeros.{counted-all, counted_next, count-within}
use Rattle.cases.proofs.nonzero_bytes.Goals as goal

pub overflow_add-count : goal.overflow_add-count
overflow_add-count c = omega (arith, count-within _ _ _ c.loop-byte.invariant _ (omega arith) (c.one_if-count.ensures ∙ ap (λ n. nonzeros (n ∷ [])) c.from.ensures))

pub loop-byte-preserved : goal.loop-byte-preserved
loop-byte-preserved c = counted_next _ _ _ c.loop-byte.invariant _ (omega arith) (c.one_if-count.ensures ∙ ap (λ n. nonzeros (n ∷ [])) c.from.ensures)

pub returns : goal.returns
returns c = let end : length c.args.table.now ≤ c.loop-byte.byte-index = omega arith in counted-all _ _ _ c.loop-byte.invariant end
