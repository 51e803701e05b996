-- `prepare_row` meets its contract: the part of the rows that is row s holds its key.
use mathlib.Core.Path.{sym, subst}
use lib.ListN.{length}
use Rattle.prepare.specs.Prepared.{IsPreparable, Prepared}
use Rattle.prepare.proofs.PreparedLaws.{prepares_prepared}
use Rattle.explore.proofs.ChainLaws.{row-part}
use Rattle.explore.proofs.prepare_row.Goals as goal

pub returns : goal.returns
returns c =
    let start = c in
    let a = start.args in
    let prepare = c.prepare in
    let is = row-part a.keys.now a.s in
    subst (λ k. Prepared a.letter_values.now a.dimensions.streams a.dimensions.width a.count k prepare.new.prepared) is
    (prepares_prepared prepare.ensures (subst (λ k. IsPreparable (length a.letter_values.now) a.dimensions.streams a.dimensions.width a.count k (length a.prepared.now)) (sym is) start.requires.0))
