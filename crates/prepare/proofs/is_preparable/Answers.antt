-- `is_preparable` meets its contract: what the test of sizes says makes each step safe, and the letters whose values are looked for are those of the key.
use lib.ListN.{length}
use Rattle.basics.proofs.Answers.{says_yes, says_both}
use Rattle.prepare.specs.Prepared.{PreparableSizes}
use Rattle.prepare.proofs.PreparedLaws.{part-values, key-values}
use Rattle.prepare.proofs.is_preparable.Goals as goal

pub returns : goal.returns
returns c =
    let sizes : let a = c.args in PreparableSizes a.dimensions.streams a.dimensions.width a.count (length a.key.now) a.room = says_yes c.if-not-are_preparable.false c.are_preparable.ensures in
    let after = c in
    let at = after in
    let a = c.args in
    says_both c.have_values.result
    (λ there. record { sizes = sizes; letters = key-values a.key.now sizes.3 a.dimensions.width after.min-held.result after.min-held.ensures sizes.0 a.values a.dimensions.streams there })
    (λ p. part-values a.key.now sizes.3 a.dimensions.width after.min-held.result after.min-held.ensures sizes.0 a.values a.dimensions.streams p.letters)
    c.have_values.ensures
