-- `reader::test_stored` meets its contract: what its calls give is what the tests are made of.
use mathlib.Core.Path.{◌∙◌}
use Rattle.lowest_refusal.specs.Tested.{tested_with}
use Rattle.reader.specs.Tested.{tested_as}
use Rattle.reader.proofs.test_stored.Goals as goal

pub returns : goal.returns
unfolding tested_as
returns c =
    let a = c.args in
    let unknown = c.some_unknown-unknown.ensures in
    let extent = c.extent_of-extent.ensures in
    let letters = c.letter_count-letters.ensures in
    c.lowest_refusal.ensures ∙ (λ i. tested_with (unknown i) a.faulty (extent i).ok (letters i) a.untils a.firsts (extent i).ahead (extent i).back)
