-- `prepare` meets its contract: what the test says makes each step safe, and the steps make the list that is prepared.
use lib.ListN.{length}
use Rattle.basics.proofs.Answers.{says_yes}
use Rattle.prepare.specs.Prepared.{IsPreparable}
use Rattle.prepare.proofs.PreparedLaws.{parts_prepared}
use Rattle.prepare.proofs.prepare.Goals as goal

pub returns : goal.returns
returns c =
    let fits : let a = c.args in IsPreparable (length a.letter_values.now) a.dimensions.streams a.dimensions.width a.count a.key.now (length a.prepared.now) = says_yes c.if-not-is_preparable.false c.is_preparable.ensures in
    let after = c in
    let at = after in
    let a = c.args in
    let fill = c.fill_window in
    let lowers = c.lower_all in
    record {
      done = λ p. parts_prepared a.letter_values.now a.dimensions.streams a.dimensions.width a.count a.key.now a.prepared.now p after.min-held.result after.min-held.ensures fill.new.window lowers.new.prepared fill.ensures lowers.ensures;
      refused = λ p. absurd (p fits);
    }
