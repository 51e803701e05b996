-- `fill_rows` meets its contract: where the sizes are right, the rows found get their flags.
use lib.ListN.{length}
use Rattle.basics.proofs.Answers.{says_yes, says_no}
use Rattle.pairs.specs.Rows.{HasPairRoom}
use Rattle.pairs.specs.Found.{unfilled}
use Rattle.pairs.proofs.Turns.{searched-fills, searched-unfilled}
use Rattle.pairs.proofs.fill_rows.Goals as goal

pub returns-then-not-is_ready : goal.returns-then-not-is_ready
returns-then-not-is_ready c = unfilled (λ x. absurd (says_no c.if-not-is_ready.true c.is_ready.ensures x))

pub returns-in_default : goal.returns-in_default
returns-in_default c = searched-unfilled _ _ _ _ _ _ _ _ _ c.in_default.ensures

pub returns : goal.returns
returns c =
    let room_of : let a = c.args in HasPairRoom a.sizes.left_letters a.sizes.right_letters a.sizes.letters a.sizes.limit (length a.left_cuts.now) (length a.right_cuts.now) (length a.entries.now) (length a.flags.now) (length a.keys.now) (length a.heads.now) (length a.links.now) = says_yes c.if-not-is_ready.false c.is_ready.ensures in
    searched-fills _ _ _ _ _ _ _ _ _ (room_of).entries_room c.in-Some.ensures c.write_flags.ensures
