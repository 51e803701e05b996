-- `explore_stored` meets its contract: the keys and the chains that the exploration hands on are cleared, and so are the entries and flags unless they
-- are those of the rows found.
use borrow.Author.Rules.{rules}
use Rattle.basics.proofs.Clearing.{zeroed}
use Rattle.explore.proofs.SizeLaws.{explored-stored}
use Rattle.explore.proofs.explore_stored.Goals as goal

pub returns : goal.returns
returns c =
    let explore = c.explore-found in
    explored-stored _ explore.result explore.ensures explore.auto.entries explore.auto.flags c.discard.ensures
    (record { keys_zero = zeroed (c.fill.ensures.after (search rules)) explore.auto.keys; heads_zero = zeroed (c.fill-2.ensures.after (search rules)) explore.auto.heads; links_zero = zeroed (c.fill-3.ensures.after (search rules)) explore.auto.links })
