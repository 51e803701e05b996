-- `situations::explored` meets its contract: the parts of the stored sheet, which are within its arrays' room, are the stored sheet as it is explored.
use Rattle.situations.proofs.Found.{parts-explored}
use Rattle.situations.proofs.explored.Goals as goal

pub returns : goal.returns
returns c =
    let a = c.args in
    let values = c.fill_letters in
    parts-explored a.sheet a.letter_values.now c.min-constraints.ensures c.min-firsts.ensures c.min-streams.ensures c.min-ahead.ensures c.min.ensures values.ensures.1 c.explore_stored.ensures c.unwrap_or.ensures
