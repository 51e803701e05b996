-- `tally::count_part` meets its contract, from those of the three stages.
use Rattle.tally.proofs.Parts.{at_stage}
use Rattle.tally.proofs.count_part.Goals as goal

pub returns-in-Names : goal.returns-in-Names
returns-in-Names c =
    let a = c.args in
    at_stage _ _ c.in-Names.is (c.count_names.ensures a.tally.begun a.lows.now a.highs.now a.counts.now)

pub returns-in-Values : goal.returns-in-Values
returns-in-Values c =
    let a = c.args in
    at_stage _ _ c.in-Values.is (c.count_values.ensures a.names.now a.lengths.now)

pub returns-in-Refused : goal.returns-in-Refused
returns-in-Refused c =
    let a = c.args in
    at_stage _ _ c.in-Refused.is (c.skip_rest.ensures a.names.now a.lengths.now a.lows.now a.highs.now a.tally.begun a.counts.now)
