-- `tally::finish` meets its contract, by the stage that the record ends in (Ends).
use mathlib.Core.Path.{refl}
use Rattle.tally.proofs.Ends.{record_ends}
use Rattle.tally.proofs.finish.Goals as goal

pub returns-in-Names : goal.returns-in-Names
returns-in-Names c =
    let r = c.refused.ensures in
    record_ends _ _ _ c.last_line-ended.ensures c.in-Names.is r.0 r.1

pub returns-in-Values : goal.returns-in-Values
returns-in-Values c = record_ends _ _ _ c.last_line-ended.ensures c.in-Values.is refl refl

pub returns-in-Refused : goal.returns-in-Refused
returns-in-Refused c =
    let r = c.refused-in-Refused.ensures in
    record_ends _ _ _ c.last_line-ended.ensures c.in-Refused.is r.0 r.1
