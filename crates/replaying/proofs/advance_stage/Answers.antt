-- `replaying::advance_stage` meets its contract, from those of the three stages.
use mathlib.Core.Path.{◌≡◌}
use Rattle.replaying.specs.Machine.{played_sheet}
use Rattle.replaying.specs.declared.Stage.TheVariants.{Ended}
use borrow.Author.Rules.{rules}
use Rattle.replaying.proofs.advance_stage.Goals as goal

pub skip_rest-requires : goal.skip_rest-requires
skip_rest-requires c = c.requires.1

pub returns-in-Names : goal.returns-in-Names
returns-in-Names c = let a = c.args in let e = c.advance_names.ensures in (e.0, e.1 a.lows.now a.highs.now a.entries.now)

pub returns-in-Values : goal.returns-in-Values
returns-in-Values c = let a = c.args in let e = c.advance_values.ensures in (e.0, e.1 a.names.now a.lengths.now)

pub returns-in-Ended : goal.returns-in-Ended
returns-in-Ended c =
    let b = c in
    let a = b.args in
    let e = c.skip_rest.ensures in
    let h : a.replay.stage ≡ Ended = search rules in
    (e.0, e.1 (played_sheet a.names.now a.lengths.now a.lows.now a.highs.now a.entries.now) a.replay a.out.now h b.requires.2)
