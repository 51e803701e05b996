-- `carry::tables_refusal` meets its contract, test by test.
use Rattle.basics.proofs.Answers.{says_yes, says_no}
use Rattle.carry.specs.Carry.{are_unfit, streams_differ, none}
use Rattle.carry.proofs.tables_refusal.Goals as goal

pub returns-then-not-is_fit : goal.returns-then-not-is_fit
returns-then-not-is_fit c = are_unfit (λ x. says_no {b = c.is_fit.result} c.if-not-is_fit.true c.is_fit.ensures x.0)

pub returns-then-not-is_fit-2 : goal.returns-then-not-is_fit-2
returns-then-not-is_fit-2 c = are_unfit (λ x. says_no {b = c.is_fit-2.result} c.if-not-is_fit-2.true c.is_fit-2.ensures x.1)

pub returns-then-same_streams : goal.returns-then-same_streams
returns-then-same_streams c = none (record {
  old_fit = says_yes {b = c.is_fit.result} c.if-not-is_fit.false c.is_fit.ensures;
  new_fit = says_yes {b = c.is_fit-2.result} c.if-not-is_fit-2.false c.is_fit-2.ensures;
  same_streams = says_yes {b = c.same_streams.result} c.if-same_streams.true c.same_streams.ensures;
})

pub returns-else-same_streams : goal.returns-else-same_streams
returns-else-same_streams c =
    streams_differ (says_yes {b = c.is_fit.result} c.if-not-is_fit.false c.is_fit.ensures)
    (says_yes {b = c.is_fit-2.result} c.if-not-is_fit-2.false c.is_fit-2.ensures)
    (says_no {b = c.same_streams.result} c.if-same_streams.false c.same_streams.ensures)
