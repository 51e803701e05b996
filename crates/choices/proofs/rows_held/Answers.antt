-- `choices::rows_held` meets its contract: the numbers are divided by the number of choices.
use Rattle.choices.proofs.Filling.{no_rows}
use Rattle.choices.proofs.rows_held.Goals as goal

pub returns-then-choices-eq0 : goal.returns-then-choices-eq0
returns-then-choices-eq0 c = no_rows c.args.streams c.args.room c.choice_count-choices.ensures c.if-choices-eq0.true
