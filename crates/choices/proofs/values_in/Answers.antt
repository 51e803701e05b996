-- `choices::values_in` meets its contract: the bounds that the arrays hold are those of the stream.
use Rattle.choices.proofs.Digits.{values-held}
use Rattle.choices.proofs.values_in.Goals as goal

pub returns : goal.returns
returns c =
    values-held c.args.streams c.args.stream (record { sfits = c.values-arg-1.given }) (record { sfits = c.values-arg-2-1.given }) c.values.ensures
