-- `records::value_end` meets its contract: the number is that with the value of the stream whose token ended.
use mathlib.Core.Path.{ap, ap₂, ◌∙◌}
use mathlib.Core.Bool.{◌&&◌}
use mir.Syntax.{w64}
use mir.ValLaws.{to_z-of_z}
use Rattle.scan.specs.Integer.{with_sign}
use Rattle.record_names.specs.Machine.{next_count}
use Rattle.records.specs.Machine.{ended_from}
use Rattle.records.proofs.Steps.{number_at}
use Rattle.records.proofs.value_end.Goals as goal

pub returns : goal.returns
returns c =
    let s = c in
    let values = s.args.values in
    let value = to_z-of_z w64 c.signed-value.result (record { sfits = c.signed-value.type_inv }) ∙ c.signed-value.ensures ∙ ap (λ t. with_sign t values.magnitude) c.is_negative.ensures in
    let number = number_at s.args.lows.now s.args.highs.now values.count values.number c.one_at-low.ensures c.one_at-high.ensures value c.next_number.ensures in
    ap (λ n. ended_from n (values.integers && c.ends_integer.result) c.next_number.result) c.next_count.ensures
    ∙ ap₂ (ended_from (next_count values.count)) (ap (λ t. values.integers && t) c.ends_integer.ensures) number
