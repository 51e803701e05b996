-- `record_names::names_byte` meets its contract: its tests tell the class of the byte.
use mathlib.Core.Path.{sym, ap, ◌∙◌}
use mathlib.Core.Bool.{not, ◌||◌}
use Rattle.sheet.specs.Names.{name_in}
use Rattle.record_names.specs.Machine.{name_byte, name_end, name_reading, names_from, names_byte}
use Rattle.record_names.proofs.Steps.{at-inside, at_bracket, at-between}
use Rattle.record_names.proofs.names_byte.Goals as goal

pub returns-then-is_inside : goal.returns-then-is_inside
unfolding names_byte
returns-then-is_inside c =
    let s = c in
    at-inside names_from (name_byte (name_in s.args.names.now s.args.lengths.now)) (name_end (name_in s.args.names.now s.args.lengths.now)) (name_reading s.args.line) s.args.byte (ap (λ t. s.args.line.barred || not t) c.is_plain.ensures) (sym c.is_inside.ensures ∙ c.if-is_inside.true) c.name_byte.ensures

pub returns-then-is_bracket : goal.returns-then-is_bracket
unfolding names_byte
returns-then-is_bracket c =
    let s = c in
    at_bracket names_from (name_byte (name_in s.args.names.now s.args.lengths.now)) (name_end (name_in s.args.names.now s.args.lengths.now)) (name_reading s.args.line) s.args.byte (ap (λ t. s.args.line.barred || not t) c.is_plain.ensures) (sym c.is_bracket.ensures ∙ c.if-is_bracket.true) c.end_name-ended.ensures c.name_byte-then-is_bracket.ensures c.name_end.ensures

pub returns : goal.returns
unfolding names_byte
returns c =
    let s = c in
    at-between names_from (name_byte (name_in s.args.names.now s.args.lengths.now)) (name_end (name_in s.args.names.now s.args.lengths.now)) (name_reading s.args.line) s.args.byte (ap (λ t. s.args.line.barred || not t) c.is_plain.ensures) (sym c.is_inside.ensures ∙ c.if-is_inside.false) (sym c.is_bracket.ensures ∙ c.if-is_bracket.false) c.end_name-ended.ensures
