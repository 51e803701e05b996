-- `first_line::line_byte` meets its contract: its tests tell the class of the byte.
use mathlib.Core.Path.{sym, ap, ◌∙◌}
use mathlib.Core.Bool.{not, ◌||◌}
use Rattle.record_names.proofs.Steps.{at-inside, at_bracket, at-between}
use Rattle.first_line.specs.Machine.{number_byte, number_end, line_of, reading_of_line, number_line_byte}
use Rattle.first_line.proofs.line_byte.Goals as goal

pub returns-then-is_inside : goal.returns-then-is_inside
unfolding number_line_byte
returns-then-is_inside c =
    let p = c in
    let s = p in
    at-inside line_of number_byte number_end (reading_of_line s.args.line) s.args.byte (ap (λ t. s.args.line.barred || not t) p.is_plain.ensures) (sym c.is_inside.ensures ∙ c.if-is_inside.true) c.number_byte.ensures

pub returns-then-is_bracket : goal.returns-then-is_bracket
unfolding number_line_byte
returns-then-is_bracket c =
    let p = c in
    let s = p in
    at_bracket line_of number_byte number_end (reading_of_line s.args.line) s.args.byte (ap (λ t. s.args.line.barred || not t) p.is_plain.ensures) (sym c.is_bracket.ensures ∙ c.if-is_bracket.true) c.end_number-ended.ensures c.number_byte-then-is_bracket.ensures c.number_end.ensures

pub returns : goal.returns
unfolding number_line_byte
returns c =
    let p = c in
    let s = p in
    at-between line_of number_byte number_end (reading_of_line s.args.line) s.args.byte (ap (λ t. s.args.line.barred || not t) p.is_plain.ensures) (sym c.is_inside.ensures ∙ c.if-is_inside.false) (sym c.is_bracket.ensures ∙ c.if-is_bracket.false) c.end_number-ended.ensures
