-- `records::line_byte` meets its contract: its tests tell the class of the byte, and a digit is a plain byte inside a run.
use mathlib.Core.Path.{sym, ap, ◌∙◌}
use mathlib.Core.Bool.{not, ◌||◌, or-false}
use Rattle.letters.specs.Described.{described}
use Rattle.records.specs.Machine.{value_byte, value_end, value_reading, line_from, line_byte}
use Rattle.records.proofs.Steps.{digit_plain, digit-inside}
use Rattle.record_names.proofs.Steps.{at-inside, at_bracket, at-between}
use Rattle.records.proofs.line_byte.Goals as goal

pub returns-then-is_digit : goal.returns-then-is_digit
unfolding line_byte
returns-then-is_digit c =
    let s = c in
    let d = sym c.is_digit.ensures ∙ c.if-is_digit.true in
    let same = sym (or-false s.args.line.barred) ∙ ap (λ t. s.args.line.barred || not t) (sym (digit_plain s.args.byte d)) in
    at-inside line_from value_byte (value_end (described s.args.lows.now s.args.highs.now)) (value_reading s.args.line) s.args.byte same (digit-inside s.args.byte d) c.value_byte.ensures

pub returns-then-is_inside : goal.returns-then-is_inside
unfolding line_byte
returns-then-is_inside c =
    let s = c in
    at-inside line_from value_byte (value_end (described s.args.lows.now s.args.highs.now)) (value_reading s.args.line) s.args.byte (ap (λ t. s.args.line.barred || not t) c.is_plain.ensures) (sym c.is_inside.ensures ∙ c.if-is_inside.true) c.value_byte-then-is_inside.ensures

pub returns-then-is_bracket : goal.returns-then-is_bracket
unfolding line_byte
returns-then-is_bracket c =
    let p = c in
    let s = p in
    at_bracket line_from value_byte (value_end (described s.args.lows.now s.args.highs.now)) (value_reading s.args.line) s.args.byte (ap (λ t. s.args.line.barred || not t) p.is_plain.ensures) (sym c.is_bracket.ensures ∙ c.if-is_bracket.true) c.end_value-ended.ensures c.value_byte-then-is_bracket.ensures c.value_end.ensures

pub returns : goal.returns
unfolding line_byte
returns c =
    let p = c in
    let s = p in
    at-between line_from value_byte (value_end (described s.args.lows.now s.args.highs.now)) (value_reading s.args.line) s.args.byte (ap (λ t. s.args.line.barred || not t) p.is_plain.ensures) (sym c.is_inside.ensures ∙ c.if-is_inside.false) (sym c.is_bracket.ensures ∙ c.if-is_bracket.false) c.end_value-ended.ensures
