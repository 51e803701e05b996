-- `records::line_end` meets its contract: there are as many streams as both lists have values.
use mathlib.Core.Path.{sym, ap₂, ◌∙◌}
use Rattle.letters.proofs.Counts.{length-described}
use Rattle.records.specs.Machine.{end_of, values_end, line_end}
use Rattle.records.proofs.line_end.Goals as goal

pub returns : goal.returns
unfolding line_end
returns c = let s = c in c.values_end.ensures ∙ ap₂ (λ n v. end_of (values_end n s.args.line.barred v)) (c.min.ensures ∙ sym (length-described s.args.lows.now s.args.highs.now)) c.end_value-ended.ensures
