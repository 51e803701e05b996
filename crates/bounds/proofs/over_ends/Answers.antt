-- `bounds::over_ends` meets its contract: the four results span the interval.
use mathlib.Core.Path.{◌∙◌}
use Rattle.bounds.proofs.Ranges.{over-ends}
use Rattle.bounds.proofs.over_ends.Goals as goal

pub returns : goal.returns
returns c =
    let s = c in
    c.span_values.ensures ∙ over-ends s.args.a s.args.b s.requires.2 s.requires.3 s.args.kind s.requires.0 s.requires.1 _ _ _ _ c.apply.ensures c.apply-2.ensures c.apply-3.ensures c.apply-4.ensures
