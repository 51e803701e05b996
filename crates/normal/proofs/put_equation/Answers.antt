-- `normal::put_equation` meets its contract: one row, whose right number is the place of the node before the end.
use mathlib.Core.Path.{◌∙◌, ap}
use mathlib.Core.List.{[], ◌∷◌}
use Rattle.normal.specs.Table.{put_rows}
use Rattle.normal.proofs.put_equation.Goals as goal

pub returns : goal.returns
returns c =
    let s = c in
    c.put_row.ensures
    ∙ ap (λ k. put_rows s.args.table.now s.args.row (record { kind = 3; relation = 2; left = s.args.stream; left_added = 0; right = k; right_added = s.args.added; source = s.args.end } ∷ [])) c.last_node.ensures
