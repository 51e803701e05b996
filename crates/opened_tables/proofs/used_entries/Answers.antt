-- `opened_tables::used_entries` meets its contract: the used rows are no more than 256.
use Prim.Native.Nat.{◌*◌, min}
use mathlib.Core.Path.{ap, ◌∙◌}
use Rattle.opened_tables.proofs.used_entries.Goals as goal

pub returns : goal.returns
returns c = c.entries_of.ensures ∙ ap (λ r. min (r * c.args.table.sheet.letters) 32768) c.used_rows.ensures
