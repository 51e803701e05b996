-- `compile::entry_rows` meets its contract; the quotient by 0 is 0.
use Prim.Native.Nat.{◌/◌}
use native.Mathlib.Nat.{div-zero}
use mathlib.Core.Path.{sym, ◌∙◌, ap}
use Rattle.compile.proofs.entry_rows.Goals as goal

pub returns-then-letters-eq0 : goal.returns-then-letters-eq0
returns-then-letters-eq0 c = let entries = c.args.entries in sym (ap (λ n. entries / n) c.if-letters-eq0.true ∙ div-zero entries)
