-- `parse::value_of` meets its contract: the number fits the signed numbers.
use native.Mathlib.Omega.{arith}
use mir.Syntax.{w64}
use mir.ValLaws.{to_z_pos}
use Rattle.parse.proofs.value_of.Goals as goal

pub returns : goal.returns
returns c = to_z_pos w64 c.args.n (omega arith)
