-- `normal_entries::refused` meets its contract: the answer is that of the refusal.
use mathlib.Core.Path.{ap}
use lib.ListN.{replicate}
use lib.IntN.{pos}
use Rattle.normal_entries.specs.declared.NormalForm.{NormalForm}
use Rattle.normal_entries.proofs.refused.Goals as goal

pub returns : goal.returns
returns c = ap (λ (a : NormalForm). record { answer = a; numbers = replicate 30944 0; ends = replicate 8256 (pos 0) }) c.refused_answer.ensures
