-- Values that are given as one number: the value of a node from the number that a call gave, and what a test of the number says of the value. From
-- the numbers of results (arithmetic, evaluate).
use Prim.Native.Nat.{ℕ}
use mathlib.Core.Path.{◌≡◌, ap}
use mathlib.Core.Bool.{Bool, true, false}
use lib.IntN.{ℤ}
use mir.Syntax.{w64}
use mir.Val.{SFits}
use Rattle.meaning.specs.Value.{absent, number}
use Rattle.nodes.specs.Bounded.{in_bound, value_in, stored_value}
use Rattle.nodes.specs.Evaluate.{Nodes, View, node_value}
use Rattle.arithmetic.specs.Coded.{coded}
use Rattle.arithmetic.proofs.Machine.{held}
use Rattle.arithmetic.proofs.Coded.{held_decoded}
use Rattle.arithmetic.proofs.Operators.{held_test}
use Rattle.evaluate.proofs.Decoding.{decodes_node}

-- The value of a node, from the number that a call gave.
pub value-given : (N : Nodes) (W : View) (root p : ℕ) {r : ℤ} → SFits w64 r → r ≡ coded (node_value N W root p) → stored_value (held r) ≡ value_in (node_value N W root p)
value-given N W root p f h = ap value_in (held_decoded (node_value N W root p) f h (decodes_node N W root p))

-- A number that was tested against the bound.
module _ (z : ℤ) (f : SFits w64 z) {t : Bool} (test : t ≡ in_bound (held z)) where
  pub number-there : t ≡ true → stored_value z ≡ number z
  number-there e = simp (held_test z f test e)

  pub number-absent : t ≡ false → stored_value z ≡ absent
  number-absent e = simp (held_test z f test e)
