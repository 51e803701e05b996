-- `not`s that stand one before the other: two of them make of a value its nonzero, and a third negates that again.
-- "`not` give 0 or 1; any value but 0 is true." (document 01, "Meaning at time i")
use Rattle.std.specs.Prelude.{ℕ, ◌≤◌, ◌≡◌, Bool, cond, List}
use Rattle.nodes.specs.Evaluate.{Nodes, View, negated_result, part_value}
use Rattle.nodes.specs.declared.Evaluated.{Evaluated}

-- Negated once, or twice.
abbrev pub negated_by : Bool → Evaluated → Evaluated
negated_by again v = cond again (negated_result (negated_result v)) (negated_result v)

-- A `not` before the part that ends at e has the value of the part that ends at d, negated once or twice, at every place, whatever else is stored.
pub record Negates (kinds : List ℕ) (e d : ℕ) (again : Bool) : Type 0 where
  pub ends_within : d ≤ e
  pub same_value : (N : Nodes) (W : View) (p : ℕ) → N.kinds ≡ kinds → negated_by again (part_value N W d p) ≡ negated_result (part_value N W e p)
