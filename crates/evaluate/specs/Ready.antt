-- What the recursion of the evaluation keeps: the parts that end up to `end` are stored, since the lists of nodes have 1024 elements each, and the place
-- is one of the window's.
use Rattle.std.specs.Prelude.{ℕ, ◌≤◌, ◌<◌, ◌≡◌}
use Rattle.nodes.specs.Evaluate.{View, places}

pub record Ready (W : View) (count end place : ℕ) : Type 0 where
  pub end_within : end ≤ 1024
  pub count_places : count ≡ places W
  pub place_within : place < count
