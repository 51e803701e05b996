-- What the search leaves: the queue and the goal layer.
use Rattle.std.specs.Prelude.{List, ℕ, length}
use Rattle.basics.specs.Lists.{at}
use Rattle.automaton.specs.Stored.{final_at}
use Rattle.course_tests.specs.Goal.{IsGoalBelow}
use Rattle.course.specs.Queue.{QueueEnded}

-- after the search: the queue of the rows that s leads to, with their layers, and the goal layer
pub record IsSearched (k : ℕ) (entries finals : List ℕ) (s : ℕ) (layers queue : List ℕ) (count goal : ℕ) : Type 0 where
  pub ended : QueueEnded k entries s layers queue count
  pub goal_below : IsGoalBelow (final_at finals) (at layers) (length layers) goal
