-- The refusals of a call for a course (document 02, S-3 and S-8): 11, and 15 and 10 by the goal layer and the rooms lent.
use Rattle.std.specs.Prelude.{◌≡◌, ◌⊎◌, ◌≢◌, List, ℕ, ◌<◌}
use Rattle.automaton.specs.WellFormed.{WellFormedState}
use Rattle.streams.specs.Description.{StreamsFit}
use Rattle.streams.specs.declared.StreamsDescription.{StreamsDescription}
use Rattle.course_tests.specs.Goal.{not_met}

-- 11 does not apply: the state is a row of a table that is well formed, and not "Streams that no accepted sheet could have, or that
-- do not make the table's letters, are 11."
pub record IsFit (k : ℕ) (entries finals : List ℕ) (streams : StreamsDescription) (s : ℕ) : Type 0 where
  pub state : WellFormedState k entries finals s
  pub streams_fit : StreamsFit streams k

-- For a course of m letters the list is too short, or the work room: "10 (a list too short for the course)", "Work room is lent, one
-- number for each entry of the table; less is 10."
abbrev pub IsShort : (room work entries m : ℕ) → Type 0
IsShort room work entries m = (room < m) ⊎ (work < entries)

-- The refusal by the goal layer and the rooms lent, or 0: "15, no final state can be reached from the state given, [..] before 10
-- (a list too short for the course)"; "Work room is lent, one number for each entry of the table; less is 10."
pub record GoalRefusal (goal room work entries refusal : ℕ) : Type 0 where
  pub endless : goal ≡ not_met → refusal ≡ 15
  pub short : goal ≢ not_met → IsShort room work entries goal → refusal ≡ 10
  pub none : goal ≢ not_met → ¬ IsShort room work entries goal → refusal ≡ 0
