-- What a call for a course gives, for every table, streams, state and rooms that are lent (document 02, S-3 and S-8).
use Rattle.std.specs.Prelude.{◌≡◌, List, ℕ, length, replicate}
use Rattle.automaton.specs.Stored.{entry_at, final_at}
use Rattle.automaton.specs.Course.{CourseOutcome}
use Rattle.streams.specs.Description.{description_of}
use Rattle.streams.specs.declared.StreamsDescription.{StreamsDescription}
use Rattle.changes.specs.Changes.{changed}
use Rattle.course_tests.specs.Refusals.{IsFit, IsShort}

-- Refusal, number of letters and list after a call with a list of `room` numbers and `work` numbers of work room: "Among shortest
-- courses of S-3, the one with the fewest changes now comes first".
abbrev pub BestCourse : (k : ℕ) (entries finals : List ℕ) (streams : StreamsDescription) (s room work refusal count : ℕ) (list : List ℕ) → Type 0
BestCourse k entries finals streams s room work refusal count list =
    CourseOutcome (changed (description_of streams)) k (entry_at k entries) (final_at finals) s (IsFit k entries finals streams s) (IsShort room work (length entries)) room refusal
    count list

-- The same with the work room, which is zero after every call.
pub record CourseCall (k : ℕ) (entries finals : List ℕ) (streams : StreamsDescription) (s room work refusal count : ℕ) (list work' : List ℕ) : Type 0 where
  pub outcome : BestCourse k entries finals streams s room work refusal count list
  pub cleared : work' ≡ replicate work 0
