-- Courses along a table as it is lent.
use Rattle.std.specs.Prelude.{ℕ, List}
use Rattle.automaton.specs.Stored.{entry_at, final_at}
use Rattle.automaton.specs.Course.{IsCourse, total}
use Rattle.streams.specs.Description.{description_of}
use Rattle.streams.specs.declared.StreamsDescription.{StreamsDescription}
use Rattle.changes.specs.Changes.{changed}

-- "the letters" that "lead to a final state" from the state given
abbrev pub LeadsToFinal : (k : ℕ) (entries finals : List ℕ) (state : ℕ) (r : List ℕ) → Type 0
LeadsToFinal k entries finals state r = IsCourse k (entry_at k entries) (final_at finals) state r

-- how many changes a course has: "a change being a set stream whose value differs from the letter before; the first letter has none"
abbrev pub changes_in : (streams : StreamsDescription) (r : List ℕ) → ℕ
changes_in streams r = total (changed (description_of streams)) r
