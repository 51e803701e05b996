-- The used rows of the table that a compile gave: "The used rows are the first rows, as many as the states reported, each with its entries and its
-- final byte."
use Rattle.std.specs.Prelude.{ℕ, ◌*◌, List, take}
use Rattle.meaning.specs.Expression.{Sheet}
use Rattle.meaning.specs.Letter.{letter_count}
use Rattle.stored.specs.Number.{table_bytes}
use Rattle.outcome.specs.Compile.{CompileAnswer, Tables}
use Rattle.step.specs.Step.{entry_width}

-- Their entries.
abbrev pub used_entries : Sheet → CompileAnswer → Tables → List ℕ
used_entries s a t = take (a.states * letter_count s.streams) t.entries

-- The bytes of these entries, which a step reads.
abbrev pub used_bytes : Sheet → CompileAnswer → Tables → List ℕ
used_bytes s a t = table_bytes entry_width (used_entries s a t)

-- Their final bytes.
abbrev pub used_finals : CompileAnswer → Tables → List ℕ
used_finals a t = take a.states t.finals
