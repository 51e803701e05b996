-- Streams without regard to their kinds, and sheets that differ in kinds alone (document 02, S-6).
use Rattle.std.specs.Prelude.{◌≡◌, List, map}
use Rattle.meaning.specs.Expression.{StreamKind, set_kind, Stream, Sheet}

abbrev pub of_kind : StreamKind → Stream → Stream
of_kind k s = record { name = s.name; kind = k; range = s.range }

-- The streams as if all were `set`: what is left of their descriptions without the kinds.
abbrev pub without_kinds : List Stream → List Stream
without_kinds ss = map (of_kind set_kind) ss

-- The same names and ranges in the same order; the kinds may differ.
pub record SameNamesAndRanges (ss ts : List Stream) : Type 0 where
  pub same : without_kinds ss ≡ without_kinds ts

-- "two accepted sheets that differ only in kinds"
pub record DifferOnlyInKinds (s t : Sheet) : Type 0 where
  pub streams : SameNamesAndRanges s.streams t.streams
  pub constraints : s.constraints ≡ t.constraints
