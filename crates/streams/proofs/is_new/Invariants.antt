-- `streams::is_new` meets its contract: no name before the loop's place is that of the stream.
use Rattle.std.proofs.Common.{◌≡◌, ◌<◌, ℕ}
use Rattle.sheet.specs.Names.{name_in}
use Rattle.streams.proofs.is_new.Given as goal

abbrev pub invariant-loop-other : goal.invariant-loop-other
invariant-loop-other l = (j : ℕ) → j < l.other → name_in l.streams.names l.streams.lengths j ≡ name_in l.streams.names l.streams.lengths l.stream → ⊥
