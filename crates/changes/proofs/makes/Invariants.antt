-- `changes::makes` meets its contract: `made` is how many letters the streams from `stream` on make.
use mathlib.Core.Path.{◌≡◌}
use Prim.Native.Nat.{◌≤◌}
use Rattle.changes.specs.Axes.{letter_total}
use Rattle.changes.proofs.Axes.{later}
use Rattle.changes.proofs.makes.Given as goal

abbrev pub invariant-loop-stream : goal.invariant-loop-stream
invariant-loop-stream l = (l.stream ≤ l.initial.stream) × (l.made ≡ letter_total (later l.shape l.initial.stream l.stream))
