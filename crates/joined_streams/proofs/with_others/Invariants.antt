-- `with_others` meets its contract: what is left to add to the streams so far gives the same (Describing).
use Prim.Native.Nat.{◌+◌, ◌-◌, ◌≤◌}
use mathlib.Core.Path.{◌≡◌}
use Rattle.joined_streams.specs.Describing.{with_others}
use Rattle.joined_streams.proofs.with_others.Given as goal

abbrev pub invariant-loop-stream : goal.invariant-loop-stream
invariant-loop-stream l = (l.all.count ≤ 8 + l.stream) × (with_others l.known l.from l.all l.stream (l.from.count - l.stream) ≡ with_others l.known l.from l.initial.all 0 l.from.count)
