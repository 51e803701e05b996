-- `places_of` meets its contract: before each turn the places before it are found.
use Prim.Native.Nat.{ℕ, ◌<◌}
use mathlib.Core.Path.{◌≡◌}
use lib.ListN.{length, get_or}
use Rattle.streams.specs.Description.{stream_in, description_of}
use Rattle.joined_streams.specs.Joined.{place_of}
use Rattle.joined_streams.proofs.places_of.Given as goal

abbrev pub invariant-loop-stream : goal.invariant-loop-stream
invariant-loop-stream l = (length l.places ≡ 8) × ((k : ℕ) → k < l.stream → get_or l.places k 0 ≡ place_of (description_of l.joined) (stream_in l.own k).name) × ((k : ℕ) → get_or l.places k 0 < 8)
