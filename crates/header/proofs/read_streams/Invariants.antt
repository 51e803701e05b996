-- `header::read_streams` meets its contract: the tables, the number and the fault are those of the streams before the loop's places
-- in the three lines. From the laws of one stream more.
use Prim.Native.Nat.{◌-◌}
use lib.ListN.{length}
use Rattle.header.specs.Streams.{stream_tables}
use Rattle.header.proofs.Streams.{SoFar}
use Rattle.header.proofs.read_streams.Given as goal

abbrev pub invariant-loop-count : goal.invariant-loop-count
invariant-loop-count l = SoFar l.names_line l.lows_line l.highs_line l.name_at l.low_at l.high_at l.count l.faulty (stream_tables l.names l.lengths l.lows l.highs)

abbrev pub decreases-loop-count : goal.decreases-loop-count
decreases-loop-count l = length l.names_line - l.name_at
