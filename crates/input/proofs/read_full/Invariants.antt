-- Before each turn the bytes at the front are those that the source had next.
use Rattle.std.proofs.Common.{◌-◌, length}
use Rattle.input.specs.Input.{ReadsFull}
use Rattle.input.proofs.read_full.Given as goal

abbrev pub invariant-loop-size : goal.invariant-loop-size
invariant-loop-size g l = ReadsFull (g.R.Read.remaining l.initial.source) (g.R.Read.remaining l.source) l.bytes l.size

abbrev pub decreases-loop-size : goal.decreases-loop-size
decreases-loop-size g l = length l.initial.bytes - l.size
