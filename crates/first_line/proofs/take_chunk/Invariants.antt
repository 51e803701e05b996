-- `first_line::take_chunk` meets its contract: before each turn the bytes of the chunk before the next are taken.
use mathlib.Core.Path.{◌≡◌}
use lib.ListN.{take}
use Rattle.text.specs.Fold.{run_bytes}
use Rattle.first_line.specs.Machine.{keeping, keep_byte}
use Rattle.first_line.proofs.take_chunk.Given as goal

abbrev pub invariant-loop-byte : goal.invariant-loop-byte
invariant-loop-byte l = keeping l.kept l.sheet ≡ run_bytes keep_byte (keeping l.initial.kept l.initial.sheet) (take l.byte-index l.chunk)
