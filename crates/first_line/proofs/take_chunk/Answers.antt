-- `first_line::take_chunk` meets its contract: before each turn the bytes of the chunk before the next are taken.
use native.Mathlib.Omega.{arith}
use mathlib.Core.Path.{◌∙◌, ap}
use lib.ListN.{get_or}
use Rattle.first_line.specs.Machine.{keeping, keep_byte}
use Rattle.first_line.proofs.Input.{chunk_more}
use Rattle.first_line.proofs.take_chunk.Goals as goal

pub loop-byte-preserved : goal.loop-byte-preserved
loop-byte-preserved c =
    let a = c.args in
    let loop = c.loop-byte in
    chunk_more (keeping a.taken a.sheet.now) a.chunk.now loop.byte-index (omega arith) (c.take_byte-kept.ensures ∙ ap (λ s. keep_byte s (get_or a.chunk.now loop.byte-index 0)) loop.invariant)
