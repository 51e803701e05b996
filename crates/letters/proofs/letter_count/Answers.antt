-- `letters::letter_count` meets its contract, from the last stream to the first. The loop's invariant: the count is that of the streams from i on, cut.
use native.Mathlib.Omega.{arith}
use mathlib.Core.Path.{sym, ap}
use Rattle.letters.specs.Described.{cut_count}
use Rattle.letters.proofs.Counts.{count_from-end, count-again}
use Rattle.letters.proofs.letter_count.Goals as goal

pub loop-i-init : goal.loop-i-init
loop-i-init c = let s = c in sym (ap cut_count (count_from-end s.args.lows.now s.args.highs.now c.min-i.ensures))

pub loop-i-preserved : goal.loop-i-preserved
loop-i-preserved c =
    let s = c in
    let loop = c.loop-i in
    count-again s.args.lows.now s.args.highs.now loop.i (omega arith) (omega arith) (record { sfits = c.values-arg-1.given })
    (record { sfits = c.values-arg-in-loop-i-1.given }) loop.invariant c.values.ensures c.product-count.ensures
