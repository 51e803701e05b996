-- `arithmetic::floored_remainder` meets its contract: the remainder with the divisor's sign; by 0 there is none.
use Rattle.arithmetic.proofs.Machine.{bits_positive, bits-nonzero}
use Rattle.arithmetic.proofs.Floored.{division-fits, moved-fits, remainder-moved, remainder-kept}
use Rattle.arithmetic.proofs.floored_remainder.Goals as goal

pub nonzero_rem-a : goal.nonzero_rem-a
nonzero_rem-a c =
    let s = c in
    (bits_positive s.args.b s.ranges.b c.if-b-eq0.false, division-fits s.args.a s.args.b s.ranges.a s.ranges.b s.requires.0 s.requires.1)

pub nonzero_rem-result : goal.nonzero_rem-result
nonzero_rem-result c =
    let s = c in
    (bits_positive s.args.b s.ranges.b c.if-b-eq0.false, division-fits s.args.a s.args.b s.ranges.a s.ranges.b s.requires.0 s.requires.1)

pub overflow_add-result : goal.overflow_add-result
overflow_add-result c = let s = c in moved-fits s.args.a s.args.b s.ranges.a s.ranges.b s.requires.0 s.requires.1

pub returns-then-are_opposite : goal.returns-then-are_opposite
returns-then-are_opposite c =
    let s = c in
    remainder-moved s.args.a s.args.b s.ranges.a s.ranges.b s.requires.0 s.requires.1 (bits-nonzero s.args.b c.if-b-eq0.false) c.are_opposite.ensures c.if-are_opposite.true

pub nonzero_rem-result-2 : goal.nonzero_rem-result-2
nonzero_rem-result-2 c =
    let s = c in
    (bits_positive s.args.b s.ranges.b c.if-b-eq0.false, division-fits s.args.a s.args.b s.ranges.a s.ranges.b s.requires.0 s.requires.1)

pub returns : goal.returns
returns c =
    let s = c in
    remainder-kept s.args.a s.args.b s.ranges.a s.ranges.b s.requires.0 s.requires.1 (bits-nonzero s.args.b c.if-b-eq0.false) c.are_opposite.ensures c.if-are_opposite.false
