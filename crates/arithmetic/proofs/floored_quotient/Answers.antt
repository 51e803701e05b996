-- `arithmetic::floored_quotient` meets its contract: the quotient rounded down; by 0 there is none.
use Rattle.arithmetic.proofs.Machine.{bits_positive, bits-nonzero}
use Rattle.arithmetic.proofs.Floored.{division-fits, lowered-fits, quotient-lowered, quotient-kept}
use Rattle.arithmetic.proofs.floored_quotient.Goals as goal

pub nonzero_rem-a : goal.nonzero_rem-a
nonzero_rem-a c =
    let s = c in
    (bits_positive s.args.b s.ranges.b c.if-b-eq0.false, division-fits s.args.a s.args.b s.ranges.a s.ranges.b s.requires.0 s.requires.1)

pub nonzero_div-result : goal.nonzero_div-result
nonzero_div-result c =
    let s = c in
    (bits_positive s.args.b s.ranges.b c.if-b-eq0.false, division-fits s.args.a s.args.b s.ranges.a s.ranges.b s.requires.0 s.requires.1)

pub overflow_sub-result : goal.overflow_sub-result
overflow_sub-result c = let s = c in lowered-fits s.args.a s.args.b s.ranges.a s.ranges.b s.requires.0 s.requires.1

pub returns-then-are_opposite : goal.returns-then-are_opposite
returns-then-are_opposite c =
    let s = c in
    quotient-lowered s.args.a s.args.b s.ranges.a s.ranges.b s.requires.0 s.requires.1 (bits-nonzero s.args.b c.if-b-eq0.false) c.are_opposite.ensures c.if-are_opposite.true

pub nonzero_div-result-2 : goal.nonzero_div-result-2
nonzero_div-result-2 c =
    let s = c in
    (bits_positive s.args.b s.ranges.b c.if-b-eq0.false, division-fits s.args.a s.args.b s.ranges.a s.ranges.b s.requires.0 s.requires.1)

pub returns : goal.returns
returns c =
    let s = c in
    quotient-kept s.args.a s.args.b s.ranges.a s.ranges.b s.requires.0 s.requires.1 (bits-nonzero s.args.b c.if-b-eq0.false) c.are_opposite.ensures c.if-are_opposite.false
