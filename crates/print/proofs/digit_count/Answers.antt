-- `print::digit_count` meets its contract: a number from 1000 on has three digits more than its thousandth.
use native.Mathlib.Omega.{arith}
use Rattle.print.proofs.Lengths.{one-digit, without-last, between-powers, natural-length}
use Rattle.print.proofs.digit_count.Goals as goal

pub loop-rest-init : goal.loop-rest-init
loop-rest-init c = (omega arith, natural-length c.args.value (omega arith))

pub returns-then-rest-lt100 : goal.returns-then-rest-lt100
returns-then-rest-lt100 c = let d = between-powers 1 c.loop-rest.rest (omega arith) (omega arith) in (omega arith, omega arith)

pub returns-then-rest-lt1000 : goal.returns-then-rest-lt1000
returns-then-rest-lt1000 c = let d = between-powers 2 c.loop-rest.rest (omega arith) (omega arith) in (omega arith, omega arith)

pub loop-rest-preserved : goal.loop-rest-preserved
loop-rest-preserved c = let m = without-last 3 c.loop-rest.rest (omega arith) in (omega arith, c.loop-rest.invariant.1)

pub returns : goal.returns
returns c = let o = one-digit c.loop-rest.rest (omega arith) in (omega arith, omega arith)
