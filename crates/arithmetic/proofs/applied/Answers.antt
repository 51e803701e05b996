-- `arithmetic::applied` meets its contract at the last arm: the kind is none of 7 to 20, so the operator is the remainder rounded down. The other
-- arms prove themselves.
use native.Mathlib.Omega.{arith}
use Rattle.arithmetic.proofs.Operators.{applied_last}
use Rattle.arithmetic.proofs.applied.Goals as goal

pub returns-in_default : goal.returns-in_default
returns-in_default c = let h = c.in_default.in_default-own in
    applied_last {k = c.args.kind} c.ranges.a c.ranges.b (record { sfits = c.floored_remainder.type_inv }) (omega (arith, h)) c.floored_remainder.ensures
