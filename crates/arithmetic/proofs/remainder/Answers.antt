-- `arithmetic::remainder` meets its contract: "the remainder has the dividend's sign"; by 0 there is none.
use mathlib.Core.Path.{◌∙◌}
use lib.Signed.{quot_z, rem_z}
use Rattle.arithmetic.proofs.Machine.{held_fits, held-exact, quot_z_fits, rem_z_fits, bits_positive, bits-nonzero, by-nonzero}
use Rattle.arithmetic.proofs.Coded.{remainder-within}
use Rattle.arithmetic.proofs.remainder.Goals as goal

pub nonzero_rem-result : goal.nonzero_rem-result
nonzero_rem-result c = (
  bits_positive c.args.b c.ranges.b c.if-b-eq0.false,
  held_fits quot_z c.args.a c.args.b c.ranges.a c.ranges.b (quot_z_fits c.args.a c.args.b c.requires.0 c.requires.1),
)

pub returns-else-b-eq0 : goal.returns-else-b-eq0
returns-else-b-eq0 c =
    held-exact rem_z c.args.a c.args.b c.ranges.a c.ranges.b (rem_z_fits c.args.a c.args.b c.ranges.a) ∙ by-nonzero rem_z c.args.a c.args.b (bits-nonzero c.args.b c.if-b-eq0.false) (remainder-within c.args.a c.args.b c.requires.0)
