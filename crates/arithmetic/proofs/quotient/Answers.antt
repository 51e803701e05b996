-- `arithmetic::quotient` meets its contract: "A quotient is cut toward zero"; by 0 there is none.
use mathlib.Core.Path.{◌∙◌}
use lib.Signed.{quot_z}
use Rattle.arithmetic.proofs.Machine.{held_fits, held-exact, quot_z_fits, bits_positive, bits-nonzero, by-nonzero}
use Rattle.arithmetic.proofs.Coded.{quotient-within}
use Rattle.arithmetic.proofs.quotient.Goals as goal

pub nonzero_div-result : goal.nonzero_div-result
nonzero_div-result c = (
  bits_positive c.args.b c.ranges.b c.if-b-eq0.false,
  held_fits quot_z c.args.a c.args.b c.ranges.a c.ranges.b (quot_z_fits c.args.a c.args.b c.requires.0 c.requires.1),
)

pub returns-else-b-eq0 : goal.returns-else-b-eq0
returns-else-b-eq0 c =
    held-exact quot_z c.args.a c.args.b c.ranges.a c.ranges.b (quot_z_fits c.args.a c.args.b c.requires.0 c.requires.1) ∙ by-nonzero quot_z c.args.a c.args.b (bits-nonzero c.args.b c.if-b-eq0.false) (quotient-within c.args.a c.args.b c.requires.0)
