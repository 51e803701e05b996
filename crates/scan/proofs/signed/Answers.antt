-- `scan::signed` meets its contract: a magnitude within the bound fits the signed numbers, and so does it with either sign.
use mathlib.Core.Path.{◌≡◌, sym, ap, subst, ◌∙◌}
use native.Mathlib.Omega.{arith}
use lib.IntN.{pos, neg_ℤ, ◌-ℤ◌}
use mir.Syntax.{w64}
use mir.Val.{SFits, to_z}
use mir.ValLaws.{to_z_pos, to_z-of_z}
use Rattle.scan.specs.Integer.{with_sign}
use Rattle.scan.proofs.Integers.{zero-less, less-fits}
use Rattle.scan.proofs.signed.Goals as goal

pub overflow_sub-result : goal.overflow_sub-result
overflow_sub-result c =
    let magnitude : to_z w64 c.args.value ≡ pos c.args.value = to_z_pos w64 c.args.value (omega arith) in
    let taken-away : pos 0 -ℤ to_z w64 c.args.value ≡ neg_ℤ (pos c.args.value) = ap (λ z. pos 0 -ℤ z) (magnitude) ∙ zero-less c.args.value in
    subst (SFits w64) (sym (taken-away)) (less-fits c.args.value c.requires)

pub returns-then-negative : goal.returns-then-negative
returns-then-negative c =
    let magnitude : to_z w64 c.args.value ≡ pos c.args.value = to_z_pos w64 c.args.value (omega arith) in
    let taken-away : pos 0 -ℤ to_z w64 c.args.value ≡ neg_ℤ (pos c.args.value) = ap (λ z. pos 0 -ℤ z) (magnitude) ∙ zero-less c.args.value in
    to_z-of_z w64 _ (subst (SFits w64) (sym (taken-away)) (less-fits c.args.value c.requires)) ∙ taken-away ∙ ap (λ b. with_sign b c.args.value) (sym c.if-negative.true)

pub returns-else-negative : goal.returns-else-negative
returns-else-negative c =
    let magnitude : to_z w64 c.args.value ≡ pos c.args.value = to_z_pos w64 c.args.value (omega arith) in
    magnitude ∙ ap (λ b. with_sign b c.args.value) (sym c.if-negative.false)
