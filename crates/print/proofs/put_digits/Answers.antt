-- `print::put_digits` meets its contract: after each turn, storing the digits of what is left gives the whole.
use Prim.Native.Nat.{◌/◌}
use native.Mathlib.Nat.{div-lt_self, mod-lt}
use native.Mathlib.Omega.{arith}
use mathlib.Core.Path.{refl, ◌∙◌}
use lib.ListN.{length-set}
use Rattle.print.proofs.Lengths.{more-digits, some-digit}
use Rattle.print.proofs.Digits.{stores-more, stores_one}
use Rattle.print.proofs.put_digits.Goals as goal

pub overflow_add-to : goal.overflow_add-to
overflow_add-to c = omega arith

pub overflow_sub-to : goal.overflow_sub-to
overflow_sub-to c = let d = some-digit c.args.value in omega arith

pub loop-rest-init : goal.loop-rest-init
loop-rest-init c = let d = some-digit c.args.value in (omega arith, omega arith, refl, refl)

pub digit-requires : goal.digit-requires
digit-requires c = mod-lt _ (omega arith)

pub bounds-out-to : goal.bounds-out-to
bounds-out-to c = omega arith

pub overflow_sub-to-in-loop-rest : goal.overflow_sub-to-in-loop-rest
overflow_sub-to-in-loop-rest c =
    let n = c.loop-rest.rest in
    let m = more-digits n c.loop-rest-test.true in
    let d = some-digit (n / 10) in
    omega arith

pub loop-rest-smaller : goal.loop-rest-smaller
loop-rest-smaller c = div-lt_self (omega arith) (omega arith)

pub loop-rest-preserved : goal.loop-rest-preserved
loop-rest-preserved c =
    let t = c.loop-rest in
    let h = c.loop-rest-test.true in
    let m = more-digits t.rest h in
    let d = some-digit (t.rest / 10) in
    let l = length-set t.out t.to c.digit.result in
    (omega arith, omega arith, l ∙ t.invariant.2, stores-more t.out c.args.at t.rest t.invariant.0 h c.digit.ensures ∙ t.invariant.3)

pub digit-requires-2 : goal.digit-requires-2
digit-requires-2 c = omega arith

pub bounds-out-to-2 : goal.bounds-out-to-2
bounds-out-to-2 c = omega arith

pub returns : goal.returns
returns c =
    let t = c.loop-rest in
    stores_one t.out c.args.at t.rest t.invariant.0 (omega arith) c.digit-2.ensures ∙ t.invariant.3
