-- `print::append_natural` meets its contract: the digits are stored where there is room for all of them.
use native.Mathlib.Omega.{arith}
use Rattle.print.specs.Text.{digits}
use Rattle.print.proofs.Append.{text-left, text-stored}
use Rattle.print.proofs.Lengths.{some-digit}
use Rattle.print.proofs.append_natural.Goals as goal

pub returns-then-out-min : goal.returns-then-out-min
returns-then-out-min c =
    let a = c.args in
    text-left a.out.now (digits a.value) (omega arith)

pub put_digits-requires : goal.put_digits-requires
put_digits-requires c =
    let some = some-digit c.args.value in
    (c.digit_count-count.ensures.0, omega arith)

pub returns : goal.returns
returns c =
    let some = some-digit c.args.value in
    text-stored (omega arith) c.put_digits.ensures (omega arith)
