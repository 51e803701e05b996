-- `records::next_number` meets its contract: the number with one digit more fits 32 bits, by the law for any width (letters, Widths).
use Prim.Native.Nat.{◌+◌, ◌*◌, ◌^◌, ◌<◌}
use mathlib.Core.Path.{sym}
use native.Mathlib.Omega.{arith}
use borrow.Author.Tests.{le-ltb}
use mir.Syntax.{w64}
use mir.ValLaws.{to_z-of_z}
use Rattle.letters.specs.Described.{described}
use Rattle.records.proofs.Steps.{number-outside, number_fits, number_more}
use Rattle.records.proofs.next_number.Goals as goal

pub returns-then-number-ge1024 : goal.returns-then-number-ge1024
returns-then-number-ge1024 c = sym (simp (le-ltb _ _ c.if-number-ge1024.true))

pub returns-then-digit-ge1024 : goal.returns-then-digit-ge1024
returns-then-digit-ge1024 c = number-outside (described c.args.lows.now c.args.highs.now) c.args.value c.if-number-ge1024.false (to_z-of_z w64 c.args.value c.ranges.value) c.letter_number-digit.ensures c.if-digit-ge1024.true

pub overflow_mul-result : goal.overflow_mul-result
overflow_mul-result c =
    let next_fits : c.args.number * c.letter_count.result + c.letter_number-digit.result < 2 ^ 32 = (let s = c in
    number_fits (described s.args.lows.now s.args.highs.now) s.args.value c.if-number-ge1024.false (to_z-of_z w64 s.args.value s.ranges.value) c.letter_number-digit.ensures c.letter_count.ensures 32 (omega arith) c.if-digit-ge1024.false) in
    omega (arith, next_fits)

pub overflow_add-result : goal.overflow_add-result
overflow_add-result c =
    let next_fits : c.args.number * c.letter_count.result + c.letter_number-digit.result < 2 ^ 32 = (let s = c in
    number_fits (described s.args.lows.now s.args.highs.now) s.args.value c.if-number-ge1024.false (to_z-of_z w64 s.args.value s.ranges.value) c.letter_number-digit.ensures c.letter_count.ensures 32 (omega arith) c.if-digit-ge1024.false) in
    record { fits = next_fits }

pub returns : goal.returns
returns c = number_more (described c.args.lows.now c.args.highs.now) c.args.value c.if-number-ge1024.false (to_z-of_z w64 c.args.value c.ranges.value) c.letter_number-digit.ensures c.letter_count.ensures c.if-digit-ge1024.false
