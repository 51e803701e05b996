-- `input::after_read` meets its contract, by the sign of the read's answer.
use Prim.Native.Nat.{ℕ, ◌+◌, ◌-◌, min}
use native.Mathlib.Omega.{arith}
use mathlib.Core.Path.{sym, ◌∙◌, ap}
use mathlib.Core.Bool.{Bool, false}
use lib.Dec.{ltb}
use Rattle.arithmetic.proofs.Machine.{number_cast, number-natural, number-negative}
use Rattle.input.specs.Input.{after_read}
use Rattle.input.specs.declared.Progress.{Progress}
use Rattle.input.proofs.after_read.Goals as goal

-- Bytes were read, and there may be more.
abbrev came : ℕ → Bool → Progress
came size more = record { size = size; failed = false; more = more }

pub returns-then-got-lt0 : goal.returns-then-got-lt0
returns-then-got-lt0 c = let s = c in sym (ap (λ z. after_read z s.args.size s.args.room) (number-negative s.args.got s.ranges.got c.if-got-lt0.true).1)

pub overflow_cast-got : goal.overflow_cast-got
overflow_cast-got c = let s = c in number_cast s.args.got s.ranges.got c.if-got-lt0.false

pub overflow_add-result : goal.overflow_add-result
overflow_add-result c = omega (arith, c.min-count.ensures, c.requires, c.ranges.room)

pub overflow_sub-room-3 : goal.overflow_sub-room-3
overflow_sub-room-3 c = omega (arith, c.min-count.ensures)

pub returns : goal.returns
returns c =
    let s = c in
    let left = s.args.room - s.args.size in
    ap (λ m. came (s.args.size + c.min-count.result) (ltb 0 m)) c.min.ensures
    ∙ ap (λ n. came (s.args.size + n) (ltb 0 (min n (left - n)))) c.min-count.ensures
    ∙ sym (ap (λ z. after_read z s.args.size s.args.room) (number-natural s.args.got s.ranges.got c.if-got-lt0.false))
