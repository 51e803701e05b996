-- `scan::read_natural` meets its contract: the bytes before the loop's place are digits, and the value is the cut of what they write.
use Prim.Native.Nat.{◌-◌, ◌+◌, ◌*◌}
use mathlib.Core.Path.{◌≡◌, sym, ap, ◌∙◌}
use mathlib.Core.Bool.{true, false, ◌&&◌}
use native.Mathlib.Omega.{arith}
use lib.ListN.{length, drop, get_or}
use Rattle.std.proofs.Common.{rules, Some}
use Rattle.text.specs.Token.{all_bytes, is_digit, natural_from}
use Rattle.scan.specs.Integer.{cut}
use Rattle.scan.proofs.Tokens.{drop_at, drop-end}
use Rattle.scan.proofs.Integers.{cut-natural, natural-zero, natural-zero_more, natural-empty, natural-not, natural-read}
use Rattle.scan.proofs.read_natural.Goals as goal

pub returns-then-is_empty : goal.returns-then-is_empty
returns-then-is_empty c = natural-empty c.args.digits.now (search rules)

pub returns-then-digits-eq1 : goal.returns-then-digits-eq1
returns-then-digits-eq1 c = natural-zero c.args.digits.now c.if-digits-eq1.true (search rules)

pub returns-else-digits-eq1 : goal.returns-else-digits-eq1
returns-else-digits-eq1 c = natural-zero_more c.args.digits.now (search rules) c.if-digits-eq1.false (search rules)

pub returns-then-not-is_ascii_digit : goal.returns-then-not-is_ascii_digit
returns-then-not-is_ascii_digit c =
    let digit : is_digit (get_or c.args.digits.now c.loop-byte.byte-index 0) ≡ false = sym c.is_ascii_digit.ensures.value ∙ c.if-not-is_ascii_digit.true in
    natural-not c.args.digits.now (c.loop-byte.invariant.2 ∙ ap (all_bytes is_digit) (drop_at c.args.digits.now c.loop-byte.byte-index c.loop-byte-test.true) ∙ ap (λ b. b && all_bytes is_digit (drop (c.loop-byte.byte-index + 1) c.args.digits.now)) digit)

pub loop-byte-preserved : goal.loop-byte-preserved
unfolding natural_from
loop-byte-preserved c =
    let digits = c.args.digits.now in
    let i = c.loop-byte.byte-index in
    let rest = drop_at digits i c.loop-byte-test.true in
    let byte = get_or digits i 0 in
    let digit : is_digit (get_or c.args.digits.now c.loop-byte.byte-index 0) ≡ true = sym c.is_ascii_digit.ensures.value ∙ c.if-not-is_ascii_digit.false in
    let value : c.capped-value.result ≡ cut (c.loop-byte.value * 10 + (byte - 48)) = c.capped-value.ensures ∙ ap (λ d. cut (c.loop-byte.value * 10 + d)) c.from.ensures in (
      omega arith,
      omega arith,
      c.loop-byte.invariant.2 ∙ ap (all_bytes is_digit) rest ∙ ap (λ b. b && all_bytes is_digit (drop (i + 1) digits)) digit,
      c.loop-byte.invariant.3 ∙ ap (λ l. cut (natural_from c.loop-byte.value l)) rest ∙ sym (ap (λ n. cut (natural_from n (drop (i + 1) digits))) value ∙ cut-natural (c.loop-byte.value * 10 + (byte - 48)) (drop (i + 1) digits)),
    )

pub returns : goal.returns
unfolding natural_from
returns c =
    let digits = c.args.digits.now in
    let there : c.loop-byte.byte-index ≡ length digits = omega arith in
    let none = ap (λ n. drop n digits) there ∙ drop-end digits in
    let all = c.loop-byte.invariant.2 ∙ ap (all_bytes is_digit) none in
    let value : cut (natural_from 0 digits) ≡ c.loop-byte.value = c.loop-byte.invariant.3 ∙ ap (λ l. cut (natural_from c.loop-byte.value l)) none ∙ (let z : cut c.loop-byte.value ≡ c.loop-byte.value = omega arith in z) in
    ap Some (sym value) ∙ natural-read digits (search rules) (search rules) all
