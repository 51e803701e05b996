-- What is kept of a token that may be an integer and whose bytes come one after the other: a phase and a magnitude, whatever the token's length.
use Rattle.std.specs.Prelude.{ℕ, ◌+◌, ◌-◌, ◌*◌, Bool, true, false, cond, eqb, ℤ}
use Rattle.text.specs.Token.{is_digit}
use Rattle.scan.specs.Integer.{cut, with_sign}
use Rattle.integer_bytes.specs.declared.Phase.{Phase}
use Rattle.integer_bytes.specs.declared.Phase.TheVariants.{Empty, Minus, Zero, Digits, MinusDigits, NoInteger}

abbrev pub digit_phase : ℕ → Phase → Phase
digit_phase b p = cond (is_digit b) p NoInteger

-- "digits with an optional `-` before them; a leading zero stands only in `0`, and `-0` is no integer"
abbrev pub next_phase : Phase → ℕ → Phase
next_phase Empty b = cond (eqb b 45) Minus (cond (eqb b 48) Zero (digit_phase b Digits))
next_phase Minus b = cond (eqb b 48) NoInteger (digit_phase b MinusDigits)
next_phase Zero b = NoInteger
next_phase Digits b = digit_phase b Digits
next_phase MinusDigits b = digit_phase b MinusDigits
next_phase NoInteger b = NoInteger

abbrev pub ends_integer : Phase → Bool
ends_integer Empty = false
ends_integer Minus = false
ends_integer Zero = true
ends_integer Digits = true
ends_integer MinusDigits = true
ends_integer NoInteger = false

abbrev pub is_negative : Phase → Bool
is_negative Empty = false
is_negative Minus = false
is_negative Zero = false
is_negative Digits = false
is_negative MinusDigits = true
is_negative NoInteger = false

-- The number that the digits write, cut beyond every range; a `-` before them adds nothing.
abbrev pub next_magnitude : ℕ → ℕ → ℕ
next_magnitude m b = cut (m * 10 + (b - 48))

-- The value that a token writes, as far as it is cut.
abbrev pub value_of : Phase → ℕ → ℤ
value_of p m = with_sign (is_negative p) m
