-- What is said of values and lines where there are divisions (document 02, S-5).
use mathlib.Core.List.{Memᴰ}
use Rattle.std.specs.Prelude.{◌≢◌, pos}
use Rattle.meaning.specs.Value.{Value, absent, number}
use Rattle.meaning.specs.Arithmetic.{Operator, divide, remainder, floored_divide, floored_remainder}
use Rattle.meaning.specs.Expression.{Constraint, Sheet}

-- "such a quotient or remainder", of either release
pub data IsDivision : Operator → Type 0 where
  is_quotient : IsDivision divide
  is_remainder : IsDivision remainder
  is_floored_quotient : IsDivision floored_divide
  is_floored_remainder : IsDivision floored_remainder

-- A number, and not none.
abbrev pub HasNumber : Value → Type 0
HasNumber absent = ⊥
HasNumber (number z) = Unit

-- A number other than 0.
abbrev pub IsDivisor : Value → Type 0
IsDivisor absent = ⊥
IsDivisor (number z) = z ≢ pos 0

-- The constraint is a line of the sheet.
abbrev pub HasLine : Sheet → Constraint → Type 0
HasLine s c = Memᴰ c s.constraints
