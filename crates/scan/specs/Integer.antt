-- What is read of a token that may be an integer (document 01, "The sheet", "Magnitudes to 1,000,000,000").
use Rattle.std.specs.Prelude.{ℕ, min, suc, Bool, true, false, cond, List, Option, Some, None, Result, Ok, Err, ltb, ℤ, pos, neg_ℤ}
use Rattle.text.specs.Bytes.{Token}
use Rattle.text.specs.Token.{is_integer, integer_value, is_natural, natural_from}
use Rattle.sheet.specs.Refusal.{magnitude_bound}
use Rattle.sheet.specs.Reading.{is_beyond}
use Rattle.scan.specs.declared.IntegerError.{IntegerError}
use Rattle.scan.specs.declared.IntegerError.TheVariants.{NoInteger, Beyond}

-- What reading gives: an integer's value, or why there is none.
abbrev pub IntegerRead : Type 0
IntegerRead = Result ℤ IntegerError

abbrev pub no_integer : IntegerRead
no_integer = Err NoInteger

-- An integer's value, where it is within the bound.
abbrev pub integer_within : Bool → ℤ → IntegerRead
integer_within true z = Err Beyond
integer_within false z = Ok z

unfoldable pub integer_read : Token → IntegerRead
integer_read t = cond (is_integer t) (integer_within (is_beyond (integer_value t)) (integer_value t)) no_integer

-- A number cut to the bound's successor, so that it fits the machine whatever its length.
abbrev pub cut : ℕ → ℕ
cut n = min n (suc magnitude_bound)

-- The number that bytes write, where they are digits without a leading zero.
unfoldable pub natural_read : List ℕ → Option ℕ
natural_read t = cond (is_natural t) (Some (cut (natural_from 0 t))) None

abbrev pub with_sign : Bool → ℕ → ℤ
with_sign true n = neg_ℤ (pos n)
with_sign false n = pos n

-- Digits that were read, with a sign.
abbrev pub signed_read : Bool → Option ℕ → IntegerRead
signed_read negative None = no_integer
signed_read negative (Some n) = integer_within (ltb magnitude_bound n) (with_sign negative n)
