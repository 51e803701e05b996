-- What refusal 4 says of the names of line 1 (document 01, "4: a name given twice, reserved").
use Rattle.std.specs.Prelude.{Bool, not, ◌||◌, List}
use Rattle.text.specs.Bytes.{Token}
use Rattle.text.specs.Token.{is_reserved}
use Rattle.sheet.specs.Reading.{any_of, are_distinct}

unfoldable pub names_refused : List Token → Bool
names_refused ts = not (are_distinct ts) || any_of is_reserved ts
