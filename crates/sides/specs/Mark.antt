-- The mark of an until among the marks of several: the first is the last binary digit.
use Rattle.std.specs.Prelude.{ℕ, ◌%◌, Bool, eqb}

abbrev pub odd : ℕ → Bool
odd m = eqb (m % 2) 1
