-- Keys: a situation as sixteen numbers, and the situation's key (document 01, "Letters, situations, table"). "First" and "until" are
-- document 01's terms.
--   0        the number of letters of the record, or one more than D+B where the record is cut
--   1 to 6   the numbers of its last letters, at most D+B of them, and 0 beyond them
--   7 to 14  the values of the firsts of a cut record, each raised to a natural number, none too, and 0 beyond them
--   15       the untils that are done, as the digits of a number in base 2
use Rattle.std.specs.Prelude.{ℕ, suc, ◌+◌, ◌-◌, ◌*◌, min, Bool, cond, List, [], ◌∷◌, ◌++◌, map, leb, ℤ, pos, nat_abs, ◌+ℤ◌, ◌-ℤ◌, length, get_or, take, drop, replicate}
use Rattle.sheet.specs.Refusal.{window_bound, first_bound}
use Rattle.meaning.specs.Value.{Value, absent, number}
use Rattle.meaning.specs.Expression.{Sheet}
use Rattle.meaning.specs.Letter.{record_of}
use Rattle.meaning.specs.Window.{B, D}
use Rattle.meaning.specs.Situation.{first_values, until_marks}

-- the list with as many zeros after it as make k numbers
abbrev pub with_zeros : ℕ → List ℕ → List ℕ
with_zeros k l = take k (l ++ replicate k 0)

unfoldable pub encoded_key : ℕ → List ℕ → List ℕ → ℕ → List ℕ
encoded_key size letters firsts marks = size ∷ (with_zeros window_bound letters ++ (with_zeros first_bound firsts ++ (marks ∷ [])))

-- A value, none or within the magnitude bound, as a natural number; and the number back from it, which stands for none beyond the bound. "The `first`
-- of none is none, in situations too." (document 02, S-5)
abbrev pub raised : Value → ℕ
raised absent = 2000000001
raised (number z) = nat_abs (z +ℤ pos 1000000000)

abbrev pub lowered : ℕ → ℤ
lowered x = pos x -ℤ pos 1000000000

-- The marks of the untils, the first as the lowest digit.
abbrev pub digit : Bool → ℕ
digit b = cond b 1 0

unfoldable pub marks_number : List Bool → ℕ
marks_number [] = 0
marks_number (b ∷ bs) = digit b + 2 * marks_number bs

-- ---- what a key says

abbrev pub size_in : List ℕ → ℕ
size_in key = get_or key 0 0

-- `width` is D+B.
abbrev pub letters_in : ℕ → List ℕ → List ℕ
letters_in width key = take (min (size_in key) width) (drop 1 key)

abbrev pub firsts_in : ℕ → List ℕ → List ℕ
firsts_in count key = take count (drop 7 key)

abbrev pub marks_in : List ℕ → ℕ
marks_in key = get_or key 15 0

-- ---- the key of a record of letter numbers

module _ (s : Sheet) where
  abbrev pub width : ℕ
  width = D s.constraints + B s.constraints

  unfoldable pub key_of : List ℕ → List ℕ
  key_of r =
      encoded_key (min (length r) (suc width)) (drop (length r - width) r)
      (cond (leb (length r) width) [] (map raised (first_values s.constraints (record_of s.streams r))))
      (marks_number (until_marks s.constraints (record_of s.streams r)))
