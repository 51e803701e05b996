-- What refusals 3 to 7 say of a sheet, from what its parts say (document 01, "The lowest that applies to the whole sheet
-- is given").
use Rattle.std.specs.Prelude.{ℕ, ◌+◌, Bool, cond, ◌||◌, ltb}
use Rattle.lowest_refusal.specs.declared.Tested.{Tested}

-- 3 where the line of kinds or the constraint lines are not of the form, else 4 where a name of line 1 is refused, else 0: "The lowest that applies
-- to the whole sheet is given".
abbrev pub form_refusal : Bool → Bool → ℕ
form_refusal formless named = cond formless 3 (cond named 4 0)

-- What refusals 4 to 7 say, but for the names of line 1.
abbrev pub failed_as : ℕ → Tested
failed_as n = record { refusal = n; letters = 0; ahead = 0; back = 0 }

-- Whether a name is unknown, a range or an integer faulty, and every interval within the bound; and the numbers that refusal 7 counts.
abbrev pub tested_with : (unknown faulty bounded : Bool) (letters untils firsts ahead back : ℕ) → Tested
tested_with unknown faulty bounded letters untils firsts ahead back =
    let counted = ltb 1024 letters || ltb 8 untils || ltb 8 firsts || ltb 6 (ahead + back) in
    cond unknown (failed_as 4) (cond faulty (failed_as 5) (cond bounded (cond counted (failed_as 7) (record { refusal = 0; letters = letters; ahead = ahead; back = back })) (failed_as 6)))
