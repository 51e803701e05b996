-- What a letter of a course costs with what follows it.
use Rattle.std.specs.Prelude.{cond, ℕ, ◌+◌, eqb}

-- what stands for no course
abbrev pub no_course : ℕ
no_course = 65535

-- what a letter costs with what follows it; no sum of two stored numbers is as large as what stands for none
abbrev pub total_cost : (changes cost : ℕ) → ℕ
total_cost changes cost = cond (eqb cost no_course) 131072 (changes + cost)
