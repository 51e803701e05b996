-- Cases of best courses, computed by the definitions' own search (`Rattle.automaton.proofs.Course.best-within`). They are no part
-- of a law: they show that the definitions say what document 02 means.
use mathlib.Core.Path.{◌≡◌, refl}
use mathlib.Core.Bool.{cond}
use mathlib.Core.List.{List, [], ◌∷◌}
use Prim.Native.Nat.{ℕ, ◌+◌, ◌/◌, ◌%◌}
use native.Mathlib.Decide.{ℕ_discrete, dec_lt}
use lib.Dec.{eqb}
use lib.ListN.{length}
use Rattle.automaton.specs.Table.{no_state}
use Rattle.automaton.specs.Stored.{entry_at, final_at}
use Rattle.automaton.proofs.CourseSearch.{one_more, best_of}
use Rattle.automaton.proofs.Course.{Within, best, none_within, best-within}

-- the best course, or that there is none
data Answer : Type 0 where
  letters : List ℕ → Answer
  no_course : Answer

unfoldable answer_of : (changes : ℕ → ℕ → ℕ) (k : ℕ) (entry : ℕ → ℕ → ℕ) (final : ℕ → ℕ) (m s : ℕ) → Within changes k entry final m s → Answer
answer_of changes k entry final m s (best r b) = letters r
answer_of changes k entry final m s (none_within f) = no_course

-- the best course from s in a stored table
unfoldable course_of : (changes : ℕ → ℕ → ℕ) (k : ℕ) (entries finals : List ℕ) (s : ℕ) → Answer
course_of changes k entries finals s =
    answer_of changes k (entry_at k entries) (final_at finals) (length finals) s
    (best-within changes k (entry_at k entries) (final_at finals) (length finals) s)

-- two streams with the values 0 and 1: the letter is 2 * first + second

unfoldable nothing : ℕ → ℕ → ℕ
nothing a b = 0

unfoldable first : ℕ → ℕ → ℕ
first a b = cond (eqb (a / 2) (b / 2)) 0 1

unfoldable second : ℕ → ℕ → ℕ
second a b = cond (eqb (a % 2) (b % 2)) 0 1

unfoldable both : ℕ → ℕ → ℕ
unfolding first second
both a b = first a b + second a b

-- the sheet `a b|0 0|1 1|1 until ( a and ( 0 fby b ) )`

abbrev sheet_entries : List ℕ
sheet_entries = 0 ∷ 1 ∷ 0 ∷ 1 ∷ 0 ∷ 1 ∷ 2 ∷ 2 ∷ 2 ∷ 2 ∷ 2 ∷ 2 ∷ []

abbrev sheet_finals : List ℕ
sheet_finals = 0 ∷ 0 ∷ 1 ∷ []

sheet-by-number : course_of nothing 4 sheet_entries sheet_finals 0 ≡ letters (1 ∷ 2 ∷ [])
unfolding course_of answer_of nothing first second both one_more best_of best-within ℕ_discrete dec_lt
sheet-by-number = refl

sheet-at-final : course_of nothing 4 sheet_entries sheet_finals 2 ≡ letters ([])
unfolding course_of answer_of nothing first second both one_more best_of best-within ℕ_discrete dec_lt
sheet-at-final = refl

sheet-both-set : course_of both 4 sheet_entries sheet_finals 0 ≡ letters (3 ∷ 3 ∷ [])
unfolding course_of answer_of nothing first second both one_more best_of best-within ℕ_discrete dec_lt
sheet-both-set = refl

sheet-second-set : course_of second 4 sheet_entries sheet_finals 0 ≡ letters (1 ∷ 3 ∷ [])
unfolding course_of answer_of nothing first second both one_more best_of best-within ℕ_discrete dec_lt
sheet-second-set = refl

sheet-first-set : course_of first 4 sheet_entries sheet_finals 0 ≡ letters (3 ∷ 2 ∷ [])
unfolding course_of answer_of nothing first second both one_more best_of best-within ℕ_discrete dec_lt
sheet-first-set = refl

-- a table where the least change at each letter is not the least in all

abbrev greedy_entries : List ℕ
greedy_entries = 1 ∷ no_state ∷ no_state ∷ no_state ∷ 2 ∷ 3 ∷ no_state ∷ no_state ∷ no_state ∷ no_state ∷ no_state ∷ 4 ∷ no_state ∷ 4 ∷ no_state ∷ no_state ∷ 4 ∷ 4 ∷ 4 ∷ 4 ∷ []

abbrev greedy_finals : List ℕ
greedy_finals = 0 ∷ 0 ∷ 0 ∷ 0 ∷ 1 ∷ []

greedy_by_number : course_of nothing 4 greedy_entries greedy_finals 0 ≡ letters (0 ∷ 0 ∷ 3 ∷ [])
unfolding course_of answer_of nothing first second both one_more best_of best-within ℕ_discrete dec_lt
greedy_by_number = refl

greedy_both_set : course_of both 4 greedy_entries greedy_finals 0 ≡ letters (0 ∷ 1 ∷ 1 ∷ [])
unfolding course_of answer_of nothing first second both one_more best_of best-within ℕ_discrete dec_lt
greedy_both_set = refl

-- one row without entries

alone-not-final : course_of nothing 1 (no_state ∷ []) (0 ∷ []) 0 ≡ no_course
unfolding course_of answer_of nothing first second both one_more best_of best-within ℕ_discrete dec_lt
alone-not-final = refl

alone-final : course_of nothing 1 (no_state ∷ []) (1 ∷ []) 0 ≡ letters []
unfolding course_of answer_of nothing first second both one_more best_of best-within ℕ_discrete dec_lt
alone-final = refl
