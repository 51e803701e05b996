-- Courses: the records that lead from a state of a table to a final state, and which of them is best (document 02, S-3 and
-- S-8). `changes a b` is what the letter b costs in a course right after the letter a: in S-8 the number of set streams whose
-- value differs (crate `changes`). Every law holds for any function.
use Rattle.std.specs.Prelude.{◌≡◌, ◌⊎◌, ◌≢◌, List, [], ◌∷◌, ◌++◌, ℕ, ◌+◌, ◌-◌, ◌<◌, ◌≤◌, length, replicate}
use Rattle.automaton.specs.Words.{AllBelow}
use Rattle.automaton.specs.Table.{no_state, walk, PathFrom}

-- courses

-- "the letters" that "lead to a final state", from the state s
pub record IsCourse (k : ℕ) (entry : ℕ → ℕ → ℕ) (final : ℕ → ℕ) (s : ℕ) (r : List ℕ) : Type 0 where
  pub letters : AllBelow k r
  pub path : PathFrom entry s r
  pub ends : final (walk entry s r) ≡ 1

-- what a record costs where its first letter a costs `first a`, and each other one by the letter before it
abbrev pub total_after : (changes : ℕ → ℕ → ℕ) (first : ℕ → ℕ) → List ℕ → ℕ
total_after changes first [] = 0
total_after changes first (a ∷ r) = first a + total_after changes (changes a) r

-- "the first letter has none"
abbrev pub total : (changes : ℕ → ℕ → ℕ) → List ℕ → ℕ
total changes r = total_after changes (λ a. 0) r

-- the letters of r do not come after those of q "in number order"
abbrev pub NotAfter : (r q : List ℕ) → Type 0
NotAfter [] q = Unit {0}
NotAfter (a ∷ r) [] = ⊥
NotAfter (a ∷ r) (b ∷ q) = (a < b) ⊎ ((a ≡ b) × NotAfter r q)

-- The order of courses: "the fewest letters"; among these "the one with the fewest changes now comes first"; and "Only courses
-- still equal go by number order."
pub data NoLater (changes : ℕ → ℕ → ℕ) (r q : List ℕ) : Type 0 where
  fewer_letters : length r < length q → NoLater changes r q
  fewer_changes : length r ≡ length q → total changes r < total changes q → NoLater changes r q
  by_number : length r ≡ length q → total changes r ≡ total changes q → NotAfter r q → NoLater changes r q

-- the course that is given: no other comes before it
pub record IsBest (changes : ℕ → ℕ → ℕ) (k : ℕ) (entry : ℕ → ℕ → ℕ) (final : ℕ → ℕ) (s : ℕ) (r : List ℕ) : Type 0 where
  pub course : IsCourse k entry final s r
  pub first : (q : List ℕ) → IsCourse k entry final s q → NoLater changes r q

-- the best of m letters, by recursion on m

-- the order among courses of equally many letters, whose first letters cost by `first`
pub data NoWorse (changes : ℕ → ℕ → ℕ) (first : ℕ → ℕ) (r q : List ℕ) : Type 0 where
  cheaper : total_after changes first r < total_after changes first q → NoWorse changes first r q
  as_cheap : total_after changes first r ≡ total_after changes first q → NotAfter r q → NoWorse changes first r q

-- r is the best course of m letters from s, where the first letter costs by `first`
pub record IsLeast (changes : ℕ → ℕ → ℕ) (k : ℕ) (entry : ℕ → ℕ → ℕ) (final : ℕ → ℕ) (first : ℕ → ℕ) (m s : ℕ) (r : List ℕ) : Type 0 where
  pub course : IsCourse k entry final s r
  pub long : length r ≡ m
  pub least : (q : List ℕ) → IsCourse k entry final s q → length q ≡ m → NoWorse changes first r q

-- no course from s has m letters
abbrev pub NoCourseOf : (k : ℕ) (entry : ℕ → ℕ → ℕ) (final : ℕ → ℕ) (m s : ℕ) → Type 0
NoCourseOf k entry final m s = (q : List ℕ) → IsCourse k entry final s q → length q ≢ m

-- What the best course of m letters from s costs, where the first letter costs by `first`; `without` stands for no course.
pub data IsLeastCost (changes : ℕ → ℕ → ℕ) (k : ℕ) (entry : ℕ → ℕ → ℕ) (final : ℕ → ℕ) (without : ℕ) (first : ℕ → ℕ) (m s v : ℕ) : Type 0 where
  has_cost : {r : List ℕ} → IsLeast changes k entry final first m s r → v ≡ total_after changes first r → v < without
      → IsLeastCost changes k entry final without first m s v
  lacks : NoCourseOf k entry final m s → v ≡ without → IsLeastCost changes k entry final without first m s v

-- the letter a has an entry at s
pub record HasEntry (k : ℕ) (entry : ℕ → ℕ → ℕ) (s a : ℕ) : Type 0 where
  pub is_letter : a < k
  pub some_entry : entry s a ≢ no_state

-- Of the letters at s that a course goes on from, a is the first of those that cost least, where the letter b and what follows
-- it cost `first b + cost_after b`.
pub record IsChoice (k : ℕ) (entry : ℕ → ℕ → ℕ) (without : ℕ) (first cost_after : ℕ → ℕ) (s a : ℕ) : Type 0 where
  pub letter : HasEntry k entry s a
  pub goes_on : cost_after a ≢ without
  pub least : (b : ℕ) → HasEntry k entry s b → cost_after b ≢ without
      → (first a + cost_after a < first b + cost_after b) ⊎ ((first a + cost_after a ≡ first b + cost_after b) × (a ≤ b))

-- the outcome

-- What a call gives, with a list of `room` numbers: `Fit` says that 11 does not apply, and `Short m` that the rooms lent are
-- too short for a course of m letters. "Turned away: 15, no final state can be reached from the state given, after 11 [..] and
-- before 10 (a list too short for the course). The list is then zero."
pub data CourseOutcome (changes : ℕ → ℕ → ℕ) (k : ℕ) (entry : ℕ → ℕ → ℕ) (final : ℕ → ℕ) (s : ℕ) (Fit : Type 0) (Short : ℕ → Type 0) (room : ℕ)
    : (refusal count : ℕ) (list : List ℕ) → Type 0 where
  unfit : ¬ Fit → CourseOutcome changes k entry final s Fit Short room 11 0 (replicate room 0)
  endless : Fit → ((r : List ℕ) → ¬ IsCourse k entry final s r) → CourseOutcome changes k entry final s Fit Short room 15 0 (replicate room 0)
  short : {r : List ℕ} → Fit → IsBest changes k entry final s r → Short (length r)
      → CourseOutcome changes k entry final s Fit Short room 10 0 (replicate room 0)
  found : {r : List ℕ} → Fit → IsBest changes k entry final s r → ¬ Short (length r)
      → CourseOutcome changes k entry final s Fit Short room 0 (length r) (r ++ replicate (room - length r) 0)
