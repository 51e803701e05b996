-- What is stored to find the course by: for each row before the goal layer and each letter, what the rest of a course costs at the row
-- behind that letter, with the change to its first letter. Rows and layers are those of the queue.
use Rattle.std.specs.Prelude.{◌≡◌, ◌⊎◌, ◌≢◌, cond, List, ◌++◌, ℕ, ◌+◌, ◌*◌, ◌<◌, ◌≤◌, eqb, length, drop}
use Rattle.basics.specs.Lists.{at}
use Rattle.automaton.specs.Table.{no_state}
use Rattle.automaton.specs.Stored.{entry_at, final_at}
use Rattle.automaton.specs.Course.{IsBest}
use Rattle.automaton.specs.Layers.{Onward, IsCost, IsFirstCheapest}
use Rattle.changes.specs.Axes.{Axis, changed_along}
use Rattle.changes.specs.Least.{IsLeastFrom}
use Rattle.course_tests.specs.Cost.{no_course}
use Rattle.course.specs.Queue.{IsMet}

-- A table with the layers of its rows and the goal layer.
pub record Layered : Type 0 where
  pub letters : ℕ
  pub rows : ℕ
  pub entry : ℕ → ℕ → ℕ
  pub final : ℕ → ℕ
  pub layer : ℕ → ℕ
  pub goal : ℕ

-- the same in lists
abbrev pub layered_in : (k : ℕ) (entries finals layers : List ℕ) (goal : ℕ) → Layered
layered_in k entries finals layers goal =
    record { letters = k; rows = length layers; entry = entry_at k entries; final = final_at finals; layer = at layers; goal = goal }

-- The cost at the row i behind the letter p. At the goal layer nothing is left to pay if the row is final, and no course goes on
-- otherwise; before it the cost is stored.
abbrev pub cost_at : (t : Layered) (costs : List ℕ) (i p : ℕ) → ℕ
cost_at t costs i p = cond (eqb (t.layer i) t.goal) (cond (eqb (t.final i) 1) 0 no_course) (entry_at t.letters costs i p)

-- the cost behind the letter a, which leads by the entry e: only rows of the layer `next` are on the way
abbrev pub cost_behind : (t : Layered) (costs : List ℕ) (next e a : ℕ) → ℕ
cost_behind t costs next e a = cond (eqb e no_state) no_course (cond (eqb (t.layer e) next) (cost_at t costs e a) no_course)

-- the cost behind each letter at the row i
abbrev pub behind : (t : Layered) (costs : List ℕ) (i a : ℕ) → ℕ
behind t costs i a = cost_behind t costs (t.layer i + 1) (t.entry i a) a

-- The costs behind the first m letters of the row i are stored in its place; the other rows are as they were.
pub record LoadsRow (t : Layered) (i m : ℕ) (costs costs' : List ℕ) : Type 0 where
  pub same_length : length costs' ≡ length costs
  pub inside : (a : ℕ) → a < m → entry_at t.letters costs' i a ≡ behind t costs i a
  pub outside : (j a : ℕ) → j ≢ i → a < t.letters → entry_at t.letters costs' j a ≡ entry_at t.letters costs j a

-- At each letter p of the row i stands the least of the changes from p to a letter and the cost behind that.
pub record FindsRow (xs : List Axis) (t : Layered) (i : ℕ) (costs costs' : List ℕ) : Type 0 where
  pub same_length : length costs' ≡ length costs
  pub inside : (p : ℕ) → p < t.letters → IsLeastFrom xs (behind t costs i) p (entry_at t.letters costs' i p)
  pub outside : (j a : ℕ) → j ≢ i → a < t.letters → entry_at t.letters costs' j a ≡ entry_at t.letters costs j a

-- The cost at a row behind a letter is right, and small: each letter that is left has at most eight changes.
pub record IsKnown (xs : List Axis) (t : Layered) (costs : List ℕ) (i p : ℕ) : Type 0 where
  pub is_cost : IsCost (changed_along xs) t.letters t.entry t.final t.layer t.goal no_course (cost_at t costs) i p
  pub small : (cost_at t costs i p ≡ no_course) ⊎ (cost_at t costs i p + 8 * t.layer i ≤ 8 * t.goal)

-- the costs of all rows up to the goal layer
pub record AreKnown (xs : List Axis) (t : Layered) (costs : List ℕ) : Type 0 where
  pub known : (i p : ℕ) → IsMet t.rows t.layer i → t.layer i ≤ t.goal → p < t.letters → IsKnown xs t costs i p

-- the way forward

-- the first of the letters that are cheapest with what follows, or that no course goes on by any letter
pub data IsCheapest (t : Layered) (costs : List ℕ) (first : ℕ → ℕ) (i r : ℕ) : Type 0 where
  is_first : IsFirstCheapest t.letters t.entry t.layer no_course (cost_at t costs) first i r → IsCheapest t costs first i r
  is_none : ((b : ℕ) → Onward t.letters t.entry t.layer i b → cost_at t costs (t.entry i b) b ≡ no_course) → r ≡ 0 → IsCheapest t costs first i r

-- the list after the way forward: the best course from s, and the list as it was behind it
pub record HoldsBest (xs : List Axis) (t : Layered) (s : ℕ) (list list' : List ℕ) : Type 0 where
  pub course : List ℕ
  pub best : IsBest (changed_along xs) t.letters t.entry t.final s course
  pub long : length course ≡ t.goal
  pub written : list' ≡ course ++ drop t.goal list
