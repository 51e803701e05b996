-- Costs of letters, and the least cost of a letter with the changes to it.
use Rattle.std.specs.Prelude.{ℕ, ◌+◌, ◌≤◌, ◌<◌, ◌≡◌, ◌≢◌, List, length}
use Rattle.basics.specs.Lists.{at}
use Rattle.changes.specs.Axes.{Axis, letter_total, changed_along, axes_in}
use Rattle.changes.specs.declared.Shape.{Shape}

-- v is the least, over all letters b, of the changes between a and b and the cost of b.
pub record IsLeastFrom (xs : List Axis) (cost : ℕ → ℕ) (a v : ℕ) : Type 0 where
  pub bound : (b : ℕ) → b < letter_total xs → v ≤ changed_along xs a b + cost b
  pub best : ℕ
  pub letter : best < letter_total xs
  pub attained : v ≡ changed_along xs a best + cost best

-- A row of costs, one for each letter, becomes the row of these; one of another length stays as it is.
pub record LowersCosts (shape : Shape) (row row' : List ℕ) : Type 0 where
  pub same_length : length row' ≡ length row
  pub lowered : letter_total (axes_in shape) ≡ length row → (a : ℕ) → a < length row → IsLeastFrom (axes_in shape) (at row) a (at row' a)
  pub kept : letter_total (axes_in shape) ≢ length row → row' ≡ row

-- A row gets the changes from one letter to each; where the number is no letter's, or the row has another length, it stays as it is.
pub record CountsChanges (shape : Shape) (letter : ℕ) (row row' : List ℕ) : Type 0 where
  pub same_length : length row' ≡ length row
  pub counted : letter_total (axes_in shape) ≡ length row → letter < length row → (b : ℕ) → b < length row → at row' b ≡ changed_along (axes_in shape) letter b
  pub kept : (letter_total (axes_in shape) ≡ length row → letter < length row → ⊥) → row' ≡ row
