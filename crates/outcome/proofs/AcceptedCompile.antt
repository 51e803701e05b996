-- What a compile without a refusal says: the text was read as a sheet, the numbers reported are its count of situations, which fit,
-- and the states of its table, and the used rows hold that table.
use Prim.Native.Nat.{ℕ, ◌<◌, ◌≤◌}
use native.Mathlib.Omega.{arith}
use mathlib.Core.Path.{◌≡◌}
use mathlib.Core.List.{List}
use Rattle.meaning.specs.Expression.{Sheet}
use Rattle.sheet.specs.Refusal.{Answer, refused, sheet, AnswerTo, refused1, refused2, refused3, refused4, refused5, refused6, refused7, accepted}
use Rattle.outcome.specs.Compile.{CompileAnswer, Room, Tables, HoldsSheetTable, SituationsFit, too_many_situations, too_few_rows, no_solution, compiled, CompileOutcome, unread, read}

-- A sheet is no refusal, so any number of 1 to 7 serves for it.
number_of : Answer → ℕ
number_of (refused n) = n
number_of (sheet s) = 1

module _ {text : List ℕ} where
  some_number : {a : Answer} → AnswerTo text a → (0 < number_of a) × (number_of a ≤ 7)
  unfolding number_of
  some_number (refused1 r) = (omega arith, omega arith)
  some_number (refused2 a r) = (omega arith, omega arith)
  some_number (refused3 a b r) = (omega arith, omega arith)
  some_number (refused4 a b c r) = (omega arith, omega arith)
  some_number (refused5 a b c d r) = (omega arith, omega arith)
  some_number (refused6 a b c d e r) = (omega arith, omega arith)
  some_number (refused7 a b c d e f r) = (omega arith, omega arith)
  some_number (accepted a b c d e f g h) = (omega arith, omega arith)

  pub refusal-in_range : {n : ℕ} → AnswerTo text (refused n) → (0 < n) × (n ≤ 7)
  unfolding number_of
  refusal-in_range r = some_number r

  pub refusal-positive : {n : ℕ} → AnswerTo text (refused n) → 0 < n
  refusal-positive r = (refusal-in_range r).0

pub record AcceptedCompile (text : List ℕ) (room : Room) (a : CompileAnswer) (t : Tables) : Type 0 where
  pub source : Sheet
  pub read : AnswerTo text (sheet source)
  pub fit : SituationsFit source room a.situations
  pub held : HoldsSheetTable source room a.states t

pub accepted_compile : {text : List ℕ} {room : Room} {a : CompileAnswer} {t : Tables} → CompileOutcome text room a t → a.refusal ≡ 0
    → AcceptedCompile text room a t
accepted_compile (unread r) e = absurd (omega (arith, refusal-positive r))
accepted_compile (read r (too_many_situations h x)) e = absurd (omega arith)
accepted_compile (read r (too_few_rows h x)) e = absurd (omega arith)
accepted_compile (read r (no_solution x f)) e = absurd (omega arith)
accepted_compile (read r (compiled x h)) e = record { source = _; read = r; fit = x; held = h }
