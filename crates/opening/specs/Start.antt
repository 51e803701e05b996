-- The state to start from, by the text that says it (document 02, S-1: "this one may get a third, the state to start from instead of 0"), and how such a
-- text is judged. Programs that begin in a state of a table have it from here.
use Rattle.std.specs.Prelude.{Option as MachineOption, Some, None, ℕ, Bool, true, false, cond, ◌&&◌, List, ltb, ℤ, pos, negsuc, nat_abs}
use Rattle.std.proofs.Math.Option.{Option, none, some}
use Rattle.text.specs.Bytes.{Token}
use Rattle.text.specs.Token.{is_integer, integer_value}

-- The text of a start, where one is given.
abbrev pub start_text : Bool → List ℕ → Option Token
start_text true start = some start
start_text false start = none

-- "11, a start that is no state of the table": an integer, written as in a sheet, from 0 to before the number of states.
abbrev pub is_state_below : ℕ → ℤ → Bool
is_state_below states (pos n) = ltb n states
is_state_below states (negsuc n) = false

-- "the state to start from instead of 0"; none for a start that is no state of the table
unfoldable pub start_state : ℕ → Option Token → Option ℕ
start_state states none = some 0
start_state states (some t) = cond (is_integer t && is_state_below states (integer_value t)) (some (nat_abs (integer_value t))) none

-- ---- a start as it is judged

-- The state that a number is, or none.
abbrev pub state_below : ℕ → ℤ → Option ℕ
state_below states value = cond (is_state_below states value) (some (nat_abs value)) none

-- The state, if there is one.
abbrev pub judged : Option ℕ → MachineOption ℕ
judged none = None
judged (some state) = Some state
