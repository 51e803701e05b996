-- What is kept of an input whose bytes come one by one, in chunks of any size: of the line its number so far, and of the bytes behind it as many as decide
-- the sheet's answer.
use Rattle.std.specs.Prelude.{Option as MachineOption, Some, None, is_some, ℕ, ◌+◌, ◌*◌, ◌-◌, min, Bool, true, false, not, cond, ◌||◌, List, eqb, ltb, length, set}
use Rattle.std.proofs.Math.Option.{Option, none, some}
use Rattle.text.specs.Bytes.{class_of}
use Rattle.text.specs.Token.{is_digit}
use Rattle.text.specs.Fold.{TokenReading, class_byte, end_token}
use Rattle.record_names.specs.Line.{is_plain}
use Rattle.first_line.specs.declared.NumberPhase.{NumberPhase}
use Rattle.first_line.specs.declared.NumberPhase.TheVariants.{Start, Zero, Digits, Ended, NoNumber}
use Rattle.first_line.specs.declared.NumberState.{NumberState}
use Rattle.first_line.specs.declared.NumberLine.{NumberLine}
use Rattle.first_line.specs.declared.Taken.{Taken}

-- ---- the number

abbrev pub first_digit : ℕ → NumberPhase
first_digit b = cond (eqb b 48) Zero (cond (is_digit b) Digits NoNumber)

-- "digits [..]; a leading zero stands only in `0`", and one token alone.
abbrev pub phase_byte : NumberPhase → ℕ → NumberPhase
phase_byte Start b = first_digit b
phase_byte Zero b = NoNumber
phase_byte Digits b = cond (is_digit b) Digits NoNumber
phase_byte Ended b = NoNumber
phase_byte NoNumber b = NoNumber

abbrev pub phase_end : NumberPhase → NumberPhase
phase_end Start = NoNumber
phase_end Zero = Ended
phase_end Digits = Ended
phase_end Ended = NoNumber
phase_end NoNumber = NoNumber

-- The number is cut beyond the most letters that are counted, 64.
abbrev pub cut_number : ℕ → ℕ
cut_number n = min n 65

abbrev pub number_from : NumberPhase → ℕ → NumberState
number_from p v = record { phase = p; value = v }

abbrev pub number_byte : NumberState → ℕ → NumberState
number_byte s b = number_from (phase_byte s.phase b) (cut_number (s.value * 10 + (b - 48)))

abbrev pub number_end : NumberState → NumberState
number_end s = number_from (phase_end s.phase) s.value

-- ---- the line

abbrev pub line_of : Bool → TokenReading NumberState → NumberLine
line_of barred r = record { barred = barred; begun = r.begun; number = r.state }

abbrev pub reading_of_line : NumberLine → TokenReading NumberState
reading_of_line s = record { begun = s.begun; state = s.number }

abbrev pub number_line_start : NumberLine
number_line_start = record { barred = false; begun = false; number = number_from Start 0 }

unfoldable pub number_line_byte : NumberLine → ℕ → NumberLine
number_line_byte s b = line_of (s.barred || not (is_plain b)) (class_byte number_byte number_end (class_of b) (reading_of_line s) b)

-- A number as it is told: the number, cut, if there is one.
abbrev pub told_number : Option ℕ → MachineOption ℕ
told_number none = None
told_number (some n) = Some (cut_number n)

abbrev pub found_in : NumberPhase → ℕ → MachineOption ℕ
found_in Start v = None
found_in Zero v = None
found_in Digits v = None
found_in Ended v = Some v
found_in NoNumber v = None

abbrev pub state_number : Bool → NumberState → MachineOption ℕ
state_number barred s = cond barred None (found_in s.phase s.value)

unfoldable pub number_line_end : NumberLine → MachineOption ℕ
number_line_end s = state_number s.barred (end_token number_byte number_end s.begun s.number)

-- ---- the refusal

-- The line's 3 among the sheet's numbers, behind 1 and 2; 0 where neither refuses.
abbrev pub early_refusal : (number : MachineOption ℕ) (refusal : ℕ) → ℕ
early_refusal number refusal = cond (eqb refusal 1) 1 (cond (eqb refusal 2) 2 (cond (is_some number) refusal 3))

-- ---- the input

-- One byte more than a sheet may have: "1, over 16,384 bytes" is told by that many.
abbrev pub kept_bytes : ℕ
kept_bytes = 16385

-- What is kept of an input, and the lent bytes that hold bytes of the sheet.
pub record KeptInput : Type 0 where
  pub taken : Taken
  pub bytes : List ℕ

abbrev pub keeping : Taken → List ℕ → KeptInput
keeping taken bytes = record { taken = taken; bytes = bytes }

abbrev pub taken_at : NumberLine → (behind : Bool) → (size : ℕ) → Taken
taken_at line behind size = record { line = line; behind = behind; size = size }

-- A byte behind the line is stored behind those that are kept, where there is room.
abbrev pub store_byte : KeptInput → ℕ → KeptInput
store_byte s b =
    cond (ltb s.taken.size (length s.bytes))
    (keeping (taken_at s.taken.line true (s.taken.size + 1)) (set s.bytes s.taken.size b))
    s

-- "Lines end with byte 10": a byte of the line, its end, or a byte behind it.
abbrev pub keep_byte : KeptInput → ℕ → KeptInput
keep_byte s b =
    cond s.taken.behind
    (store_byte s b)
    (cond (eqb b 10)
    (keeping (taken_at s.taken.line true s.taken.size) s.bytes)
    (keeping (taken_at (number_line_byte s.taken.line b) false s.taken.size) s.bytes))

abbrev pub taken_start : Taken
taken_start = taken_at number_line_start false 0
