-- What is kept of a line of names whose bytes come one after the other: scalars, whatever the line's length.
use Rattle.std.specs.Prelude.{ℕ, suc, min, Bool, true, false, not, ◌&&◌, ◌||◌, ltb, eqb, length, get_or}
use Rattle.text.specs.Bytes.{Token, class_of}
use Rattle.text.specs.Fold.{TokenReading, end_token, class_byte}
use Rattle.record_names.specs.Line.{is_plain}
use Rattle.record_names.specs.declared.NameState.{NameState}
use Rattle.record_names.specs.declared.NamesState.{NamesState}

-- A count that is cut beyond the bound of streams, and of the bytes of a name.
abbrev pub next_count : ℕ → ℕ
next_count n = min (suc n) 9

-- The byte stands at the place in the name.
abbrev pub is_byte_at : Token → ℕ → ℕ → Bool
is_byte_at n place b = ltb place (length n) && eqb b (get_or n place 0)

abbrev pub name_from : ℕ → Bool → ℕ → NameState
name_from count same place = record { same = same; count = count; place = place }

abbrev pub name_byte : (ℕ → Token) → NameState → ℕ → NameState
name_byte name s b = name_from s.count (s.same && is_byte_at (name s.count) s.place b) (next_count s.place)

abbrev pub name_end : (ℕ → Token) → NameState → NameState
name_end name s = name_from (next_count s.count) (s.same && eqb s.place (length (name s.count))) 0

abbrev pub names_start : NamesState
names_start = record { barred = false; begun = false; names = name_from 0 true 0 }

abbrev pub name_reading : NamesState → TokenReading NameState
name_reading s = record { begun = s.begun; state = s.names }

abbrev pub names_from : Bool → TokenReading NameState → NamesState
names_from barred r = record { barred = barred; begun = r.begun; names = r.state }

unfoldable pub names_byte : (ℕ → Token) → NamesState → ℕ → NamesState
names_byte name s b = names_from (s.barred || not (is_plain b)) (class_byte (name_byte name) (name_end name) (class_of b) (name_reading s) b)

-- The names so far are all of the n names.
abbrev pub is_whole : ℕ → Bool → NameState → Bool
is_whole n barred s = not barred && (s.same && eqb s.count n)

unfoldable pub names_end : (ℕ → Token) → ℕ → NamesState → Bool
names_end name n s = is_whole n s.barred (end_token (name_byte name) (name_end name) s.begun s.names)
