-- The envelope of a row of a stored graph: its letters from the first that leads to a live row to the last.
use Rattle.std.specs.Prelude.{◌≡◌, cond, List, ℕ, ◌*◌, ◌/◌, ◌%◌, ◌-◌, ◌<◌, ◌≤◌, min, leb, get_or, length}
use Rattle.marks.specs.Marks.{Marked, target}

-- the first of so many letters with P, or their number where none has it
pub record IsBegin (P : ℕ → Type 0) (letters begin : ℕ) : Type 0 where
  pub within : begin ≤ letters
  pub before : (a : ℕ) → a < begin → ¬ P a
  pub first : begin < letters → P begin

-- one more than the last of the letters from `begin` on with P, or `begin` where none has it
pub record IsEnd (P : ℕ → Type 0) (letters begin end : ℕ) : Type 0 where
  pub ordered : begin ≤ end
  pub within : end ≤ letters
  pub after : (a : ℕ) → end ≤ a → a < letters → ¬ P a
  pub last : begin < end → P (end - 1)

-- the letters with P lie from `begin` to before `end`
pub record IsEnvelope (P : ℕ → Type 0) (letters begin end : ℕ) : Type 0 where
  pub begins : IsBegin P letters begin
  pub ends : IsEnd P letters begin end

-- The envelope in one number: the begin times 65,536 and the end. With more than 65,535 letters it is 0, and stands for all letters.
pub record StoredEnvelope (P : ℕ → Type 0) (letters number : ℕ) : Type 0 where
  pub narrow : letters ≤ 65535 → IsEnvelope P letters (number / 65536) (number % 65536)
  pub wide : 65535 < letters → number ≡ 0

-- the end and the begin that any number stands for
abbrev pub envelope_end : (letters number : ℕ) → ℕ
envelope_end letters number = cond (leb letters 65535) (min (number % 65536) letters) letters

abbrev pub envelope_begin : (letters number : ℕ) → ℕ
envelope_begin letters number = cond (leb letters 65535) (min (number / 65536) (min (number % 65536) letters)) 0

-- the first n rows have their envelopes of letters that lead to a live row
abbrev pub Enveloped : (letters : ℕ) (entries live envelopes : List ℕ) (n : ℕ) → Type 0
Enveloped letters entries live envelopes n = (s : ℕ) → s < n → StoredEnvelope (λ a. Marked live (target letters entries s a)) letters (get_or envelopes s 0)

-- there is room for the entries of the rows, and for the envelope of each
abbrev pub EnvelopesFit : (letters : ℕ) (entries live envelopes : List ℕ) → Type 0
EnvelopesFit letters entries live envelopes = (length live * letters ≤ length entries) × (length envelopes ≡ length live)

-- Each row has its envelope, where there is room; and else nothing changes.
pub record EnvelopesOutcome (letters : ℕ) (entries live envelopes envelopes' : List ℕ) : Type 0 where
  pub fits : EnvelopesFit letters entries live envelopes → Enveloped letters entries live envelopes' (length live)
  pub unchanged : ¬ EnvelopesFit letters entries live envelopes → envelopes' ≡ envelopes
