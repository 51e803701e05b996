-- What a call for the normal form gives: one relation over the sheet's bytes, the lent list, the answer and the list afterwards.
use Rattle.std.specs.Prelude.{ℕ, ◌-◌, ◌≤◌, ◌<◌, List, ◌++◌, length, replicate}
use Rattle.meaning.specs.Expression.{Sheet}
use Rattle.meaning.specs.NormalForm.{normal_form}
use Rattle.sheet.specs.Refusal.{refused, sheet, AnswerTo}

-- The refusal's number or 0, the number of entries and of added streams.
pub record NormalAnswer : Type 0 where
  pub refusal : ℕ
  pub entries : ℕ
  pub added : ℕ

abbrev pub refused_normal_answer : ℕ → NormalAnswer
refused_normal_answer n = record { refusal = n; entries = 0; added = 0 }

abbrev pub entry_count : Sheet → ℕ
entry_count s = length (normal_form s).constraints

abbrev pub given_answer : Sheet → NormalAnswer
given_answer s = record { refusal = 0; entries = entry_count s; added = length (normal_form s).streams - length s.streams }

-- `blank` is the record with all fields 0, and `encoded s` the records of the entries of the normal form of s, in order.
module _ {E : Type 0} (blank : E) (encoded : Sheet → List E) where
  -- "Room [..] in a list beyond what is given, is zero".
  abbrev pub given_list : ℕ → Sheet → List E
  given_list room s = encoded s ++ replicate (room - entry_count s) blank

  -- "The normal form can meet 1 to 7 and 10, and leaves its list zero."
  pub data NormalOutcome (text : List ℕ) (room : ℕ) : NormalAnswer → List E → Type 0 where
    unread : {n : ℕ} → AnswerTo text (refused n) → NormalOutcome text room (refused_normal_answer n) (replicate room blank)
    -- "10: [..] or the list for the normal form is shorter than its entries."
    too_short : {s : Sheet} → AnswerTo text (sheet s) → room < entry_count s → NormalOutcome text room (refused_normal_answer 10) (replicate room blank)
    given : {s : Sheet} → AnswerTo text (sheet s) → entry_count s ≤ room → NormalOutcome text room (given_answer s) (given_list room s)
