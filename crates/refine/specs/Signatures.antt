-- The signature of a row: its class, and the class of its successor for each letter. The hash of a signature, by the row's envelope.
use Rattle.std.specs.Prelude.{◌≡◌, List, ℕ, zero, suc, ◌+◌, ◌*◌, ◌-◌, ◌/◌, ◌%◌, ◌<◌, ◌≤◌, get_or, length}
use Rattle.row_envelopes.specs.Envelopes.{envelope_begin, envelope_end}

-- the class of the row that entry `start + a` names, 0 for none
abbrev pub class_after : List ℕ → List ℕ → ℕ → ℕ → ℕ
class_after entries class start a = get_or class (get_or entries (start + a) 0) 0

-- the rows p and q have one signature
pub record SameSignature (letters : ℕ) (entries class : List ℕ) (p q : ℕ) : Type 0 where
  pub here : get_or class p 0 ≡ get_or class q 0
  pub after : (a : ℕ) → a < letters → class_after entries class (p * letters) a ≡ class_after entries class (q * letters) a

abbrev pub mixed : ℕ → ℕ → ℕ
mixed h x = (h * 2654435761 + x) % 4294967296

-- the hash of `first` and of the first numbers of f, as many as the last argument
unfoldable pub hash : (ℕ → ℕ) → ℕ → ℕ → ℕ
hash f first zero = first
hash f first (suc a) = mixed (hash f first a) (f a)

-- the hash of a row's class, its envelope and the classes after the letters of its envelope
abbrev pub row_hash : ℕ → List ℕ → List ℕ → List ℕ → ℕ → ℕ
row_hash letters entries class envelopes s =
    let number = get_or envelopes s 0 in
    hash (class_after entries class (s * letters + envelope_begin letters number)) (mixed (get_or class s 0) number) (envelope_end letters number - envelope_begin letters number)

-- Outside a row's envelope no letter leads to a row with a class, and rows of one signature have one envelope.
pub record EnvelopedClasses (letters : ℕ) (entries class envelopes : List ℕ) : Type 0 where
  pub before : (s a : ℕ) → s < length class → a < envelope_begin letters (get_or envelopes s 0) → class_after entries class (s * letters) a ≡ 0
  pub behind : (s a : ℕ) → s < length class → envelope_end letters (get_or envelopes s 0) ≤ a → a < letters → class_after entries class (s * letters) a ≡ 0
  pub alike : (s t : ℕ) → s < length class → t < length class → SameSignature letters entries class s t → get_or envelopes s 0 ≡ get_or envelopes t 0

-- one of `count` buckets
abbrev pub signature_bucket : ℕ → ℕ → ℕ
signature_bucket count h = (h / 32768 + h) % count

abbrev pub row_bucket : ℕ → ℕ → List ℕ → List ℕ → List ℕ → ℕ → ℕ
row_bucket count letters entries class envelopes s = signature_bucket count (row_hash letters entries class envelopes s)
