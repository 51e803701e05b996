-- A value line that is a letter has the values of one, and its number. From the definitions.
use Prim.Native.Nat.{ℕ}
use native.Mathlib.Omega.{arith}
use mathlib.Core.Path.{◌≡◌, refl}
use mathlib.Core.Bool.{Bool, true, false, cond, ◌&&◌}
use mathlib.Core.List.{List}
use Rattle.text.specs.Bytes.{tokens}
use Rattle.text.specs.Token.{all_bytes}
use Rattle.meaning.specs.Expression.{Stream}
use Rattle.meaning.specs.Letter.{Letter, IsLetter, letter_number}
use Rattle.letters.specs.Described.{is_letter}
use Rattle.letters.proofs.Streams.{is_letter-sound}
use Rattle.record_names.specs.Line.{is_plain}
use Rattle.records.specs.Line.{malformed, outside, letter, line_values, is_one_per_stream, values_read, value_line}

values_read_lem : {ss : List Stream} {v : Letter} {a : ℕ} → values_read ss v ≡ letter a → IsLetter ss v × (a ≡ letter_number ss v)
values_read_lem {ss} {v} {a} e = go (is_letter ss v) refl e
  where
    go : (b : Bool) → is_letter ss v ≡ b → cond b (letter (letter_number ss v)) outside ≡ letter a → IsLetter ss v × (a ≡ letter_number ss v)
    go true t q = (is_letter-sound ss v t, cc)
    go false t q = let z : ◌≡◌ {A = ℕ} 0 1 = cc in absurd (omega arith)

pub letter-line : (ss : List Stream) (l : List ℕ) {a : ℕ} → value_line ss l ≡ letter a → IsLetter ss (line_values l) × (a ≡ letter_number ss (line_values l))
unfolding value_line
letter-line ss l {a} e = go (all_bytes is_plain l && is_one_per_stream ss (tokens l)) e
  where
    go : (b : Bool) → cond b (values_read ss (line_values l)) malformed ≡ letter a → IsLetter ss (line_values l) × (a ≡ letter_number ss (line_values l))
    go true q = values_read_lem q
    go false q = let z : ◌≡◌ {A = ℕ} 0 1 = cc in absurd (omega arith)
