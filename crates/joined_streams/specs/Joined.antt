-- The streams of two sheets on one river (document 02, S-9): "streams with the same name are one, the first sheet's streams come first, then the second's
-- others", and the cut of a joined letter to a sheet's own streams.
use Rattle.std.specs.Prelude.{ℕ, ◌≤◌, ◌<◌, ◌≡◌, cond, eqb, pos, length, get_or}
use mathlib.Core.List.{List, [], ◌∷◌, ◌++◌, map, Memᴰ}
use Rattle.text.specs.Bytes.{Token}
use Rattle.meaning.specs.Expression.{Stream}
use Rattle.meaning.specs.Letter.{Letter, letter_count, letter_number, letter_of}
use Rattle.sheet.specs.Vocabulary.{name_place}
use Rattle.sheet.specs.Form.{names_of}
use Rattle.sheet.specs.Refusal.{stream_bound, letter_bound}

-- The place of the first stream with a name; as many as the streams are where none has it.
abbrev pub place_of : List Stream → Token → ℕ
place_of ss name = name_place (names_of ss) name

-- "the second's others": those of ts whose name no stream of ss has
unfoldable pub other_streams : List Stream → List Stream → List Stream
other_streams ss [] = []
other_streams ss (t ∷ ts) = cond (eqb (place_of ss t.name) (length ss)) (t ∷ other_streams ss ts) (other_streams ss ts)

-- "the first sheet's streams come first, then the second's others"
abbrev pub joined_streams : List Stream → List Stream → List Stream
joined_streams ss ts = ss ++ other_streams ss ts

-- The cut of a letter of the streams js: each of the streams ss has the value of the stream with its name.
abbrev pub cut_letter : (js ss : List Stream) → Letter → Letter
cut_letter js ss l = map (λ s. get_or l (place_of js s.name) (pos 0)) ss

-- The number of the cut of the letter with a number.
abbrev pub cut_number : (js ss : List Stream) → ℕ → ℕ
cut_number js ss a = letter_number ss (cut_letter js ss (letter_of js a))

-- not "another range or kind"
pub record IsAlike (s t : Stream) : Type 0 where
  pub same_kind : s.kind ≡ t.kind
  pub same_range : s.range ≡ t.range

-- 17 does not apply: not "a shared name with another range or kind"
pub record SharedAlike (ss ts : List Stream) : Type 0 where
  pub alike : (s t : Stream) → Memᴰ s ss → Memᴰ t ts → s.name ≡ t.name → IsAlike s t

-- 7 does not apply: "Bounds on streams and letters give 7"
pub record WithinBounds (js : List Stream) : Type 0 where
  pub few_streams : length js ≤ stream_bound
  pub few_letters : letter_count js ≤ letter_bound

-- The streams js have the names of the streams ss, with their ranges.
pub record Covers (js ss : List Stream) : Type 0 where
  pub place : (t : Stream) → Memᴰ t ss → place_of js t.name < length js
  pub range : (t : Stream) → Memᴰ t ss → (d : Stream) → (get_or js (place_of js t.name) d).range ≡ t.range
