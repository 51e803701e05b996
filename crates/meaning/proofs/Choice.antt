-- Each letter has one of the choices, each choice is that of some letter, and a letter's choice can be taken digit by digit, stream by stream. From the
-- numbers of letters (Letter).
use Prim.Native.Nat.{ℕ, zero, suc, ◌+◌, ◌*◌, ◌/◌, ◌%◌, ◌≤◌, ◌<◌}
use native.Mathlib.Omega.{arith}
use native.Mathlib.Nat.{mul-le-mul_left, mul-le-mul_right}
use mathlib.Core.Path.{◌≡◌, refl, ◌∙◌, ap}
use mathlib.Core.List.{List, [], ◌∷◌, Memᴰ}
use lib.IntN.{pos, ◌+ℤ◌}
use Rattle.meaning.specs.Expression.{StreamKind, read_kind, set_kind, Stream}
use Rattle.meaning.specs.Letter.{Letter, IsLetter, none, more, size, letter_count, letter_number, letter_of}
use Rattle.meaning.specs.Choice.{where_read, read_streams, read_values, choice_count, choice_of}
use Rattle.meaning.proofs.Order.{distance_+ℤ_pos}
use Rattle.meaning.proofs.Letter.{size-within, letter_number-bound, letter_of-letter_number, letter_of-letter, positive-left, positive-right, letter_number-letter_of}

-- ---- each letter has one of the choices

pub read-letter : {ss : List Stream} {l : Letter} → IsLetter ss l → IsLetter (read_streams ss) (read_values ss l)
unfolding read_streams read_values
read-letter none = none
read-letter (more {s} {ss} {v} {l} w h) = by s.kind (read-letter h)
  where
    by : (k : StreamKind) → IsLetter (read_streams ss) (read_values ss l) → IsLetter (where_read k s (read_streams ss)) (where_read k v (read_values ss l))
    by read_kind g = more w g
    by set_kind g = g

pub choice-below : (ss : List Stream) (a : ℕ) → a < letter_count ss → choice_of ss a < choice_count ss
unfolding choice_of choice_count
choice-below ss a h = letter_number-bound (read-letter (letter_of-letter ss a h))

-- ---- each choice is that of some letter

-- a letter with these read values
pub record HasReadValues (ss : List Stream) (values : Letter) : Type 0 where
  pub letter : Letter
  pub is_letter : IsLetter ss letter
  pub reads : read_values ss letter ≡ values

has_values : (ss : List Stream) → 0 < letter_count ss → {values : Letter} → IsLetter (read_streams ss) values → HasReadValues ss values
unfolding letter_count read_streams read_values
has_values [] some none = record { letter = []; is_letter = none; reads = refl }
has_values (s ∷ ss) some h = by s.kind refl h λ m g. has_values ss (positive-right (size s.range) (letter_count ss) some) g
  where
    by : (k : StreamKind) → s.kind ≡ k → {values : Letter} → IsLetter (where_read k s (read_streams ss)) values → ((m : Letter) → IsLetter (read_streams ss) m → HasReadValues ss m) → HasReadValues (s ∷ ss) values
    by read_kind e (more {v = v} w h) found =
        let x = found _ h in
        record { letter = v ∷ x.letter; is_letter = more w x.is_letter; reads = ap (λ k. where_read k v (read_values ss x.letter)) e ∙ ap (v ∷◌) x.reads }
    by set_kind e h found =
        let x = found _ h in
        let low = s.range.low +ℤ pos 0 in
        record {
          letter = low ∷ x.letter;
          is_letter = more (size-within s.range 0 (positive-left (size s.range) (letter_count ss) some)) x.is_letter;
          reads = ap (λ k. where_read k low (read_values ss x.letter)) e ∙ x.reads;
        }

pub some_choice : (ss : List Stream) → 0 < letter_count ss → 0 < choice_count ss
some_choice ss some = let h = choice-below ss 0 some in omega arith

pub choice-letter : (ss : List Stream) → 0 < letter_count ss → (c : ℕ) → c < choice_count ss → (a : ℕ) × (a < letter_count ss) × (choice_of ss a ≡ c)
unfolding choice_of choice_count
choice-letter ss some c h =
    let x = has_values ss some (letter_of-letter (read_streams ss) c h) in (
      letter_number ss x.letter,
      letter_number-bound x.is_letter,
      ap (λ l. letter_number (read_streams ss) (read_values ss l)) (letter_of-letter_number x.is_letter) ∙ ap (letter_number (read_streams ss)) x.reads ∙ letter_number-letter_of (read_streams ss) c h,
    )

-- ---- stream by stream

module _ (s : Stream) (ss : List Stream) where
  pub count-read : s.kind ≡ read_kind → choice_count (s ∷ ss) ≡ size s.range * choice_count ss
  unfolding choice_count read_streams letter_count
  count-read e = ap (λ k. letter_count (where_read k s (read_streams ss))) e

  pub count_set : s.kind ≡ set_kind → choice_count (s ∷ ss) ≡ choice_count ss
  unfolding choice_count read_streams
  count_set e = ap (λ k. letter_count (where_read k s (read_streams ss))) e

  pub choice-read : s.kind ≡ read_kind → (n : ℕ) → choice_of (s ∷ ss) n ≡ n / letter_count ss * choice_count ss + choice_of ss (n % letter_count ss)
  unfolding choice_of choice_count read_streams read_values letter_of letter_number
  choice-read e n =
      let v = s.range.low +ℤ pos (n / letter_count ss) in
      let l = letter_of ss (n % letter_count ss) in
      ap (λ k. letter_number (where_read k s (read_streams ss)) (where_read k v (read_values ss l))) e ∙ ap (λ q. q * letter_count (read_streams ss) + letter_number (read_streams ss) (read_values ss l)) (distance_+ℤ_pos s.range.low (n / letter_count ss))

  pub choice-set : s.kind ≡ set_kind → (n : ℕ) → choice_of (s ∷ ss) n ≡ choice_of ss (n % letter_count ss)
  unfolding choice_of read_streams read_values letter_of
  choice-set e n =
      let v = s.range.low +ℤ pos (n / letter_count ss) in
      let l = letter_of ss (n % letter_count ss) in
      ap (λ k. letter_number (where_read k s (read_streams ss)) (where_read k v (read_values ss l))) e

-- There are no more choices than letters.
pub choices-at-most : (ss : List Stream) → 0 < letter_count ss → choice_count ss ≤ letter_count ss
unfolding letter_count choice_count read_streams
choices-at-most [] some = omega arith
choices-at-most (s ∷ ss) some = by s.kind (choices-at-most ss (positive-right (size s.range) (letter_count ss) some))
  where
    by : (k : StreamKind) → choice_count ss ≤ letter_count ss → letter_count (where_read k s (read_streams ss)) ≤ size s.range * letter_count ss
    by read_kind h = mul-le-mul_left (size s.range) h
    by set_kind h = let g : 1 * letter_count ss ≤ size s.range * letter_count ss = mul-le-mul_right (letter_count ss) (positive-left (size s.range) (letter_count ss) some) in omega arith

-- "without any there is one choice"
pub one_choice : (ss : List Stream) → ((s : Stream) → Memᴰ s ss → s.kind ≡ set_kind) → choice_count ss ≡ 1
unfolding letter_count choice_count read_streams
one_choice [] set = refl
one_choice (s ∷ ss) set = count_set s ss (set s (Memᴰ.head refl)) ∙ one_choice ss λ x m. set x (Memᴰ.tail m)

-- ---- an example: streams of two, three and two values, of which the first and the last are read, make twelve letters and four choices; the letter 6 has the
-- second value of the first stream and the first of both others, and so the choice 2

example : List Stream
example =
    record { name = 97 ∷ []; kind = read_kind; range = record { low = pos 0; high = pos 1 } }
    ∷ (record { name = 98 ∷ []; kind = set_kind; range = record { low = pos 0; high = pos 2 } } ∷ (record { name = 99 ∷ []; kind = read_kind; range = record { low = pos 5; high = pos 6 } } ∷ []))

example_choices : choice_count example ≡ 4
unfolding letter_count choice_count read_streams example
example_choices = refl

example_letter : choice_of example 6 ≡ 2
unfolding letter_count letter_number letter_of choice_of read_streams read_values example
example_letter = refl
