-- What is prepared for the letters after a key, over the values of every letter. "Letter" and "first" are document 01's terms.
use Rattle.std.specs.Prelude.{ℕ, suc, ◌+◌, ◌*◌, ◌≤◌, ◌<◌, min, ◌≡◌, cond, List, [], ◌∷◌, ◌++◌, map, leb, ℤ, length, get_or, take, drop}
use Rattle.std.proofs.Math.Seq.{paste}
use Rattle.sheet.specs.Refusal.{stream_bound, first_bound, window_bound}
use Rattle.sizes.specs.Room.{key_size, window_room, prepared_size}
use Rattle.prepare.specs.Key.{lowered, size_in, letters_in, firsts_in}

-- The values of a letter's streams, and of some letters' one after the other, from the values of every letter.
module _ (streams : ℕ) (letter_values : List ℤ) where
  abbrev pub letter_at : ℕ → List ℤ
  letter_at a = take streams (drop (a * streams) letter_values)

  unfoldable pub window_of : List ℕ → List ℤ
  window_of [] = []
  window_of (a ∷ l) = letter_at a ++ window_of l

-- The list holds what every letter after a key needs: the values of the key's letters, and from place 56 on those of its firsts, of which there are
-- `count`. What stands after either is free.
pub record Prepared (letter_values : List ℤ) (streams width count : ℕ) (key : List ℕ) (prepared : List ℤ) : Type 0 where
  pub long : length prepared ≡ prepared_size
  pub values : take (min (size_in key) width * streams) prepared ≡ window_of streams letter_values (letters_in width key)
  pub numbers : take count (drop window_room prepared) ≡ map lowered (firsts_in count key)

-- The sheet is small, and a key and the list for what is prepared have their sizes.
abbrev pub PreparableSizes : (streams width count key room : ℕ) → Type 0
PreparableSizes streams width count key room = (width ≤ window_bound) × (streams ≤ stream_bound) × (count ≤ first_bound) × (key ≡ key_size) × (room ≡ prepared_size)

-- What the letters after a key need can be prepared: the sizes fit, and the values of the key's letters are there, as `HasValues` has it. `values` is
-- how many values there are, `room` how long the list is.
pub record IsPreparable (values streams width count : ℕ) (key : List ℕ) (room : ℕ) : Type 0 where
  pub sizes : PreparableSizes streams width count (length key) room
  pub letters : (p : ℕ) → p < min (size_in key) width → get_or key (suc p) 0 * streams + stream_bound ≤ values

-- The list with what is prepared written over it. What stands between the letters' values and the firsts', and behind these, is as it was.
unfoldable pub prepared_over : (letter_values : List ℤ) (streams width count : ℕ) (key : List ℕ) → List ℤ → List ℤ
prepared_over letter_values streams width count key list =
    paste (window_of streams letter_values (letters_in width key) ++ drop (min (size_in key) width * streams) list) window_room (map lowered (firsts_in count key)) count

-- What `prepare` leaves of a list: what is prepared, or the list as it was if that cannot be prepared. So nothing is left open
-- (`Rattle.prepare.proofs.Unique`).
pub record Prepares (letter_values : List ℤ) (streams width count : ℕ) (key : List ℕ) (list list' : List ℤ) : Type 0 where
  pub done : IsPreparable (length letter_values) streams width count key (length list) → list' ≡ prepared_over letter_values streams width count key list
  pub refused : ¬ IsPreparable (length letter_values) streams width count key (length list) → list' ≡ list

-- The list with a letter's values, if they are there, after those of the letters that are held. As many values are copied as a letter can have, so that
-- the copy has one size.
unfoldable pub with_letter_after : (streams : ℕ) (letter_values : List ℤ) (held a : ℕ) → List ℤ → List ℤ
with_letter_after streams letter_values held a list =
    cond (leb (a * streams + stream_bound) (length letter_values)) (paste list (held * streams) (take stream_bound (drop (a * streams) letter_values)) stream_bound) list

-- What `add_letter` leaves of a list, where numbers of streams and letters beyond the bounds count as the bounds: the list with the letter's values, or the
-- list as it was if it is shorter than it can be.
pub record AddsLetter (streams : ℕ) (letter_values : List ℤ) (held a : ℕ) (list list' : List ℤ) : Type 0 where
  pub done : window_room ≤ length list → list' ≡ with_letter_after (min streams stream_bound) letter_values (min held window_bound) a list
  pub refused : ¬ (window_room ≤ length list) → list' ≡ list
