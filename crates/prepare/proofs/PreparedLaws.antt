-- What is prepared for the letters after a key: that the loops prepare it, and that it stays when a letter is put after it. From the laws of lists.
use Prim.Native.Nat.{ℕ, suc, ◌+◌, ◌-◌, ◌*◌, ◌≤◌, ◌<◌, min}
use native.Mathlib.Omega.{arith}
use native.Mathlib.Decide.{dec_le}
use native.Mathlib.Nat.{mul-le-mul, suc-mul}
use native.Mathlib.Numerals.{add-one}
use mathlib.Core.Path.{◌≡◌, refl, sym, ◌∙◌, ap, ap₂, subst}
use mathlib.Core.Bool.{cond}
use mathlib.Core.List.{List, [], ◌∷◌, ◌++◌, map, append_assoc}
use lib.IntN.{ℤ}
use lib.ListN.{length, get_or, take, drop, length-append, length-drop, length-map}
use borrow.Author.Tests.{le-leb, lt-leb}
use lib.Seq.{length-take-le, length-paste, take_all, take-take, take_at, drop_at, take-append-le, drop-drop, drop-paste, get_or-take, get_or-drop, paste}
use Rattle.sheet.specs.Refusal.{window_bound, first_bound, stream_bound}
use Rattle.sizes.specs.Room.{key_size, window_room, prepared_size}
use Rattle.prepare.specs.Key.{lowered, size_in, letters_in, firsts_in}
use Rattle.prepare.specs.Prepared.{letter_at, window_of, Prepared, IsPreparable, prepared_over, Prepares, with_letter_after, AddsLetter}
use Rattle.prepare.proofs.KeyLists.{window_of-snoc, window_of-long, letter-put}
use Rattle.prepare.proofs.Parts.{part-size, part-long}

-- ---- lists

-- The start of a list stays when a list is put after it.
start-stays : {X : Type 0} (l l' more : List X) (h n : ℕ) → h ≤ n → h ≤ length l → take n l' ≡ take h l ++ more → take h l' ≡ take h l
start-stays l l' more h n le room e = sym (take-take h n l' le) ∙ ap (take h) e ∙ take_at (take h l) more h (length-take-le h l room)

-- What stands before the place of a copy stays, and from there on stands the copy.
module _ {X : Type 0} (d : List X) (at : ℕ) (s : List X) (room : at ≤ length d) where
  pub paste-before : (n k : ℕ) → k ≤ at → take k (paste d at s n) ≡ take k d
  paste-before n k h =
      let long : length (take at d) ≡ at = length-take-le at d room in
      let one = take-append-le k (take at d ++ take n s) (drop (at + n) d) (omega (arith, length-append (take at d) (take n s))) in
      let two = take-append-le k (take at d) (take n s) (omega arith) in
      one ∙ two ∙ take-take k at d h

  -- what stands behind the copy stays
  pub paste-behind : (k : ℕ) → at + length s ≤ k → k ≤ length d → drop k (paste d at s (length s)) ≡ drop k d
  paste-behind k h l =
      let e : at + length s + (k - (at + length s)) ≡ k = omega arith in
      ap (λ n. drop n (paste d at s (length s))) (sym e) ∙ sym (drop-drop (k - (at + length s)) (at + length s) (paste d at s (length s)))
      ∙ ap (drop (k - (at + length s))) (drop-paste d at s (length s) room (omega arith))
      ∙ drop-drop (k - (at + length s)) (at + length s) d ∙ ap (λ n. drop n d) e

  paste-from : take (length s) (drop at (paste d at s (length s))) ≡ s
  paste-from =
      let long : length (take at d) ≡ at = length-take-le at d room in
      ap (λ l. take (length s) (drop at l)) (append_assoc (take at d) (take (length s) s) (drop (at + length s) d))
      ∙ ap (take (length s)) (drop_at (take at d) (take (length s) s ++ drop (at + length s) d) at long)
      ∙ ap (λ l. take (length s) (l ++ drop (at + length s) d)) (take_all (length s) s (omega arith))
      ∙ take_at s (drop (at + length s) d) (length s) refl

-- ---- sizes

pub one_more : (n streams : ℕ) → (n + 1) * streams ≡ n * streams + streams
one_more n streams = rw (add-one, suc-mul) refl

-- There is room for the values of the letters that a key holds, and of one more.
pub copy_room : {n streams : ℕ} → streams ≤ stream_bound → n ≤ window_bound → n * streams + stream_bound ≤ window_room
copy_room {n} {streams} few_streams h = let m : n * streams ≤ 6 * 8 = mul-le-mul h few_streams in omega arith

pub window-room : {n streams : ℕ} → streams ≤ stream_bound → n ≤ window_bound → n * streams + streams ≤ window_room
window-room few_streams h = omega (arith, copy_room few_streams h)

-- A letter that is stored in 32 bits has its values at a place that is no product too large.
pub place-small : (letter streams : ℕ) → letter < 4294967296 → streams ≤ stream_bound → letter * streams ≤ 4294967296 * 8
place-small letter streams h k = mul-le-mul (let l : letter ≤ 4294967296 = omega arith in l) k

-- Few streams: all of them count.
pub all-streams : {streams : ℕ} → streams ≤ stream_bound → min streams stream_bound ≡ streams
all-streams h = omega arith

-- ---- the parts of a key

module _ (key : List ℕ) (long : length key ≡ key_size) where
  module _ (width held : ℕ) (is : held ≡ min (size_in key) width) (few : width ≤ window_bound) where
    abbrev letters_part : List ℕ
    letters_part = take (held + 1 - 1) (drop 1 key)

    pub letters-is : letters_part ≡ letters_in width key
    letters-is = let e : held + 1 - 1 ≡ min (size_in key) width = omega arith in ap (λ n. take n (drop 1 key)) e

    pub letters-part-long : length letters_part ≡ held
    letters-part-long = length-take-le (held + 1 - 1) (drop 1 key) (omega (arith, length-drop 1 key)) ∙ omega arith

    part-letter : (p : ℕ) → p < held → get_or letters_part p 0 ≡ get_or key (suc p) 0
    part-letter p h = get_or-take (held + 1 - 1) (drop 1 key) p 0 (omega arith) ∙ get_or-drop 1 key p 0 ∙ ap (λ n. get_or key n 0) (omega arith)

    -- the values of the letters of the part are those of the letters of the key
    module _ (values streams : ℕ) where
      pub part-values : ((p : ℕ) → p < min (size_in key) width → get_or key (suc p) 0 * streams + stream_bound ≤ values)
          → (p : ℕ) → p < length letters_part → get_or letters_part p 0 * streams + stream_bound ≤ values
      part-values k p h = rw (part-letter p (omega (arith, letters-part-long))) (k p (omega (arith, letters-part-long)))

      pub key-values : ((p : ℕ) → p < length letters_part → get_or letters_part p 0 * streams + stream_bound ≤ values)
          → (p : ℕ) → p < min (size_in key) width → get_or key (suc p) 0 * streams + stream_bound ≤ values
      key-values k p h = subst (λ n. n * streams + stream_bound ≤ values) (part-letter p (omega arith)) (k p (omega (arith, letters-part-long)))

  module _ (count : ℕ) (few : count ≤ first_bound) where
    abbrev firsts_part : List ℕ
    firsts_part = take (7 + count - 7) (drop 7 key)

    pub firsts-is : firsts_part ≡ firsts_in count key
    firsts-is = let e : 7 + count - 7 ≡ count = omega arith in ap (λ n. take n (drop 7 key)) e

    pub firsts-part-long : length firsts_part ≡ count
    firsts-part-long = length-take-le (7 + count - 7) (drop 7 key) (omega (arith, length-drop 7 key)) ∙ omega arith

-- ---- before the first letter

module _ (letter_values : List ℤ) (streams width count : ℕ) (key : List ℕ) (list : List ℤ) (fits : IsPreparable (length letter_values) streams width count key (length list)) where
  -- how many letters the key holds
  abbrev few : ℕ
  few = min (size_in key) width

  abbrev values : List ℤ
  values = window_of streams letter_values (letters_in width key)

  abbrev firsts : List ℤ
  firsts = map lowered (firsts_in count key)

  abbrev filled : List ℤ
  filled = values ++ drop (few * streams) list

  -- The steps of the loops make the list that is prepared.
  pub parts_prepared : (held : ℕ) → held ≡ few → (window left : List ℤ)
      → window ≡ window_of streams letter_values (take (held + 1 - 1) (drop 1 key)) ++ drop (length (take (held + 1 - 1) (drop 1 key)) * streams) list
      → left ≡ paste window window_room (map lowered (take (7 + count - 7) (drop 7 key))) (length (take (7 + count - 7) (drop 7 key)))
      → left ≡ prepared_over letter_values streams width count key list
  unfolding prepared_over
  parts_prepared held is window left fills lowers =
      let letters = letters-is key fits.sizes.3 width held is fits.sizes.0 in
      let long = letters-part-long key fits.sizes.3 width held is fits.sizes.0 ∙ is in
      let numbers = firsts-is key fits.sizes.3 count fits.sizes.2 in
      let many = firsts-part-long key fits.sizes.3 count fits.sizes.2 in
      let window-is : window ≡ filled = fills ∙ (λ i. window_of streams letter_values (letters i) ++ drop (long i * streams) list) in
      lowers ∙ (λ i. paste (window-is i) window_room (map lowered (numbers i)) (many i))

  window-fits : few * streams ≤ window_room
  window-fits = let some : few ≤ window_bound = omega (arith, fits.sizes.0) in omega (arith, window-room {n = few} fits.sizes.1 some)

  values-there : (p : ℕ) → p < length (letters_in width key) → get_or (letters_in width key) p 0 * streams + stream_bound ≤ length letter_values
  values-there =
      subst (λ l. (p : ℕ) → p < length l → get_or l p 0 * streams + stream_bound ≤ length letter_values) (letters-is key fits.sizes.3 width few refl fits.sizes.0)
      (part-values key fits.sizes.3 width few refl fits.sizes.0 (length letter_values) streams fits.letters)

  values-long : length values ≡ few * streams
  values-long =
      window_of-long streams letter_values (letters_in width key) (λ p h. omega (arith, values-there p h, fits.sizes.1))
      ∙ ap (◌* streams) (length-take-le few (drop 1 key) (omega (arith, fits.sizes.0, fits.sizes.3, length-drop 1 key)))

  filled-long : length filled ≡ prepared_size
  filled-long = omega (arith, length-append values (drop (few * streams) list), values-long, length-drop (few * streams) list, window-fits, fits.sizes.4)

  firsts-long : length firsts ≡ count
  firsts-long = length-map (firsts_in count key) lowered ∙ length-take-le count (drop 7 key) (omega (arith, fits.sizes.2, fits.sizes.3, length-drop 7 key))

  -- What is prepared is what the letters after the key need.
  pub prepared_over_lem : Prepared letter_values streams width count key (prepared_over letter_values streams width count key list)
  unfolding prepared_over
  prepared_over_lem =
      let room : window_room ≤ length filled = omega (arith, filled-long) in
      record {
        long = length-paste filled window_room firsts count (omega (arith, filled-long, fits.sizes.2)) (omega (arith, firsts-long)) ∙ filled-long;
        values = paste-before filled window_room firsts room count (few * streams) window-fits ∙ take_at values (drop (few * streams) list) (few * streams) values-long;
        numbers = ap (λ n. take n (drop window_room (paste filled window_room firsts n))) (sym firsts-long) ∙ paste-from filled window_room firsts room;
      }

-- What `prepare` leaves is prepared, if it can be.
pub prepares_prepared : {letter_values : List ℤ} {streams width count : ℕ} {key : List ℕ} {list list' : List ℤ}
    → Prepares letter_values streams width count key list list' → IsPreparable (length letter_values) streams width count key (length list) → Prepared letter_values streams width count key list'
prepares_prepared {letter_values} {streams} {width} {count} {key} {list} p fits =
    subst (Prepared letter_values streams width count key) (sym (p.done fits)) (prepared_over_lem letter_values streams width count key list fits)

-- ---- a letter is put after what is prepared

module _ (streams : ℕ) (letter_values : List ℤ) (held a : ℕ) (list : List ℤ) where
  -- A letter whose values are not there leaves the list as it is.
  pub letter-missing : length letter_values < a * streams + stream_bound → with_letter_after streams letter_values held a list ≡ list
  unfolding with_letter_after
  letter-missing h = ap (λ b. cond b (paste list (held * streams) (take stream_bound (drop (a * streams) letter_values)) stream_bound) list) (lt-leb (a * streams + stream_bound) (length letter_values) h)

  module _ (inside : a * streams + stream_bound ≤ length letter_values) where
    abbrev part : List ℤ
    part = take (a * streams + stream_bound - a * streams) (drop (a * streams) letter_values)

    pub letter-copied : with_letter_after streams letter_values held a list ≡ paste list (held * streams) part (length part)
    unfolding with_letter_after
    letter-copied =
        let long : length part ≡ stream_bound = part-long letter_values (a * streams) stream_bound inside in
        let is : part ≡ take stream_bound (drop (a * streams) letter_values) = ap (λ n. take n (drop (a * streams) letter_values)) (part-size (a * streams) stream_bound) in
        ap (λ b. cond b (paste list (held * streams) (take stream_bound (drop (a * streams) letter_values)) stream_bound) list) (le-leb (a * streams + stream_bound) (length letter_values) inside)
        ∙ sym (λ i. paste list (held * streams) (is i) (long i))

  module _ (few_streams : streams ≤ stream_bound) (few : held ≤ window_bound) (room : window_room ≤ length list) where
    copy_fits : held * streams + stream_bound ≤ window_room
    copy_fits = copy_room {n = held} few_streams few

    -- The letter's values stand after those of the letters that are held.
    pub letter-after : a * streams + stream_bound ≤ length letter_values → take ((held + 1) * streams) (with_letter_after streams letter_values held a list) ≡ take (held * streams) list ++ letter_at streams letter_values a
    letter-after inside =
        ap (λ n. take n (with_letter_after streams letter_values held a list)) (one_more held streams) ∙ ap (take (held * streams + streams)) (letter-copied inside)
        ∙ letter-put streams letter_values stream_bound a (held * streams) (a * streams) list few_streams refl inside (omega (arith, copy_fits))

    -- What stands behind the window stays, and the list keeps its length.
    kept_with : (drop window_room (with_letter_after streams letter_values held a list) ≡ drop window_room list) × (length (with_letter_after streams letter_values held a list) ≡ length list)
    kept_with = by (dec_le (a * streams + stream_bound) (length letter_values))
      where
        by : Dec (a * streams + stream_bound ≤ length letter_values) → (drop window_room (with_letter_after streams letter_values held a list) ≡ drop window_room list) × (length (with_letter_after streams letter_values held a list) ≡ length list)
        by (no h) = let e = letter-missing (omega arith) in (ap (drop window_room) e, ap length e)
        by (yes h) =
            let long = part-long letter_values (a * streams) stream_bound h in (
              ap (drop window_room) (letter-copied h) ∙ paste-behind list (held * streams) (part h) (omega (arith, copy_fits)) window_room (omega (arith, long, copy_fits)) room,
              ap length (letter-copied h) ∙ length-paste list (held * streams) (part h) (length (part h)) (omega (arith, long, copy_fits)) (omega arith),
            )

    pub letter-behind : drop window_room (with_letter_after streams letter_values held a list) ≡ drop window_room list
    letter-behind = kept_with.0

    pub letter_long : length (with_letter_after streams letter_values held a list) ≡ length list
    letter_long = kept_with.1

-- What is prepared for a key stays so when a letter is put after it, and then the list holds what the longer record needs.
module _ {letter_values : List ℤ} {streams width count : ℕ} {key : List ℕ} {before : List ℤ} (p : Prepared letter_values streams width count key before) (a : ℕ)
    (few : width ≤ window_bound) (few_streams : streams ≤ stream_bound) (inside : a * streams + stream_bound ≤ length letter_values) where
  abbrev held : ℕ
  held = min (size_in key) width

  abbrev after : List ℤ
  after = with_letter_after streams letter_values held a before

  few-held : held ≤ window_bound
  few-held = omega arith

  room : window_room ≤ length before
  room = omega (arith, p.long)

  put : take ((held + 1) * streams) after ≡ take (held * streams) before ++ letter_at streams letter_values a
  put = letter-after streams letter_values held a before few_streams few-held room inside

  pub values-after : take ((held + 1) * streams) after ≡ window_of streams letter_values (letters_in width key ++ (a ∷ []))
  values-after = put ∙ ap (◌++ letter_at streams letter_values a) p.values ∙ sym (window_of-snoc streams letter_values (letters_in width key) a)

  pub firsts_after : take count (drop window_room after) ≡ map lowered (firsts_in count key)
  firsts_after = ap (take count) (letter-behind streams letter_values held a before few_streams few-held room) ∙ p.numbers

  pub prepared_again : Prepared letter_values streams width count key after
  prepared_again =
      record {
        long = letter_long streams letter_values held a before few_streams few-held room ∙ p.long;
        values = start-stays before after (letter_at streams letter_values a) (held * streams) ((held + 1) * streams) (omega (arith, one_more held streams)) (omega (arith, room, window-room {n = held} few_streams few-held)) put ∙ p.values;
        numbers = firsts_after;
      }

-- Within the bounds `add_letter` cuts nothing.
pub added-within : {streams held a : ℕ} {values list list' : List ℤ} → streams ≤ stream_bound → held ≤ window_bound → window_room ≤ length list → AddsLetter streams values held a list list'
    → list' ≡ with_letter_after streams values held a list
added-within {streams} {held} {a} {values} {list} s h room x = x.done room ∙ ap₂ (λ n m. with_letter_after n values m a list) (all-streams s) (let e : min held window_bound ≡ held = omega arith in e)
