-- What holds before and after each read: as many bytes as count as read lie within the room, none where a read failed, and where there may be more to
-- read there is room for it, and less after each read. And what reads put to the front of the bytes, one behind the other, is what the source had next. From
-- the definitions, and from the laws of known bytes and of a write to a part of a slice.
use Prim.Native.Nat.{ℕ, ◌+◌, ◌-◌, ◌≤◌, ◌<◌, min}
use native.Mathlib.Omega.{arith}
use mathlib.Core.Path.{◌≡◌, refl, sym, ◌∙◌, ap, subst}
use mathlib.Core.List.{List, [], ◌++◌}
use mathlib.Core.Bool.{Bool, true, false}
use lib.Dec.{ltb}
use lib.IntN.{ℤ, pos, negsuc}
use lib.Dec.{leb→le}
use lib.Signed.{◌≤ℤ◌}
use lib.ListN.{length, take, drop}
use lib.Seq.{take-add, take-append-le, length-take-le, drop_at}
use borrow.Rule.Slice.PartMut.{put_mid, post_of}
use Rattle.std.proofs.Common.{le_refl, Option, Some, None}
use Rattle.std.proofs.lemmas.Slice.{take-put_mid_below}
use Rattle.std.specs.Io.KnownBytes.{Consumes}
use Rattle.std.proofs.KnownBytes.{Consumes-nil, Consumes-trans}
use borrow.Author.Tests.{ltb-true}
use Rattle.basics.proofs.Tests.{not-both}
use Rattle.input.specs.Input.{after_read, ReadsFrom, TakesFrom}

pub record HasRead (room size : ℕ) (failed more : Bool) : Type 0 where
  pub within : size ≤ room
  pub empty : failed ≡ true → size ≡ 0
  pub left : more ≡ true → size < room

-- The room that is left where there may be more to read.
abbrev pub left_by : Bool → ℕ → ℕ
left_by true n = n
left_by false n = 0

pub nothing_read : (room : ℕ) → HasRead room 0 false (ltb 0 room)
nothing_read room = record { within = omega arith; empty = not-both; left = λ e. ltb-true 0 room e }

module _ (room size : ℕ) (h : size < room) where
  pub read_on : (got : ℤ) → HasRead room (after_read got size room).size (after_read got size room).failed (after_read got size room).more
  read_on (negsuc k) = record { within = omega arith; empty = λ e. refl; left = not-both }
  read_on (pos k) =
      record {
        within = omega arith;
        empty = not-both;
        left = λ e. let l = ltb-true 0 (min (min k (room - size)) (room - size - min k (room - size))) e in omega arith;
      }

  less_by : (got : ℤ) (more : Bool) → (after_read got size room).more ≡ more → left_by more (room - (after_read got size room).size) < room - size
  less_by (negsuc k) true e = not-both e
  less_by (negsuc k) false e = omega arith
  less_by (pos k) true e = let l = ltb-true 0 (min (min k (room - size)) (room - size - min k (room - size))) e in omega arith
  less_by (pos k) false e = omega arith

  pub less-left : (got : ℤ) → left_by (after_read got size room).more (room - (after_read got size room).size) < room - size
  less-left got = less_by got (after_read got size room).more refl

-- Where there may be more to read, no read failed.
pub unfailed : (answer : ℤ) (size room : ℕ) → (after_read answer size room).more ≡ true → (after_read answer size room).failed ≡ false
unfailed (negsuc k) size room e = not-both e
unfailed (pos n) size room e = refl

-- ---- the bytes

-- The front of a slice to whose rest ys was written stays,
pub front_kept : (a k : ℕ) (xs ys : List ℕ) → a ≤ length xs → take a xs ≡ take a (put_mid a k xs ys)
front_kept a k xs ys within = sym (take-put_mid_below _ _ _ _ _ (le_refl _) within)

-- and n of these bytes stand behind it.
pub front_more : (a k n : ℕ) (xs ys : List ℕ) → a ≤ length xs → n ≤ length ys → take a xs ++ take n ys ≡ take (a + n) (put_mid a k xs ys)
front_more a k n xs ys within fits =
    let behind : take n ys ≡ take n (drop a (put_mid a k xs ys)) = sym (ap (take n) (drop_at (take a xs) (ys ++ post_of a k xs) a (length-take-le a xs within)) ∙ take-append-le n ys (post_of a k xs) fits) in
    ap (λ l. l ++ take n ys) (front_kept a k xs ys within) ∙ ap (λ l. take a (put_mid a k xs ys) ++ l) behind ∙ sym (take-add a n (put_mid a k xs ys))

module _ {R : Type 0} (left : R → Option (List ℕ)) where
  pub none_taken : (s : Option R) → TakesFrom left s s []
  none_taken None = refl
  none_taken (Some r) = Consumes-nil (left r)

  -- After a read that did not fail the bytes that it gave stand behind those that were taken before.
  pub taken_more : (first before after : Option R) (a : ℕ) (xs ys : List ℕ) (answer : ℤ) → a ≤ length xs → length ys ≡ length xs - a → length ys ≤ 9223372036854775807 → TakesFrom left first before (take a xs)
      → ReadsFrom left before after ys answer → answer ≤ℤ pos (length ys) → (after_read answer a (length xs)).failed ≡ false
      → TakesFrom left first after (take (after_read answer a (length xs)).size (put_mid a (length xs - a) xs ys))
  taken_more first before after a xs ys (negsuc k) within size few took read most ok = not-both (sym ok)
  taken_more None None None a xs ys (pos n) within size few took read most ok = cc
  taken_more None None (Some r') a xs ys (pos n) within size few took read most ok = absurd read
  taken_more None (Some r) after a xs ys (pos n) within size few took read most ok = absurd took
  taken_more (Some r₀) None after a xs ys (pos n) within size few took read most ok = absurd took
  taken_more (Some r₀) (Some r) None a xs ys (pos n) within size few took read most ok = absurd read
  taken_more (Some r₀) (Some r) (Some r') a xs ys (pos n) within size few took read most ok =
      let fits : n ≤ length ys = leb→le n (length ys) most.le in
      let all : a + n ≡ a + min n (length xs - a) = omega arith in
      subst (Consumes _ _) (front_more a (length xs - a) n xs ys within fits ∙ ap (λ m. take m (put_mid a (length xs - a) xs ys)) all) (Consumes-trans _ _ _ _ _ took (read few).0)
