-- The streams that a sheet's lowest and highest values describe have the letters of the sheet's own streams; the test for a letter decides whether
-- the values are one, and the test for a number whether there is a letter with it, and room for its values.
use Prim.Native.Nat.{ℕ, ◌≤◌, ◌<◌}
use native.Mathlib.Omega.{arith}
use mathlib.Core.Path.{◌≡◌, refl, sym, ap, subst}
use mathlib.Core.Bool.{Bool, true, ◌&&◌}
use mathlib.Core.List.{List, [], ◌∷◌}
use lib.Dec.{T}
use lib.Signed.{le_z, le_z_yes}
use lib.ListN.{length}
use Rattle.basics.proofs.Tests.{true_of_T}
use Rattle.basics.proofs.Reflects.{Reflects, reflects_iff, and_reflects, leb_reflects, ltb_reflects}
use Rattle.meaning.specs.Expression.{Stream}
use Rattle.meaning.specs.Letter.{Letter, IsLetter, none, more, letter_count, letter_number, letter_of}
use Rattle.meaning.proofs.SameRanges.{SameRanges, ranges_length, ranges_count, ranges_number, ranges_letter}
use Rattle.nodes.specs.Bounds.{lows_of, highs_of}
use Rattle.nodes.proofs.Parts.{and_true_left, and_true_right}
use Rattle.sheet.specs.Refusal.{letter_bound}
use Rattle.letters.specs.Described.{described, is_letter, has_letter}

-- ---- the sheet's streams

-- The streams without their names.
abbrev pub unnamed : List Stream → List Stream
unnamed ss = described (lows_of ss) (highs_of ss)

unnamed_ranges : (ss : List Stream) → SameRanges (unnamed ss) ss
unnamed_ranges [] = SameRanges.none
unnamed_ranges (s ∷ ss) = SameRanges.more refl (unnamed_ranges ss)

pub length-unnamed : (ss : List Stream) → length (unnamed ss) ≡ length ss
length-unnamed ss = ranges_length (unnamed_ranges ss)

pub letter_count-unnamed : (ss : List Stream) → letter_count (unnamed ss) ≡ letter_count ss
letter_count-unnamed ss = ranges_count (unnamed_ranges ss)

pub letter_of-unnamed : (ss : List Stream) (n : ℕ) → letter_of (unnamed ss) n ≡ letter_of ss n
letter_of-unnamed ss = ranges_letter (unnamed_ranges ss)

pub letter_number-unnamed : (ss : List Stream) (l : Letter) → letter_number (unnamed ss) l ≡ letter_number ss l
letter_number-unnamed ss = ranges_number (unnamed_ranges ss)

pub is_letter-unnamed : (ss : List Stream) (l : Letter) → is_letter (unnamed ss) l ≡ is_letter ss l
unfolding is_letter
is_letter-unnamed [] [] = refl
is_letter-unnamed [] (v ∷ l) = refl
is_letter-unnamed (s ∷ ss) [] = refl
is_letter-unnamed (s ∷ ss) (v ∷ l) = ap (λ t. le_z s.range.low v && (le_z v s.range.high && t)) (is_letter-unnamed ss l)

-- ---- the test for a letter

T_of : {b : Bool} → b ≡ true → T b
T_of e = subst T (sym e) tt

pub is_letter-sound : (ss : List Stream) (l : Letter) → is_letter ss l ≡ true → IsLetter ss l
unfolding is_letter
is_letter-sound [] [] e = none
is_letter-sound [] (v ∷ l) e = let y : ◌≡◌ {A = ℕ} 0 1 = cc in absurd (omega arith)
is_letter-sound (s ∷ ss) [] e = let y : ◌≡◌ {A = ℕ} 0 1 = cc in absurd (omega arith)
is_letter-sound (s ∷ ss) (v ∷ l) e =
    let r = and_true_right (le_z s.range.low v) (le_z v s.range.high && is_letter ss l) e in
    more (record { above = le_z_yes (T_of (and_true_left (le_z s.range.low v) _ e)); below = le_z_yes (T_of (and_true_left (le_z v s.range.high) _ r)) })
    (is_letter-sound ss l (and_true_right (le_z v s.range.high) (is_letter ss l) r))

pub is_letter-complete : {ss : List Stream} {l : Letter} → IsLetter ss l → is_letter ss l ≡ true
unfolding is_letter
is_letter-complete none = refl
is_letter-complete (more {s} {ss} {v} {l} w h) =
    simp (true_of_T (le_z s.range.low v) w.above.le, true_of_T (le_z v s.range.high) w.below.le) (is_letter-complete h)

-- ---- the test for a number

-- The letters are at most as many as the bound, the number is a letter's, and there is room for so many values.
pub record LetterThere (ss : List Stream) (n room : ℕ) : Type 0 where
  pub few : letter_count ss ≤ letter_bound
  pub known : n < letter_count ss
  pub fits : length ss ≤ room

pub letter_reflects : (ss : List Stream) (n room : ℕ) → Reflects (LetterThere ss n room) (has_letter ss n room)
unfolding has_letter
letter_reflects ss n room =
    reflects_iff (λ p. record { few = p.0; known = p.1.0; fits = p.1.1 }) (λ h. (h.few, (h.known, h.fits)))
    (and_reflects (leb_reflects (letter_count ss) letter_bound) (and_reflects (ltb_reflects n (letter_count ss)) (leb_reflects (length ss) room)))
