-- Ranges, intervals, letters and their numbers depend on the ranges of the streams alone. By induction over streams whose ranges are the same, one by
-- one, and over expressions.
use Prim.Native.Nat.{ℕ, zero, suc, ◌+◌, ◌*◌, ◌/◌, ◌%◌}
use mathlib.Core.Path.{◌≡◌, refl, sym, ap, ap₂, subst, ◌∙◌}
use mathlib.Core.List.{List, [], ◌∷◌}
use lib.IntN.{pos, nat_abs, ◌+ℤ◌, ◌-ℤ◌}
use lib.ListN.{length}
use Rattle.meaning.specs.Arithmetic.{Within, hull, operator_interval}
use Rattle.meaning.specs.Expression.{Expression, integer, name, first, next, negation, binary, conditional, fby, Stream, range_of}
use Rattle.meaning.specs.Interval.{interval}
use Rattle.meaning.specs.Letter.{Letter, IsLetter, size, letter_count, letter_number, letter_of}

-- As many streams, with the same ranges in the same order.
pub data SameRanges : List Stream → List Stream → Type 0 where
  none : SameRanges [] []
  more : {s t : Stream} {ss ts : List Stream} → s.range ≡ t.range → SameRanges ss ts → SameRanges (s ∷ ss) (t ∷ ts)

pub ranges_sym : {ss ts : List Stream} → SameRanges ss ts → SameRanges ts ss
ranges_sym none = none
ranges_sym (more e h) = more (sym e) (ranges_sym h)

pub ranges_trans : {ss ts us : List Stream} → SameRanges ss ts → SameRanges ts us → SameRanges ss us
ranges_trans none none = none
ranges_trans (more e h) (more f k) = more (e ∙ f) (ranges_trans h k)

pub ranges_length : {ss ts : List Stream} → SameRanges ss ts → length ss ≡ length ts
ranges_length none = refl
ranges_length (more e h) = ap suc (ranges_length h)

pub ranges_range_of : {ss ts : List Stream} → SameRanges ss ts → (k : ℕ) → range_of ss k ≡ range_of ts k
ranges_range_of none k = refl
ranges_range_of (more e h) zero = e
ranges_range_of (more e h) (suc k) = ranges_range_of h k

pub ranges_interval : {ss ts : List Stream} → SameRanges ss ts → (e : Expression) → interval ss e ≡ interval ts e
unfolding interval
ranges_interval h (integer z) = refl
ranges_interval h (name k) = ranges_range_of h k
ranges_interval h (first e) = ranges_interval h e
ranges_interval h (next e) = ranges_interval h e
ranges_interval h (negation e) = refl
ranges_interval h (binary o a b) = ap₂ (operator_interval o) (ranges_interval h a) (ranges_interval h b)
ranges_interval h (conditional c a b) = ap₂ hull (ranges_interval h a) (ranges_interval h b)
ranges_interval h (fby a b) = ap₂ hull (ranges_interval h a) (ranges_interval h b)

pub ranges_count : {ss ts : List Stream} → SameRanges ss ts → letter_count ss ≡ letter_count ts
unfolding letter_count
ranges_count none = refl
ranges_count (more e h) = ap₂ (λ I n. size I * n) e (ranges_count h)

pub ranges_number : {ss ts : List Stream} → SameRanges ss ts → (l : Letter) → letter_number ss l ≡ letter_number ts l
unfolding letter_number
ranges_number none l = refl
ranges_number (more e h) [] = refl
ranges_number (more {t = t} {ss} e h) (v ∷ l) =
    ap (λ I. nat_abs (v -ℤ I.low) * letter_count ss + letter_number ss l) e ∙ ap₂ (λ m n. nat_abs (v -ℤ t.range.low) * m + n) (ranges_count h) (ranges_number h l)

pub ranges_letter : {ss ts : List Stream} → SameRanges ss ts → (n : ℕ) → letter_of ss n ≡ letter_of ts n
unfolding letter_of
ranges_letter none n = refl
ranges_letter (more {ss = ss} {ts} e h) n =
    let c = ranges_count h in
    ap₂ ◌∷◌ (ap₂ (λ I m. I.low +ℤ pos (n / m)) e c) (ap (λ m. letter_of ss (n % m)) c ∙ ranges_letter h (n % letter_count ts))

pub ranges_is_letter : {ss ts : List Stream} → SameRanges ss ts → {l : Letter} → IsLetter ss l → IsLetter ts l
ranges_is_letter none IsLetter.none = IsLetter.none
ranges_is_letter (more e h) (IsLetter.more {v = v} w k) = IsLetter.more (subst (λ I. Within I v) e w) (ranges_is_letter h k)
