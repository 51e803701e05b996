-- The value of an expression at every time, if it has one, lies in the expression's interval, where the streams lie in their ranges; and the
-- interval is not empty.
use Prim.Native.Nat.{ℕ, zero, suc, ◌<◌}
use mathlib.Core.List.{List, Memᴰ}
use lib.ListN.{length}
use lib.Signed.{◌≤ℤ◌, ≤ℤ_refl, le_z_yes}
use Rattle.basics.proofs.Lists.{All-append, All-member}
use Rattle.basics.specs.Lists.{All}
use Rattle.meaning.specs.Value.{Streams}
use Rattle.meaning.specs.Arithmetic.{Within, AnyWithin}
use Rattle.meaning.specs.Expression.{Expression, integer, name, first, next, negation, binary, conditional, fby, Stream, range_of, value_from, value}
use Rattle.meaning.specs.Interval.{interval, subexpressions, NamesBelow}
use Rattle.meaning.proofs.Arithmetic.{any_left, any_right, hull-chosen, negated-within, operator-within, operator-ordered, hull-ordered}
pub mod Example

-- The names in an expression inside another are names in the other.
pub subexpressions-below : (n : ℕ) (e : Expression) → NamesBelow n e → All (NamesBelow n) (subexpressions e)
unfolding subexpressions
subexpressions-below n (integer z) h = (h, tt)
subexpressions-below n (name k) h = (h, tt)
subexpressions-below n (first e) h = (h, subexpressions-below n e h)
subexpressions-below n (next e) h = (h, subexpressions-below n e h)
subexpressions-below n (negation e) h = (h, subexpressions-below n e h)
subexpressions-below n (binary o a b) h = (h, (All-append (NamesBelow n) (subexpressions a) _).1 (subexpressions-below n a h.0, subexpressions-below n b h.1))
subexpressions-below n (conditional c a b) h = (
  h,
  (All-append (NamesBelow n) (subexpressions c) _).1
      (subexpressions-below n c h.0, (All-append (NamesBelow n) (subexpressions a) _).1 (subexpressions-below n a h.1, subexpressions-below n b h.2)),
)
subexpressions-below n (fby a b) h = (h, (All-append (NamesBelow n) (subexpressions a) _).1 (subexpressions-below n a h.0, subexpressions-below n b h.1))

-- Each of the described streams lies in its range at every time.
abbrev pub InRange : List Stream → Streams → Type 0
InRange ss w = (k i : ℕ) → k < length ss → Within (range_of ss k) (w k i)

module _ (ss : List Stream) (w : Streams) (ranged : InRange ss w) where
  pub interval-sound : (e : Expression) → NamesBelow (length ss) e → (i : ℕ) → AnyWithin (interval ss e) (value w e i)
  unfolding interval value value_from
  interval-sound (integer z) b i = record { above = ≤ℤ_refl z; below = ≤ℤ_refl z }
  interval-sound (name k) b i = ranged k i b
  interval-sound (first e) b i = interval-sound e b zero
  interval-sound (next e) b i = interval-sound e b (suc i)
  interval-sound (negation e) b i = negated-within (value w e i)
  interval-sound (binary o x y) b i =
      operator-within o (interval ss x) (interval ss y) (value w x i) (value w y i) (interval-sound x b.0 i) (interval-sound y b.1 i)
  interval-sound (conditional c x y) b i =
      hull-chosen (value w c i) (interval ss x) (interval ss y) (value w x i) (value w y i) (interval-sound x b.1 i) (interval-sound y b.2 i)
  interval-sound (fby x y) b zero = any_left (interval ss x) (interval ss y) (value w x zero) (interval-sound x b.0 zero)
  interval-sound (fby x y) b (suc i) = any_right (interval ss x) (interval ss y) (value w y i) (interval-sound y b.1 i)

  -- So do the values of every expression inside it, which an accepted sheet bounds one by one.
  pub subexpression_sound : (e f : Expression) → NamesBelow (length ss) e → Memᴰ f (subexpressions e) → (i : ℕ) → AnyWithin (interval ss f) (value w f i)
  subexpression_sound e f b m i = interval-sound f (All-member (NamesBelow (length ss)) (subexpressions-below (length ss) e b) m) i

-- Where no stream's low end is above its high end, no expression's is: by the operators' intervals.
pub interval-ordered : (ss : List Stream) → ((k : ℕ) → k < length ss → (range_of ss k).low ≤ℤ (range_of ss k).high)
    → (e : Expression) → NamesBelow (length ss) e → (interval ss e).low ≤ℤ (interval ss e).high
unfolding interval
interval-ordered ss ordered (integer z) n = ≤ℤ_refl z
interval-ordered ss ordered (name k) n = ordered k n
interval-ordered ss ordered (first e) n = interval-ordered ss ordered e n
interval-ordered ss ordered (next e) n = interval-ordered ss ordered e n
interval-ordered ss ordered (negation e) n = le_z_yes tt
interval-ordered ss ordered (binary o a b) n = operator-ordered o (interval ss a) (interval ss b)
interval-ordered ss ordered (conditional c a b) n = hull-ordered (interval ss a) (interval ss b) (interval-ordered ss ordered a n.1)
interval-ordered ss ordered (fby a b) n = hull-ordered (interval ss a) (interval ss b) (interval-ordered ss ordered a n.0)
