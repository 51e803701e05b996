-- Changes between letters' values are changes between the digits of their numbers, so the shape of streams that a sheet could have gives the changes of
-- the streams. From the laws of letters' numbers.
use Prim.Native.Nat.{ℕ, zero, suc, ◌+◌, ◌*◌, ◌/◌, ◌%◌, ◌-◌, ◌≤◌, ◌<◌, min}
use native.Mathlib.Omega.{arith}
use native.Mathlib.Nat.{le_trans, mul-one}
use native.Mathlib.Decide.{ℕ_discrete}
use mathlib.Core.Path.{◌≡◌, refl, sym, ◌∙◌, ap, ap₂}
use mathlib.Core.Bool.{Bool, true, false, not, cond, ◌&&◌}
use mathlib.Core.List.{List, [], ◌∷◌, map}
use lib.Dec.{T, eqb}
use lib.IntN.{ℤ, pos, nat_abs, ◌+ℤ◌, ◌-ℤ◌}
use lib.ListN.{length, get_or, take, drop}
use lib.Seq.{drop-cons}
use borrow.Author.Tests.{eq-eqb, ne_eqb}
use Rattle.meaning.specs.Value.{compares, Comparison.equal, Comparison.different}
use Rattle.meaning.specs.Arithmetic.{truth_interval}
use Rattle.meaning.specs.Expression.{StreamKind, read_kind, set_kind, Stream}
use Rattle.meaning.specs.Letter.{size, letter_count, letter_of}
use Rattle.meaning.proofs.Value.{compares-equal}
use Rattle.meaning.proofs.Order.{distance_+ℤ_pos}
use Rattle.meaning.proofs.Letter.{positive-left, positive-right}
use Rattle.letters.specs.Described.{described}
use Rattle.letters.proofs.Numbers.{left-≤, right-≤}
use Rattle.streams.specs.Description.{range_at, kind_with, stream_in, described_from, description_of, StreamsFit}
use Rattle.streams.specs.declared.StreamsDescription.{StreamsDescription}
use Rattle.streams.proofs.Fit.{streams-length}
use Rattle.changes.specs.Changes.{is_set_kind, differing, changed}
use Rattle.changes.specs.Axes.{axis_of, letter_total, changed_along, axis_in, axes_from, axes_in, IsShape}
use Rattle.changes.specs.declared.Shape.{Shape}

-- Two values of a stream differ exactly if their distances from the lowest do.
value-differs : (a : ℤ) (d i : ℕ) → compares different (a +ℤ pos d) (a +ℤ pos i) ≡ not (eqb d i)
value-differs a d i = go (ℕ_discrete d i) (compares equal (a +ℤ pos d) (a +ℤ pos i)) (compares-equal (a +ℤ pos d) (a +ℤ pos i))
  where
    go : Dec (d ≡ i) → (b : Bool) → (T b → a +ℤ pos d ≡ a +ℤ pos i) × (a +ℤ pos d ≡ a +ℤ pos i → T b) → not b ≡ not (eqb d i)
    go (yes e) true r = ap not (sym (eq-eqb d i e))
    go (yes e) false r = absurd (r.1 (ap (λ n. a +ℤ pos n) e))
    go (no ne) true r = absurd (ne (sym (distance_+ℤ_pos a d) ∙ ap (λ z. nat_abs (z -ℤ a)) (r.0 tt) ∙ distance_+ℤ_pos a i))
    go (no ne) false r = ap not (sym (ne_eqb d i ne))

pub total-letters : (ss : List Stream) → letter_total (map axis_of ss) ≡ letter_count ss
unfolding letter_total letter_count
total-letters [] = refl
total-letters (s ∷ ss) = ap (λ k. size s.range * k) (total-letters ss)

pub changed_axes : (ss : List Stream) (a b : ℕ) → changed ss a b ≡ changed_along (map axis_of ss) a b
unfolding changed differing changed_along letter_of
changed_axes [] a b = refl
changed_axes (s ∷ ss) a b =
    ap₂ (λ x y. cond (is_set_kind s.kind && x) 1 0 + y) (value-differs s.range.low (a / letter_count ss) (b / letter_count ss)) (changed_axes ss (a % letter_count ss) (b % letter_count ss))
    ∙ ap (λ k. cond (is_set_kind s.kind && not (eqb (a / k) (b / k))) 1 0 + changed_along (map axis_of ss) (a % k) (b % k)) (sym (total-letters ss))

-- The letters of one stream are its values.
pub one-stream : (lows highs : List ℤ) (i : ℕ) → i < length lows → i < length highs
    → letter_count (described (take (i + 1 - i) (drop i lows)) (take (i + 1 - i) (drop i highs))) ≡ size (range_at lows highs i)
unfolding letter_count
one-stream lows highs i h l =
    let one : i + 1 - i ≡ 1 = omega arith in
    ap₂ (λ x y. letter_count (described (take (i + 1 - i) x) (take (i + 1 - i) y))) (drop-cons lows i (pos 0) h) (drop-cons highs i (pos 0) l)
    ∙ ap (λ n. letter_count (described (take n (get_or lows i (pos 0) ∷ drop (suc i) lows)) (take n (get_or highs i (pos 0) ∷ drop (suc i) highs)))) one
    ∙ mul-one (size (range_at lows highs i))

-- ---- the shape of streams that fit

-- No stream has more values than there are letters.
few-values : (s : StreamsDescription) (k n i : ℕ) → 0 < letter_count (described_from s k n) → k ≤ i → i < k + n → size (stream_in s i).range ≤ letter_count (described_from s k n)
unfolding letter_count described_from
few-values s k zero i some h l = absurd (omega arith)
few-values s k (suc n) i some h l = go (ℕ_discrete i k) (few-values s (suc k) n i (positive-right (size (stream_in s k).range) (letter_count (described_from s (suc k) n)) some))
  where
    z : ℕ
    z = size (stream_in s k).range

    c : ℕ
    c = letter_count (described_from s (suc k) n)

    go : Dec (i ≡ k) → (suc k ≤ i → i < suc k + n → size (stream_in s i).range ≤ c) → size (stream_in s i).range ≤ z * c
    go (yes e) later = rw e (left-≤ z c (positive-right z c some))
    go (no ne) later = le_trans (later (omega arith) (omega arith)) (right-≤ z c (positive-left z c some))

module _ {s : StreamsDescription} {r : Shape} (shape : IsShape s r) {letters : ℕ} (fit : StreamsFit s letters) (some : 0 < letters) where
  count-few : s.count ≤ 8
  count-few = let h = fit.accepted.stream_count in let l = streams-length s 0 s.count in omega arith

  axis_same : (i : ℕ) → i < s.count → axis_in r i ≡ axis_of (stream_in s i)
  axis_same i h =
      let most = few-values s 0 s.count i (omega (arith, fit.makes_letters)) (omega arith) (omega arith) in
      let exact : get_or r.sizes i 0 ≡ size (stream_in s i).range = omega (arith, shape.sizes i (omega (arith, count-few)), fit.makes_letters, fit.few_letters) in
      λ j. record { values = exact j; counts = is_set_kind (kind_with (get_or (shape.kinds j) i 0)) }

  axes_same : (k n : ℕ) → k + n ≤ s.count → axes_from r k n ≡ map axis_of (described_from s k n)
  unfolding axes_from described_from
  axes_same k zero h = refl
  axes_same k (suc n) h = ap₂ ◌∷◌ (axis_same k (omega arith)) (axes_same (suc k) n (omega arith))

  pub shape_axes : axes_in r ≡ map axis_of (description_of s)
  shape_axes = ap (axes_from r 0) (let e : min r.count 8 ≡ s.count = omega (arith, shape.count, count-few) in e) ∙ axes_same 0 s.count (omega arith)

  -- The shape makes the streams' letters, ..
  pub shape_letters : letter_total (axes_in r) ≡ letters
  shape_letters = ap letter_total shape_axes ∙ total-letters (description_of s) ∙ fit.makes_letters

  -- .. and changes along it are changes of set streams.
  pub shape_changes : changed (description_of s) ≡ changed_along (axes_in r)
  shape_changes = λ i a b. (changed_axes (description_of s) a b ∙ ap (λ xs. changed_along xs a b) (sym shape_axes)) i

-- ---- examples: two streams, 0 to 2 and 0 to 1, so that the letters 0 and 3 differ in both

abbrev two_streams : StreamKind → StreamKind → List Stream
two_streams one other = record { name = []; kind = one; range = record { low = pos 0; high = pos 2 } } ∷ record { name = []; kind = other; range = truth_interval } ∷ []

both-set : changed (two_streams set_kind set_kind) 0 3 ≡ 2
unfolding changed differing letter_of letter_count
both-set = refl

one-read : changed (two_streams read_kind set_kind) 0 3 ≡ 1
unfolding changed differing letter_of letter_count
one-read = refl

-- how far a value moves plays no part
far-moved : changed (two_streams set_kind set_kind) 0 4 ≡ 1
unfolding changed differing letter_of letter_count
far-moved = refl
