-- An accepted sheet could have the streams that are described exactly if each of them fits, and the letters that they make are those of their lowest and
-- highest values. From the places of the streams in the description, by induction over their number.
use Prim.Native.Nat.{ℕ, zero, suc, ◌+◌, ◌≤◌, ◌<◌}
use native.Mathlib.Omega.{arith}
use native.Mathlib.Decide.{ℕ_discrete}
use mathlib.Core.Path.{◌≡◌, refl, sym, ap, ap₂, subst, ◌∙◌}
use mathlib.Core.List.Memᴰ
use mathlib.Core.List.{[], ◌∷◌, Memᴰ}
use lib.Dec.{T}
use lib.IntN.{pos}
use lib.ListN.{length, get_or, take, drop}
use lib.Seq.{drop-cons}
use lib.Signed.{◌≤ℤ◌}
use Rattle.basics.specs.Count.{NoRepeats}
use Rattle.text.specs.Bytes.{Token}
use Rattle.text.specs.Token.{is_name, is_reserved}
use Rattle.meaning.specs.Expression.{Stream}
use Rattle.meaning.specs.Letter.{letter_count}
use Rattle.sheet.specs.Form.{names_of}
use Rattle.sheet.specs.Refusal.{letter_bound, InBounds, sheet}
use Rattle.sheet.specs.Reading.{answer_to_sheet}
use Rattle.sheet.specs.Names.{name_in}
use Rattle.sheet.specs.Accepted.{AcceptedStreams}
use Rattle.sheet.proofs.StreamsAlone.{alone-accepted}
use Rattle.nodes.specs.Bounds.{lows_of, highs_of}
use Rattle.letters.specs.Described.{described, cut_count}
use Rattle.letters.proofs.Streams.{letter_count-unnamed}
use Rattle.streams.specs.Description.{stream_in, described_from, description_of, StreamsFit, EachFits}
use Rattle.streams.specs.declared.StreamsDescription.{StreamsDescription}

module _ (s : StreamsDescription) where
  abbrev named : ℕ → Token
  named k = name_in s.names s.lengths k

  pub streams-length : (k n : ℕ) → length (described_from s k n) ≡ n
  unfolding described_from
  streams-length k zero = refl
  streams-length k (suc n) = ap suc (streams-length (suc k) n)

  -- Every stream of the description has a place, and every place a stream.
  pub stream_origin : (k n : ℕ) (x : Stream) → Memᴰ x (described_from s k n) → (i : ℕ) × (k ≤ i) × (i < k + n) × (x ≡ stream_in s i)
  unfolding described_from
  stream_origin k zero x m = absurd (Memᴰ.not-nil m)
  stream_origin k (suc n) x (Memᴰ.head e) = (k, omega arith, omega arith, e)
  stream_origin k (suc n) x (Memᴰ.tail m) = let (i, a, b, e) = stream_origin (suc k) n x m in (i, omega arith, omega arith, e)

  pub stream-member : (k n i : ℕ) → k ≤ i → i < k + n → Memᴰ (stream_in s i) (described_from s k n)
  unfolding described_from
  stream-member k zero i a b = absurd (omega arith)
  stream-member k (suc n) i a b = by (ℕ_discrete i k) (λ c. stream-member (suc k) n i c (omega arith))
    where
      by : Dec (i ≡ k) → (suc k ≤ i → Memᴰ (stream_in s i) (described_from s (suc k) n)) → Memᴰ (stream_in s i) (stream_in s k ∷ described_from s (suc k) n)
      by (yes e) later = Memᴰ.head (ap (stream_in s) e)
      by (no d) later = Memᴰ.tail (later (omega arith))

  name_origin : (k n : ℕ) (t : Token) → Memᴰ t (names_of (described_from s k n)) → (i : ℕ) × (k ≤ i) × (i < k + n) × (t ≡ named i)
  unfolding described_from
  name_origin k zero t m = absurd (Memᴰ.not-nil m)
  name_origin k (suc n) t (Memᴰ.head e) = (k, omega arith, omega arith, e)
  name_origin k (suc n) t (Memᴰ.tail m) = let (i, a, b, e) = name_origin (suc k) n t m in (i, omega arith, omega arith, e)

  name-member : (k n i : ℕ) → k ≤ i → i < k + n → Memᴰ (named i) (names_of (described_from s k n))
  name-member k n i a b = Memᴰ.map (λ (x : Stream). x.name) (stream-member k n i a b)

  -- Names that differ from all before them stand once, and the other way round.
  names_once : (k n : ℕ) → ((i j : ℕ) → j < i → i < k + n → named j ≡ named i → ⊥) → NoRepeats (names_of (described_from s k n))
  unfolding described_from
  names_once k zero d = tt
  names_once k (suc n) d = (λ m. let (i, a, b, e) = name_origin (suc k) n (named k) m in d i k (omega arith) (omega arith) e, names_once (suc k) n (λ i j a b. d i j a (omega arith)))

  names_apart : (k n : ℕ) → NoRepeats (names_of (described_from s k n)) → (i j : ℕ) → k ≤ j → j < i → i < k + n → named j ≡ named i → ⊥
  unfolding described_from
  names_apart k zero d i j a b c e = absurd (omega arith)
  names_apart k (suc n) d i j a b c e = by (ℕ_discrete j k) (λ l. names_apart (suc k) n d.1 i j l b (omega arith) e)
    where
      by : Dec (j ≡ k) → (suc k ≤ j → ⊥) → ⊥
      by (yes q) later = d.0 (subst (λ t. Memᴰ t (names_of (described_from s (suc k) n))) (sym e ∙ ap named q) (name-member (suc k) n i (omega arith) (omega arith)))
      by (no q) later = later (omega arith)

  -- ---- each stream fits

  pub each-accepted : 0 < s.count → s.count ≤ 8 → EachFits s → AcceptedStreams (description_of s)
  each-accepted some few each =
      let l = streams-length 0 s.count in
      record {
        some_stream = omega arith;
        stream_count = omega arith;
        are_names = λ t m. let (i, a, b, e) = name_origin 0 s.count t m in subst (λ u. T (is_name u)) (sym e) (each i (omega arith)).name.is_aname;
        no_reserved = λ t m. let (i, a, b, e) = name_origin 0 s.count t m in ap is_reserved e ∙ (each i (omega arith)).name.unreserved;
        no_repeats = names_once 0 s.count (λ i j a b e. (each i (omega arith)).name.is_new j a e);
        ranges_ordered = λ x m. let (i, a, b, e) = stream_origin 0 s.count x m in subst (λ (y : Stream). y.range.low ≤ℤ y.range.high) (sym e) (each i (omega arith)).range.ordered;
        ranges_in_bounds = λ x m. let (i, a, b, e) = stream_origin 0 s.count x m in subst (λ (y : Stream). InBounds y.range) (sym e) (each i (omega arith)).range.in_bounds;
      }

  pub accepted-each : {letters : ℕ} → StreamsFit s letters → EachFits s
  accepted-each f k h =
      let a = f.accepted in
      let m = stream-member 0 s.count k (omega arith) (omega arith) in
      let t = name-member 0 s.count k (omega arith) (omega arith) in
      record {
        kind = f.kinds k h;
        range = record { in_bounds = a.ranges_in_bounds (stream_in s k) m; ordered = a.ranges_ordered (stream_in s k) m };
        name = record {
          short = f.lengths k h;
          is_aname = a.are_names (named k) t;
          unreserved = a.no_reserved (named k) t;
          is_new = λ j l e. names_apart 0 s.count a.no_repeats k j (omega arith) l (omega arith) e;
        };
      }

  pub no_streams : {letters : ℕ} → s.count ≡ 0 → StreamsFit s letters → ⊥
  no_streams e f = let h = f.accepted.some_stream in let l = streams-length 0 s.count in omega arith

  pub many-streams : {letters : ℕ} → 8 < s.count → StreamsFit s letters → ⊥
  many-streams e f = let h = f.accepted.stream_count in let l = streams-length 0 s.count in omega arith

  pub each-not : {letters : ℕ} → (EachFits s → ⊥) → StreamsFit s letters → ⊥
  each-not n f = n (accepted-each f)

  -- ---- the letters

  pub lows-from : (k n : ℕ) → k + n ≤ length s.lows → lows_of (described_from s k n) ≡ take n (drop k s.lows)
  unfolding described_from
  lows-from k zero h = refl
  lows-from k (suc n) h = ap (λ l. get_or s.lows k (pos 0) ∷ l) (lows-from (suc k) n (omega arith)) ∙ sym (ap (take (suc n)) (drop-cons s.lows k (pos 0) (omega arith)))

  pub highs-from : (k n : ℕ) → k + n ≤ length s.highs → highs_of (described_from s k n) ≡ take n (drop k s.highs)
  unfolding described_from
  highs-from k zero h = refl
  highs-from k (suc n) h = ap (λ l. get_or s.highs k (pos 0) ∷ l) (highs-from (suc k) n (omega arith)) ∙ sym (ap (take (suc n)) (drop-cons s.highs k (pos 0) (omega arith)))

  pub letters-made : s.count ≤ length s.lows → s.count ≤ length s.highs → letter_count (described (take s.count s.lows) (take s.count s.highs)) ≡ letter_count (description_of s)
  letters-made a b = ap letter_count (ap₂ described (sym (lows-from 0 s.count (omega arith))) (sym (highs-from 0 s.count (omega arith)))) ∙ letter_count-unnamed (description_of s)

  -- What the count of letters, which is cut, says.
  module _ (lows : length s.lows ≡ 8) (highs : length s.highs ≡ 8) {letters made : ℕ} (some : s.count ≡ 0 → ⊥) (few : s.count ≤ 8) (bounded : letters ≤ 1024) (each : EachFits s)
      (counted : made ≡ cut_count (letter_count (described (take s.count s.lows) (take s.count s.highs)))) where
    exact : made ≡ cut_count (letter_count (description_of s))
    exact = counted ∙ ap cut_count (letters-made (omega arith) (omega arith))

    pub letters-fit : made ≡ letters → StreamsFit s letters
    letters-fit e = record { kinds = λ k h. (each k h).kind; lengths = λ k h. (each k h).name.short; accepted = each-accepted (positive s.count some) few each; few_letters = bounded; makes_letters = let x = exact in omega arith }
      where
        positive : (n : ℕ) → (n ≡ 0 → ⊥) → 0 < n
        positive zero d = absurd (d refl)
        positive (suc n) d = omega arith

    pub letters-unfit : (made ≡ letters → ⊥) → StreamsFit s letters → ⊥
    letters-unfit d f = d (let x = exact in let y = f.makes_letters in omega arith)

-- "Streams that no accepted sheet could have": those that fit are the streams of a sheet that none of the refusals 4 to 7 applies to.
pub fit-accepted : {s : StreamsDescription} {letters : ℕ} → (f : StreamsFit s letters)
    → answer_to_sheet (record { streams = description_of s; constraints = [] }) ≡ sheet (record { streams = description_of s; constraints = [] })
fit-accepted f = alone-accepted f.accepted (subst (λ n. n ≤ letter_bound) (sym f.makes_letters) f.few_letters)
