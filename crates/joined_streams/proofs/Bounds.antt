-- The streams of two descriptions that fit, joined: their description, that the cuts of their letters are letters, and what the count of their letters
-- says. From the laws of joined streams (Joining), of descriptions (Describing) and of letters.
use Prim.Native.Nat.{ℕ, ◌+◌, ◌≤◌, ◌<◌}
use native.Mathlib.Omega.{arith}
use mathlib.Core.Path.{◌≡◌, sym, ap, subst, ◌∙◌}
use mathlib.Core.Logic.{◌⊎◌, inl, inr}
use mathlib.Core.List.{List, Memᴰ}
use lib.ListN.{length, take}
use Rattle.meaning.specs.Expression.{Stream}
use Rattle.meaning.specs.Letter.{letter_count}
use Rattle.sheet.specs.Refusal.{letter_bound}
use Rattle.sheet.specs.Names.{ShortNames}
use Rattle.letters.specs.Described.{described, cut_count}
use Rattle.streams.specs.Description.{stream_in, description_of, StreamsFit}
use Rattle.streams.specs.declared.StreamsDescription.{StreamsDescription}
use Rattle.streams.proofs.Fit.{streams-length, stream-member, stream_origin, letters-made}
use Rattle.joined_streams.specs.Joined.{other_streams, IsAlike, SharedAlike, WithinBounds, Covers}
use Rattle.joined_streams.specs.Describing.{describe, joined_description, AlikeAt, CanCut}
use Rattle.joined_streams.specs.Outcome.{Joinable, streams_together}
use Rattle.joined_streams.proofs.Joining.{append-split, other-member, covers-left, covers-right}
use Rattle.joined_streams.proofs.Describing.{FitsAt, name_length, joined-count, joined_describes, described-back}

-- ---- streams that fit

pub few_streams : {s : StreamsDescription} {letters : ℕ} → StreamsFit s letters → s.count ≤ 8
few_streams {s} f = let h = f.accepted.stream_count in let l = streams-length s 0 s.count in omega arith

fits-at : {s : StreamsDescription} {letters : ℕ} → length s.names ≡ 64 → StreamsFit s letters → (k : ℕ) → k < s.count → FitsAt s k
fits-at {s} long f k h = let few = few_streams f in record { names_long = long; inside = omega arith; short = f.lengths k h; kind = f.kinds k h }

short-at : {s : StreamsDescription} {letters : ℕ} → length s.names ≡ 64 → StreamsFit s letters → ShortNames (description_of s)
short-at {s} long f x m =
    let (i, a, b, e) = stream_origin s 0 s.count x m in
    let l = name_length (fits-at long f i (omega arith)) in
    let k = f.lengths i (omega arith) in
    let q = ap (λ (y : Stream). length y.name) e in
    omega arith

-- ---- shared names

-- Each stream of the right is alike the one with its name exactly if all shared names are alike.
module _ (left right : StreamsDescription) where
  pub each-alike : ((k : ℕ) → k < right.count → AlikeAt (description_of left) (stream_in right k)) → SharedAlike (description_of left) (description_of right)
  each-alike each = record { alike = λ s t m n e. by s t m e (stream_origin right 0 right.count t n) }
    where
      by : (s t : Stream) → Memᴰ s (description_of left) → s.name ≡ t.name → (i : ℕ) × (0 ≤ i) × (i < 0 + right.count) × (t ≡ stream_in right i) → IsAlike s t
      by s t m e (i, a, b, q) = subst (IsAlike s) (sym q) (each i (omega arith) s m (e ∙ ap (λ (x : Stream). x.name) q))

  pub alike-each : SharedAlike (description_of left) (description_of right) → (k : ℕ) → k < right.count → AlikeAt (description_of left) (stream_in right k)
  alike-each shared k h s m e = shared.alike s (stream_in right k) m (stream-member right 0 right.count k (omega arith) (omega arith)) e

-- ---- the joined streams

module _ {left right : StreamsDescription} (long : length left.names ≡ 64) (long' : length right.names ≡ 64) (j : Joinable left right) where
  abbrev js : List Stream
  js = streams_together left right

  together-short : ShortNames js
  together-short x m = by (append-split (description_of left) (other_streams (description_of left) (description_of right)) m)
    where
      by : Memᴰ x (description_of left) ⊎ Memᴰ x (other_streams (description_of left) (description_of right)) → length x.name ≤ 8
      by (inl n) = short-at long j.left_fits x n
      by (inr n) = short-at long' j.right_fits x (other-member (description_of left) (description_of right) n).0

  module _ {d : StreamsDescription} (is : d ≡ joined_description left right) where
    pub count_is : d.count ≡ length js
    count_is = ap (λ (s : StreamsDescription). s.count) is ∙ joined-count left right (few_streams j.left_fits) (fits-at long j.left_fits) (fits-at long' j.right_fits)

    pub many-together : 8 < d.count → ¬ WithinBounds js
    many-together h w = let e = count_is in let f = w.few_streams in omega arith

    module _ (few : d.count ≤ 8) where
      pub describes : d ≡ describe js
      describes = is ∙ joined_describes left right (few_streams j.left_fits) (fits-at long j.left_fits) (fits-at long' j.right_fits) (let e = count_is in omega arith)

      pub described_are : description_of d ≡ js
      described_are = ap description_of describes ∙ described-back js together-short

      -- what the count of letters, which is cut, says
      module _ {made : ℕ} (lows : length d.lows ≡ 8) (highs : length d.highs ≡ 8) (counted : made ≡ cut_count (letter_count (described (take d.count d.lows) (take d.count d.highs)))) where
        made-is : made ≡ cut_count (letter_count js)
        made-is = counted ∙ ap cut_count (letters-made d (omega arith) (omega arith) ∙ ap letter_count described_are)

        pub many-letters : 1024 < made → ¬ WithinBounds js
        many-letters h w = let e = made-is in let f = w.few_letters in omega arith

        pub within-bounds : made ≤ 1024 → WithinBounds js
        within-bounds h = record { few_streams = let e = count_is in omega arith; few_letters = let e = made-is in omega arith }

        pub letters_are : made ≤ 1024 → made ≡ letter_count js
        letters_are h = let e = made-is in omega arith

      module _ (w : WithinBounds js) where
        can-cut : (own : StreamsDescription) {letters : ℕ} → StreamsFit own letters → Covers js (description_of own) → CanCut d own
        can-cut own f c =
            record {
              few_joined = few;
              few_own = few_streams f;
              joined_letters = subst (λ ss. letter_count ss ≤ letter_bound) (sym described_are) w.few_letters;
              own_letters = subst (λ n. n ≤ letter_bound) (sym f.makes_letters) f.few_letters;
              covers = subst (λ ss. Covers ss (description_of own)) (sym described_are) c;
            }

        pub can-left : CanCut d left
        can-left = can-cut left j.left_fits (covers-left (description_of left) (description_of right) j.left_fits.accepted.no_repeats j.right_fits.accepted.no_repeats j.shared)

        pub can-right : CanCut d right
        can-right = can-cut right j.right_fits (covers-right (description_of left) (description_of right) j.left_fits.accepted.no_repeats j.right_fits.accepted.no_repeats j.shared)
