-- The streams that are described by their names in eight bytes each, their lengths, ranges and kinds, with anything behind them, are the streams
-- themselves; those of an accepted sheet fit. By induction over the streams.
use Prim.Native.Nat.{ℕ, zero, suc, ◌+◌, ◌≤◌, ◌<◌}
use native.Mathlib.Omega.{arith}
use native.Mathlib.Nat.{zero-add}
use mathlib.Core.Path.{◌≡◌, refl, sym, ap, ap₂, subst, ◌∙◌}
use mathlib.Core.List.Memᴰ
use mathlib.Core.List.{List, [], ◌∷◌, ◌++◌, map}
use lib.IntN.{ℤ, pos}
use lib.ListN.{length, get_or, length-map, get_or-append}
use Rattle.basics.proofs.Lists.{get_d_map}
use Rattle.meaning.specs.Expression.{StreamKind, read_kind, set_kind, Stream}
use Rattle.meaning.specs.Letter.{letter_count}
use Rattle.meaning.specs.Window.{join_over}
use Rattle.nodes.specs.Code.{stream_kind_code}
use Rattle.sheet.specs.Refusal.{letter_bound}
use Rattle.sheet.specs.Names.{eight_bytes, ShortNames}
use Rattle.sheet.specs.Accepted.{AcceptedStreams}
use Rattle.sheet.proofs.Names.{short-names, name-found}
use Rattle.streams.specs.Description.{kind_with, stream_in, described_from, description_of, StreamsFit}
use Rattle.streams.specs.declared.StreamsDescription.{StreamsDescription}

kind-back : (k : StreamKind) → kind_with (stream_kind_code k) ≡ k
kind-back read_kind = refl
kind-back set_kind = refl

kind-small : (k : StreamKind) → stream_kind_code k ≤ 1
kind-small read_kind = omega arith
kind-small set_kind = omega arith

-- What is described from a place on are streams that stand there one after the other.
described_are : (s : StreamsDescription) (d : Stream) (ss : List Stream) (k : ℕ) → ((j : ℕ) → j < length ss → stream_in s (k + j) ≡ get_or ss j d) → described_from s k (length ss) ≡ ss
unfolding described_from
described_are s d [] k h = refl
described_are s d (x ∷ ss) k h =
    let here : k ≡ k + 0 = omega arith in
    let next : (j : ℕ) → suc k + j ≡ k + suc j = λ j. omega arith in
    ap₂ ◌∷◌ (ap (stream_in s) here ∙ h 0 (omega arith)) (described_are s d ss (suc k) (λ j l. ap (stream_in s) (next j) ∙ h (suc j) (omega arith)))

module _ (more_names more_lengths : List ℕ) (more_lows more_highs : List ℤ) (more_kinds : List ℕ) where
  -- So many of the streams, as they are stored.
  abbrev pub describing : List Stream → ℕ → StreamsDescription
  describing ss n =
      record {
        count = n;
        names = join_over eight_bytes ss ++ more_names;
        lengths = map (λ x. length x.name) ss ++ more_lengths;
        lows = map (λ x. x.range.low) ss ++ more_lows;
        highs = map (λ x. x.range.high) ss ++ more_highs;
        kinds = map (λ x. stream_kind_code x.kind) ss ++ more_kinds;
      }

  -- Each stream is described at its place.
  stream_at : (ss : List Stream) (n k : ℕ) → ShortNames ss → k < length ss → (d : Stream) → stream_in (describing ss n) k ≡ get_or ss k d
  stream_at ss n k short h d =
      let name = name-found more_names more_lengths ss short k h ∙ get_d_map (λ (x : Stream). x.name) ss k d [] h in
      let kind = ap kind_with (mapped (λ x. stream_kind_code x.kind) more_kinds 0) ∙ kind-back (get_or ss k d).kind in
      let low = mapped (λ x. x.range.low) more_lows (pos 0) in
      let high = mapped (λ x. x.range.high) more_highs (pos 0) in
      λ i. record { name = name i; kind = kind i; range = record { low = low i; high = high i } }
    where
      mapped : {X : Type 0} (f : Stream → X) (more : List X) (e : X) → get_or (map f ss ++ more) k e ≡ f (get_or ss k d)
      mapped f more e = get_or-append (map f ss) more e k (subst (λ m. k < m) (sym (length-map ss f)) h) ∙ get_d_map f ss k d e h

  pub description_stored : (ss : List Stream) → ShortNames ss → description_of (describing ss (length ss)) ≡ ss
  unfolding described_from
  description_stored [] short = refl
  description_stored (x ∷ ss) short = described_are (describing (x ∷ ss) (suc (length ss))) x (x ∷ ss) 0 (λ j h. ap (stream_in (describing (x ∷ ss) (suc (length ss)))) (zero-add j) ∙ stream_at (x ∷ ss) (suc (length ss)) j short h x)

  lengths-small : (ss : List Stream) → ShortNames ss → (k : ℕ) → k < length ss → get_or (map (λ x. length x.name) ss ++ more_lengths) k 0 ≤ 8
  lengths-small [] short k h = absurd (omega arith)
  lengths-small (x ∷ ss) short zero h = short x (Memᴰ.head refl)
  lengths-small (x ∷ ss) short (suc k) h = lengths-small ss (λ y m. short y (Memᴰ.tail m)) k (omega arith)

  codes_small : (ss : List Stream) (k : ℕ) → k < length ss → get_or (map (λ x. stream_kind_code x.kind) ss ++ more_kinds) k 0 ≤ 1
  codes_small [] k h = absurd (omega arith)
  codes_small (x ∷ ss) zero h = kind-small x.kind
  codes_small (x ∷ ss) (suc k) h = codes_small ss k (omega arith)

  -- The streams of an accepted sheet fit its letters.
  pub stored-fit : (ss : List Stream) → AcceptedStreams ss → letter_count ss ≤ letter_bound → StreamsFit (describing ss (length ss)) (letter_count ss)
  stored-fit ss a few =
      let same = description_stored ss (short-names a) in
      record { kinds = codes_small ss; lengths = lengths-small ss (short-names a); accepted = subst AcceptedStreams (sym same) a; few_letters = few; makes_letters = ap letter_count same }
