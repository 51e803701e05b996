-- How joined streams are described, stream by stream, and how the cuts of all joined letters stand in a list.
use Rattle.std.specs.Prelude.{ℕ, zero, suc, ◌+◌, ◌*◌, ◌≤◌, ◌<◌, ◌≡◌, cond, eqb, ltb, ℤ, pos, length, get_or, set}
use mathlib.Core.List.{List, Memᴰ}
use Rattle.std.proofs.lemmas.List.Edits.{sets}
use Rattle.meaning.specs.Expression.{Stream}
use Rattle.meaning.specs.Letter.{letter_count}
use Rattle.sheet.specs.Refusal.{stream_bound, letter_bound}
use Rattle.sheet.specs.Names.{name_in}
use Rattle.nodes.specs.Bounds.{lows_of, highs_of}
use Rattle.header.specs.Streams.{padded, name_bytes, name_lengths, stream_kind_codes}
use Rattle.streams.specs.Description.{none_described, stream_in, description_of}
use Rattle.streams.specs.declared.StreamsDescription.{StreamsDescription}
use Rattle.joined_streams.specs.Joined.{place_of, cut_number, IsAlike, Covers}

-- The description of streams: eight bytes for each name, zeros behind the streams.
abbrev pub describe : List Stream → StreamsDescription
describe ss =
    record {
      count = length ss;
      names = padded 64 0 (name_bytes ss);
      lengths = padded 8 0 (name_lengths ss);
      lows = padded 8 (pos 0) (lows_of ss);
      highs = padded 8 (pos 0) (highs_of ss);
      kinds = padded 8 0 (stream_kind_codes ss);
    }

-- A stream behind those of a description.
abbrev pub appended : StreamsDescription → StreamsDescription → ℕ → StreamsDescription
appended to from k =
    record {
      count = to.count + 1;
      names = sets to.names (to.count * 8) (name_in from.names from.lengths k);
      lengths = set to.lengths to.count (get_or from.lengths k 0);
      lows = set to.lows to.count (get_or from.lows k (pos 0));
      highs = set to.highs to.count (get_or from.highs k (pos 0));
      kinds = set to.kinds to.count (get_or from.kinds k 0);
    }

-- More than eight streams are counted and not described.
abbrev pub only_counted : StreamsDescription → StreamsDescription
only_counted to = record { count = to.count + 1; names = to.names; lengths = to.lengths; lows = to.lows; highs = to.highs; kinds = to.kinds }

abbrev pub with_described : StreamsDescription → StreamsDescription → ℕ → StreamsDescription
with_described to from k = cond (ltb to.count 8) (appended to from k) (only_counted to)

-- The n streams of `from` from the k-th on whose names `known` lacks are put behind those of a description.
unfoldable pub with_others : (known from to : StreamsDescription) → ℕ → ℕ → StreamsDescription
with_others known from to k zero = to
with_others known from to k (suc n) =
    with_others known from (cond (eqb (place_of (description_of known) (stream_in from k).name) (length (description_of known))) (with_described to from k) to) (suc k) n

abbrev pub joined_description : (left right : StreamsDescription) → StreamsDescription
joined_description left right = with_others left right (with_others none_described left none_described 0 left.count) 0 right.count

-- A stream is alike the one of ss with its name, if there is one.
abbrev pub AlikeAt : List Stream → Stream → Type 0
AlikeAt ss t = (s : Stream) → Memᴰ s ss → s.name ≡ t.name → IsAlike s t

-- the place of each stream among the joined ones
pub record ArePlaces (joined own : StreamsDescription) (places : List ℕ) : Type 0 where
  pub each : (k : ℕ) → k < own.count → get_or places k 0 ≡ place_of (description_of joined) (stream_in own k).name
  pub small : (k : ℕ) → get_or places k 0 < 8

-- the values at these places
pub record ArePicked (values : List ℤ) (places : List ℕ) (found : List ℤ) : Type 0 where
  pub long : length found ≡ 8
  pub each : (k : ℕ) → k < 8 → get_or found k (pos 0) ≡ get_or values (get_or places k 0) (pos 0)

-- Each of a sheet's own streams has its name and range among the joined ones, and either make some letters, at most as many as the bound.
pub record CanCut (joined own : StreamsDescription) : Type 0 where
  pub few_joined : joined.count ≤ stream_bound
  pub few_own : own.count ≤ stream_bound
  pub joined_letters : letter_count (description_of joined) ≤ letter_bound
  pub own_letters : letter_count (description_of own) ≤ letter_bound
  pub covers : Covers (description_of joined) (description_of own)

-- The cuts of all letters stand at the front of the list, and behind them it is 0.
pub record HoldsCuts (js ss : List Stream) (list : List ℕ) : Type 0 where
  pub long : length list ≡ letter_bound
  pub cuts : (a : ℕ) → a < letter_count js → get_or list a 0 ≡ cut_number js ss a
  pub beyond : (a : ℕ) → letter_count js ≤ a → get_or list a 0 ≡ 0
