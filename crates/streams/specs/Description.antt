-- Streams as a host describes them, and which of them an accepted sheet could have (document 02, S-8: "Streams that no accepted sheet could have, or
-- that do not make the table's letters").
use Rattle.std.specs.Prelude.{ℕ, zero, suc, ◌≤◌, ◌<◌, ◌≡◌, false, cond, List, [], ◌∷◌, T, eqb, ℤ, pos, get_or, replicate, ◌≤ℤ◌}
use Rattle.text.specs.Token.{is_name, is_reserved}
use Rattle.meaning.specs.Arithmetic.{Interval}
use Rattle.meaning.specs.Expression.{StreamKind, read_kind, set_kind, Stream}
use Rattle.meaning.specs.Letter.{letter_count}
use Rattle.sheet.specs.Refusal.{letter_bound, InBounds}
use Rattle.sheet.specs.Names.{name_in}
use Rattle.sheet.specs.Accepted.{AcceptedStreams}
use Rattle.streams.specs.declared.StreamsDescription.{StreamsDescription}

-- ---- the streams that are described

-- no streams, with every number 0
abbrev pub none_described : StreamsDescription
none_described = record { count = 0; names = replicate 64 0; lengths = replicate 8 0; lows = replicate 8 (pos 0); highs = replicate 8 (pos 0); kinds = replicate 8 0 }

abbrev pub range_at : List ℤ → List ℤ → ℕ → Interval
range_at lows highs k = record { low = get_or lows k (pos 0); high = get_or highs k (pos 0) }

-- The kind with a number; a number that is no kind's is asked about apart.
abbrev pub kind_with : ℕ → StreamKind
kind_with n = cond (eqb n 1) read_kind set_kind

abbrev pub stream_in : StreamsDescription → ℕ → Stream
stream_in s k = record { name = name_in s.names s.lengths k; kind = kind_with (get_or s.kinds k 0); range = range_at s.lows s.highs k }

-- n streams from the k-th on.
unfoldable pub described_from : StreamsDescription → ℕ → ℕ → List Stream
described_from s k zero = []
described_from s k (suc n) = stream_in s k ∷ described_from s (suc k) n

-- The streams; what stands behind them, and behind a name, plays no part.
abbrev pub description_of : StreamsDescription → List Stream
description_of s = described_from s 0 s.count

-- An accepted sheet could have the streams, each of which has a kind and a name no longer than the bytes that are kept for it, and they make so many letters.
pub record StreamsFit (s : StreamsDescription) (letters : ℕ) : Type 0 where
  pub kinds : (k : ℕ) → k < s.count → get_or s.kinds k 0 ≤ 1
  pub lengths : (k : ℕ) → k < s.count → get_or s.lengths k 0 ≤ 8
  pub accepted : AcceptedStreams (description_of s)
  pub few_letters : letters ≤ letter_bound
  pub makes_letters : letter_count (description_of s) ≡ letters

-- ---- the same, stream by stream

abbrev pub IsNewName : List ℕ → List ℕ → ℕ → Type 0
IsNewName names lengths k = (j : ℕ) → j < k → name_in names lengths j ≡ name_in names lengths k → ⊥

pub record NameFits (names lengths : List ℕ) (k : ℕ) : Type 0 where
  pub short : get_or lengths k 0 ≤ 8
  pub is_aname : T (is_name (name_in names lengths k))
  pub unreserved : is_reserved (name_in names lengths k) ≡ false
  pub is_new : IsNewName names lengths k

pub record RangeFits (low high : ℤ) : Type 0 where
  pub in_bounds : InBounds (record { low = low; high = high })
  pub ordered : low ≤ℤ high

pub record StreamFits (s : StreamsDescription) (k : ℕ) : Type 0 where
  pub kind : get_or s.kinds k 0 ≤ 1
  pub range : RangeFits (get_or s.lows k (pos 0)) (get_or s.highs k (pos 0))
  pub name : NameFits s.names s.lengths k

abbrev pub EachFits : StreamsDescription → Type 0
EachFits s = (k : ℕ) → k < s.count → StreamFits s k
