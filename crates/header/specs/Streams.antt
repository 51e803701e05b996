-- What is stored of the header lines (document 01, "Line 1: stream names. Line 2: the lowest value of each, in that order. Line 3: the highest."), and
-- of the line of kinds (document 02, S-6).
use Rattle.std.specs.Prelude.{ℕ, ◌-◌, ◌≤◌, ◌<◌, min, ◌≡◌, Bool, true, false, List, ◌++◌, map, ℤ, pos, length, replicate}
use Rattle.std.proofs.Math.Option.{some, none}
use Rattle.text.specs.Bytes.{Token}
use Rattle.meaning.specs.Expression.{StreamKind, Stream}
use Rattle.nodes.specs.Code.{stream_kind_code}
use Rattle.meaning.specs.Window.{join_over}
use Rattle.sheet.specs.Names.{eight_bytes}
use Rattle.sheet.specs.Reading.{any_of, is_range_faulty, streams_from, kinds_of_streams}
use Rattle.refusals.specs.Places.{said_tokens}
use Rattle.parse.specs.Bounded.{zero_beyond}
use Rattle.header.specs.declared.StreamsRead.{StreamsRead}
use Rattle.header.specs.declared.HeaderRead.{HeaderRead}

-- The list in room for n elements.
abbrev pub padded : {X : Type 0} → ℕ → X → List X → List X
padded n z l = l ++ replicate (n - length l) z

-- Eight bytes for each name.
abbrev pub name_bytes : List Stream → List ℕ
name_bytes ss = join_over eight_bytes ss

abbrev pub name_lengths : List Stream → List ℕ
name_lengths ss = map (λ x. length x.name) ss

abbrev pub stream_kind_codes : List Stream → List ℕ
stream_kind_codes ss = map (λ x. stream_kind_code x.kind) ss

-- The four tables in which streams are stored.
pub record StreamTables : Type 0 where
  pub names : List ℕ
  pub lengths : List ℕ
  pub lows : List ℤ
  pub highs : List ℤ

abbrev pub stream_tables : List ℕ → List ℕ → List ℤ → List ℤ → StreamTables
stream_tables n k l h = record { names = n; lengths = k; lows = l; highs = h }

abbrev pub no_stream_tables : StreamTables
no_stream_tables = stream_tables (replicate 64 0) (replicate 8 0) (replicate 8 (pos 0)) (replicate 8 (pos 0))

-- A value beyond the magnitude bound is stored as 0; such a sheet is refused.
abbrev pub stream_tables_of : List Stream → StreamTables
stream_tables_of ss =
    stream_tables
    (padded 64 0 (name_bytes ss))
    (padded 8 0 (name_lengths ss))
    (padded 8 (pos 0) (map (λ x. zero_beyond x.range.low) ss))
    (padded 8 (pos 0) (map (λ x. zero_beyond x.range.high) ss))

abbrev pub streams_read : List Stream → StreamsRead
streams_read ss = record { ok = true; count = length ss; faulty = any_of is_range_faulty ss }

-- The lines give streams, and the tables hold them; or they do not, and what the tables hold is left open.
pub data StreamsOutcome (names lows highs : List Token) (r : StreamsRead) (tables : StreamTables) : Type 0 where
  no_form : streams_from names lows highs ≡ none → r.ok ≡ false → StreamsOutcome names lows highs r tables
  are_read : (ss : List Stream) → streams_from names lows highs ≡ some ss → r ≡ streams_read ss → tables ≡ stream_tables_of ss → StreamsOutcome names lows highs r tables

-- The tokens of the line of kinds say a kind for each of the streams, or nothing, and the table holds the kinds; or they do not, and what the table
-- holds is left open.
pub data KindsOutcome (ts : List Token) (count : ℕ) (ok : Bool) (table : List ℕ) : Type 0 where
  no_kinds : kinds_of_streams (said_tokens ts) count ≡ none → ok ≡ false → KindsOutcome ts count ok table
  kinds_read : (ks : List StreamKind) → kinds_of_streams (said_tokens ts) count ≡ some ks → ok ≡ true → table ≡ padded 8 0 (map stream_kind_code ks) → KindsOutcome ts count ok table

-- What is read of the header lines and the line of kinds. More than 8 names have no form here; refusal 2 comes first for them.
pub record HeaderOutcome (names lows highs words : List Token) (r : HeaderRead) : Type 0 where
  pub many : 8 < length names → r.streams.ok ≡ false
  pub streams : length names ≤ 8 → StreamsOutcome names lows highs r.streams (stream_tables r.arrays.names r.arrays.lengths r.arrays.lows r.arrays.highs)
  pub kinds : length names ≤ 8 → KindsOutcome words (min r.streams.count 8) r.said r.arrays.stream_kinds
