-- The stored form of an answer: a refusal's number with a sheet of zeros, or 0 with the stored sheet (document 01, "Room beyond the used
-- rows, and in a list beyond what is given, is zero").
use Rattle.std.specs.Prelude.{ℕ, List, map, pos, length, replicate}
use Rattle.meaning.specs.Expression.{Sheet}
use Rattle.meaning.specs.Letter.{letter_count}
use Rattle.meaning.specs.Window.{all_firsts, all_untils, B, D}
use Rattle.sheet.specs.Refusal.{Answer, refused, sheet}
use Rattle.nodes.specs.Postfix.{StoredConstraint, all_nodes, stored_constraints, kinds_of, values_of, starts_of}
use Rattle.nodes.specs.FirstPlaces.{all_first_places}
use Rattle.nodes.specs.Bounds.{lows_of, highs_of}
use Rattle.header.specs.Streams.{padded, name_bytes, name_lengths, stream_kind_codes}
use Rattle.reader.specs.declared.StoredSheet.{StoredSheet}
use Rattle.reader.specs.declared.Reading.{Reading}

abbrev pub relations_of : List StoredConstraint → List ℕ
relations_of ts = map (λ t. t.relation) ts

abbrev pub lefts_of : List StoredConstraint → List ℕ
lefts_of ts = map (λ t. t.left) ts

abbrev pub rights_of : List StoredConstraint → List ℕ
rights_of ts = map (λ t. t.right) ts

unfoldable pub stored_sheet : Sheet → StoredSheet
stored_sheet s =
    let nodes = all_nodes 0 0 s.constraints in
    let constraints = stored_constraints 0 0 s.constraints in
    record {
      streams = length s.streams;
      names = padded 64 0 (name_bytes s.streams);
      lengths = padded 8 0 (name_lengths s.streams);
      lows = padded 8 (pos 0) (lows_of s.streams);
      highs = padded 8 (pos 0) (highs_of s.streams);
      stream_kinds = padded 8 0 (stream_kind_codes s.streams);
      letters = letter_count s.streams;
      constraints = length s.constraints;
      relations = padded 32 0 (relations_of constraints);
      lefts = padded 32 0 (lefts_of constraints);
      rights = padded 32 0 (rights_of constraints);
      nodes = length nodes;
      kinds = padded 1024 0 (kinds_of nodes);
      values = padded 1024 (pos 0) (values_of nodes);
      starts = padded 1024 0 (starts_of nodes);
      untils = length (all_untils s.constraints);
      firsts = length (all_firsts s.constraints);
      first_nodes = padded 8 0 (all_first_places 0 s.constraints);
      ahead = D s.constraints;
      back = B s.constraints;
    }

abbrev pub empty_sheet : StoredSheet
empty_sheet =
    record {
      streams = 0;
      names = replicate 64 0;
      lengths = replicate 8 0;
      lows = replicate 8 (pos 0);
      highs = replicate 8 (pos 0);
      stream_kinds = replicate 8 0;
      letters = 0;
      constraints = 0;
      relations = replicate 32 0;
      lefts = replicate 32 0;
      rights = replicate 32 0;
      nodes = 0;
      kinds = replicate 1024 0;
      values = replicate 1024 (pos 0);
      starts = replicate 1024 0;
      untils = 0;
      firsts = 0;
      first_nodes = replicate 8 0;
      ahead = 0;
      back = 0;
    }

abbrev pub refused_reading : ℕ → Reading
refused_reading n = record { refusal = n; sheet = empty_sheet }

-- The number of the refusal, or 0 with the sheet.
abbrev pub reading_of : Answer → Reading
reading_of (refused n) = refused_reading n
reading_of (sheet s) = record { refusal = 0; sheet = stored_sheet s }
