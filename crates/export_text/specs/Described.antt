-- What the header holds of a table whose streams are described.
use Rattle.std.specs.Prelude.{ℕ, min, List, length, take}
use Rattle.streams.specs.declared.StreamsDescription.{StreamsDescription}
use Rattle.print.specs.Lines.{stored_names}
use Rattle.export_text.specs.Export.{ExportedTable}

-- Eight streams at most; there are as many states as final bytes.
abbrev pub described_export : StreamsDescription → (letters checksum : ℕ) (entries finals : List ℕ) → ExportedTable
described_export d letters checksum entries finals =
    record {
      names = stored_names d.names d.lengths (min d.count 8);
      lows = take (min d.count 8) d.lows;
      highs = take (min d.count 8) d.highs;
      kinds = take (min d.count 8) d.kinds;
      letters = letters;
      states = length finals;
      checksum = checksum;
      entries = entries;
      finals = finals;
    }
