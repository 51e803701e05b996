-- What `export` prints for the bytes of a sheet: "a C header: names, ranges, kinds, letters, states, the table's bytes (two an entry, low first), final bytes, a
-- checksum of the sheet's text".
use Rattle.std.specs.Prelude.{ℕ, ◌≡◌, List}
use Rattle.meaning.specs.Expression.{Sheet}
use Rattle.meaning.specs.Letter.{letter_count}
use Rattle.sheet.specs.Form.{names_of}
use Rattle.nodes.specs.Bounds.{lows_of, highs_of}
use Rattle.header.specs.Streams.{stream_kind_codes}
use Rattle.outcome.specs.Compile.{CompileAnswer, Tables}
use Rattle.lend.specs.Lend.{CompiledLent, RefusedLent}
use Rattle.theorems.specs.UsedRows.{used_entries, used_finals}
use Rattle.checksum.specs.Checksum.{checksum_of}
use Rattle.print.specs.Text.{refusal_line}
use Rattle.export_text.specs.Export.{ExportedTable, export_text}

-- The streams of a sheet, the used rows of its compile and the checksum of its text.
abbrev pub exported_table : (text : List ℕ) → Sheet → CompileAnswer → Tables → ExportedTable
exported_table text s a t =
    record {
      names = names_of s.streams;
      lows = lows_of s.streams;
      highs = highs_of s.streams;
      kinds = stream_kind_codes s.streams;
      letters = letter_count s.streams;
      states = a.states;
      checksum = checksum_of text;
      entries = used_entries s a t;
      finals = used_finals a t;
    }

-- The sheet is compiled in the rows that `sluice` lends.
pub data PrintsExport (text : List ℕ) : List ℕ → Type 0 where
  -- "A refused sheet prints `refused N` alone"
  refused : {n : ℕ} → RefusedLent text n → PrintsExport text (refusal_line n)
  exported : {s : Sheet} {a : CompileAnswer} {t : Tables} → CompiledLent text s a t → a.refusal ≡ 0 → PrintsExport text (export_text (exported_table text s a t))

-- There is an outcome.
pub record HasExportOutput (text : List ℕ) : Type 0 where
  pub bytes : List ℕ
  pub prints : PrintsExport text bytes
