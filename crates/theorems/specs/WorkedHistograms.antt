-- Worked records for `histogram` (document 02, S-12): rows of one table, and what a row says.
use Prim.Native.String.{String}
use Rattle.std.specs.Prelude.{List, [], ◌∷◌}
use Rattle.text.specs.Bytes.{bytes_of}
use Rattle.histogram_text.specs.Prints.{PrintsHistogram}

-- The texts of a sheet and of a record, and what is printed for them.
pub record WorkedHistogram : Type 0 where
  pub sheet_text : String
  pub record_text : String
  pub printed : String

unfoldable pub worked_histograms : List WorkedHistogram
worked_histograms =
    -- a value at which no line stands is printed with 0; the sheet has no solution, which is not judged
    record { sheet_text = "a b\n-1 0\n1 1\na == 5"; record_text = "a b\n0 1\n0 0\n-1 1"; printed = "stream value lines\na -1 1\na 0 2\na 1 0\nb 0 1\nb 1 2\ntotal 3\n" }
    -- names only
    ∷ record { sheet_text = "a b\n-1 0\n1 1\na == 5"; record_text = " a  b\n"; printed = "stream value lines\na -1 0\na 0 0\na 1 0\nb 0 0\nb 1 0\ntotal 0\n" }
    -- the first line with a fault decides, whatever follows it; in one line 13 comes before 14
    ∷ record { sheet_text = "a b\n-1 0\n1 1\na == 5"; record_text = "a b\n0 1\n2 0\nx\n"; printed = "refused 14\n" }
    ∷ record { sheet_text = "a b\n-1 0\n1 1\na == 5"; record_text = "a b\n0 1\n2 x\n3 3\n"; printed = "refused 13\n" }
    -- a blank line is a value line without integers
    ∷ record { sheet_text = "a b\n-1 0\n1 1\na == 5"; record_text = "a b\n\n"; printed = "refused 13\n" }
    -- names that differ, and a record without lines
    ∷ record { sheet_text = "a b\n-1 0\n1 1\na == 5"; record_text = "b a\n0 1\n"; printed = "refused 13\n" }
    ∷ record { sheet_text = "a b\n-1 0\n1 1\na == 5"; record_text = ""; printed = "refused 13\n" }
    -- the sheet's own refusals come first
    ∷ record { sheet_text = "a b\n-1 0\n1 1\na == c"; record_text = "b a\n"; printed = "refused 4\n" }
    ∷ []

-- What a row says.
abbrev pub PrintsRow : WorkedHistogram → Type 0
PrintsRow r = PrintsHistogram (bytes_of r.sheet_text) (bytes_of r.record_text) (bytes_of r.printed)
