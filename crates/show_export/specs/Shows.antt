-- What `show_export` gives back for the text of a sheet, and what its parts do.
use Rattle.std.specs.Prelude.{ℕ, List}
use Rattle.given_tables.specs.Given.{GivenTable}
use Rattle.output.specs.Output.{Hands}
use Rattle.output.specs.declared.Handed.{Handed}
use Rattle.export_text.specs.Export.{export_text}
use Rattle.export_text.specs.Described.{described_export}
use Rattle.show_export.specs.Prints.{PrintsExport}

-- How many of the bytes that `export` prints for the text of a sheet were taken by writes.
pub record ShowsExport (text : List ℕ) (r : Handed) : Type 0 where
  pub bytes : List ℕ
  pub prints : PrintsExport text bytes
  pub hands : Hands bytes r.size r.whole

-- ---- parts of a call

-- Room for the longest header.
abbrev pub page_room : ℕ
page_room = 344064

-- The header of a table that is given, with the checksum of its sheet's text.
abbrev pub given_text : (checksum : ℕ) → GivenTable → List ℕ
given_text checksum g = export_text (described_export g.streams g.letters checksum g.entries g.finals)
