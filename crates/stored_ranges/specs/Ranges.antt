-- The ranges of a stored sheet.
use Rattle.std.specs.Prelude.{◌≡◌, length}
use Rattle.print.specs.Lines.{AllFit}
use Rattle.reader.specs.declared.StoredSheet.{StoredSheet}

-- There is room for the ranges of eight streams, and they are numbers of the machine, so that no line is longer than a page.
pub record HasRanges (stored : StoredSheet) : Type 0 where
  pub low_count : length stored.lows ≡ 8
  pub high_count : length stored.highs ≡ 8
  pub lows : AllFit stored.lows
  pub highs : AllFit stored.highs
