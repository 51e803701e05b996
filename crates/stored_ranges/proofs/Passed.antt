-- The names and ranges of a stored sheet, cut to its streams as programs pass them on, are those of the sheet. From the definition of the stored sheet.
use Prim.Native.Nat.{ℕ, ◌-◌, min}
use native.Mathlib.Omega.{arith}
use mathlib.Core.Path.{◌≡◌, ◌∙◌, ap}
use mathlib.Core.List.{List, ◌++◌, map}
use lib.IntN.{pos}
use lib.ListN.{length, take, replicate, length-map}
use lib.Seq.{take_at}
use Rattle.meaning.specs.Expression.{Sheet}
use Rattle.meaning.specs.Window.{join_over}
use Rattle.sheet.specs.Names.{eight_bytes}
use Rattle.sheet.specs.Accepted.{Accepted}
use Rattle.nodes.specs.Bounds.{lows_of, highs_of}
use Rattle.reader.specs.declared.StoredSheet.{StoredSheet}
use Rattle.header.specs.Streams.{name_bytes, name_lengths}
use Rattle.reader.specs.Stored.{stored_sheet}

-- The bytes behind the names.
abbrev pub behind_names : Sheet → List ℕ
behind_names s = replicate (64 - length (name_bytes s.streams)) 0

module _ (s : Sheet) (accepted : Accepted s) {x : StoredSheet} (same : x ≡ stored_sheet s) where
  streams-passed : min x.streams 8 ≡ length s.streams
  unfolding stored_sheet
  streams-passed = omega (arith, ap (λ y. y.streams) same, accepted.streams.stream_count)

  pub names-passed : x.names ≡ join_over eight_bytes s.streams ++ behind_names s
  unfolding stored_sheet
  names-passed = ap (λ y. y.names) same

  pub lengths-passed : take (min x.streams 8) x.lengths ≡ map (λ y. length y.name) s.streams
  unfolding stored_sheet
  lengths-passed =
      ap (λ n. take n x.lengths) streams-passed ∙ ap (λ y. take (length s.streams) y.lengths) same
      ∙ take_at (name_lengths s.streams) (replicate (8 - length (name_lengths s.streams)) 0) (length s.streams) (length-map s.streams (λ y. length y.name))

  pub lows-passed : take (min x.streams 8) x.lows ≡ lows_of s.streams
  unfolding stored_sheet
  lows-passed =
      ap (λ n. take n x.lows) streams-passed ∙ ap (λ y. take (length s.streams) y.lows) same
      ∙ take_at (lows_of s.streams) (replicate (8 - length (lows_of s.streams)) (pos 0)) (length s.streams) (length-map s.streams (λ y. y.range.low))

  pub highs-passed : take (min x.streams 8) x.highs ≡ highs_of s.streams
  unfolding stored_sheet
  highs-passed =
      ap (λ n. take n x.highs) streams-passed ∙ ap (λ y. take (length s.streams) y.highs) same
      ∙ take_at (highs_of s.streams) (replicate (8 - length (highs_of s.streams)) (pos 0)) (length s.streams) (length-map s.streams (λ y. y.range.high))
