-- What `export` prints is there for every text, and is one. From the one outcome of a compile in the rows lent (lend).
use Prim.Native.Nat.{ℕ}
use mathlib.Core.Path.{◌≡◌, ap}
use mathlib.Core.List.{List}
use Rattle.lend.specs.Lend.{HasOutcome, is_refused, is_compiled}
use Rattle.lend.proofs.Outcome.{compiled_unique, refused_unique, refused-not-compiled, lent_total}
use Rattle.print.specs.Text.{refusal_line}
use Rattle.export_text.specs.Export.{export_text}
use Rattle.show_export.specs.Prints.{exported_table, PrintsExport, refused, exported, HasExportOutput}

pub prints_unique : {text b c : List ℕ} → PrintsExport text b → PrintsExport text c → b ≡ c
prints_unique (refused r) (refused q) = ap refusal_line (refused_unique r q)
prints_unique (refused r) (exported c z) = absurd (refused-not-compiled r c z)
prints_unique (exported c z) (refused r) = absurd (refused-not-compiled r c z)
prints_unique {text} (exported c z) (exported d y) = let e = compiled_unique c d in λ i. export_text (exported_table text (e.0 i) (e.1.0 i) (e.1.1 i))

pub prints-total : (text : List ℕ) → HasExportOutput text
prints-total text = go (lent_total text)
  where
    go : HasOutcome text → HasExportOutput text
    go (is_refused r) = record { bytes = _; prints = refused r }
    go (is_compiled c z) = record { bytes = _; prints = exported c z }
