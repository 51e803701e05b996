-- `export_text::put_counts` meets its contract: the beginning, the numbers of streams, letters and states, and the checksum.
use mathlib.Core.Path.{◌∙◌, ap₂}
use mathlib.Core.List.{◌++◌}
use Rattle.text.specs.Bytes.{bytes_of}
use Rattle.export_text.specs.Export.{beginning, counts_line, checksum_line}
use Rattle.print.proofs.Append.{appends_then, appends_same}
use Rattle.export_text.proofs.Parts.{counts-parts}
use Rattle.export_text.proofs.put_counts.Goals as goal

pub returns : goal.returns
returns c =
    let a = c.args in
    appends_same (appends_then (appends_then (appends_then (appends_then (appends_then (appends_then (appends_then (appends_then c.append_bytes-streams_at.ensures c.append_natural-letters_from.ensures) c.append_bytes-letters_at.ensures) c.append_natural-states_from.ensures) c.append_bytes-states_at.ensures) c.append_natural-checksum_from.ensures) c.append_bytes-checksum_at.ensures) c.append_natural-end.ensures) c.append_bytes.ensures) (counts-parts a.streams c.from.result a.states c.from-2.result
    ∙ ap₂ (λ l k. beginning ++ (counts_line a.streams l a.states ++ (checksum_line k ++ bytes_of "\n"))) c.from.ensures c.from-2.ensures)
