-- `export_text::append_described` meets its contract: the arrays are lent as they are, the ranges and kinds cut to the streams.
use mathlib.Core.Path.{ap}
use lib.ListN.{take}
use Rattle.print.specs.Lines.{stored_names}
use Rattle.print.proofs.Append.{appends_same}
use Rattle.export_text.specs.Export.{stream_arrays}
use Rattle.export_text.proofs.append_described.Goals as goal

pub returns : goal.returns
returns c =
    let d = c.args.streams in
    appends_same c.append_streams.ensures (ap (λ n. stream_arrays (stored_names d.names d.lengths n) (take n d.lows) (take n d.highs) (take n d.kinds)) c.min-count.ensures)
