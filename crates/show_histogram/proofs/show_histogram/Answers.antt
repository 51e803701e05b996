-- A text that is no sheet prints its refusal, and the record of a sheet is counted (Printing).
use Rattle.std.proofs.Common.{◌<◌, [], arith}
use Rattle.stored_ranges.proofs.Ranges.{read_ranges}
use Rattle.show_histogram.proofs.Printing.{sheet-refused, shows-counts}
use Rattle.show_histogram.proofs.show_histogram.Goals as goal

pub returns-then-reading-ne0 : goal.returns-then-reading-ne0
returns-then-reading-ne0 g c =
    let h : 0 < c.read-reading.result.refusal = omega (arith, c.if-reading-ne0.true) in
    record {
      reads = [];
      most = omega arith;
      stops = λ answered. tt;
      bytes = _;
      prints = sheet-refused _ c.read-reading.ensures h;
      hands = c.show_refusal.ensures;
    }

pub show_counts-requires : goal.show_counts-requires
show_counts-requires g c = read_ranges _ c.read-reading.ensures

pub returns : goal.returns
returns g c = shows-counts _ c.read-reading.ensures c.if-reading-ne0.false c.show_counts.ensures
