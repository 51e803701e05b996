-- Before each page the bytes handed over are those of the lines before it (pages, Handed).
use Rattle.std.proofs.Common.{◌-◌}
use Rattle.pages.proofs.Handed.{HandedTo}
use Rattle.histogram_text.specs.Output.{histogram_at, histogram_places}
use Rattle.show_histogram.proofs.write_pages.Given as goal

abbrev pub invariant-pages : goal.invariant-pages
invariant-pages g l =
    HandedTo (histogram_at (record { refusal = l.refusal; total = l.total; names = l.names; lengths = l.lengths; lows = l.lows; highs = l.highs; counts = l.counts })) (histogram_places l.refusal l.lows l.highs) l.from l.size

abbrev pub decreases-pages : goal.decreases-pages
decreases-pages g l = histogram_places l.refusal l.lows l.highs - l.from
