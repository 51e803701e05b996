-- `histogram_text::fill_page` meets its contract: before each turn the bytes hold the lines from `from` to before the place (pages, Lines).
use Prim.Native.Nat.{◌-◌}
use mathlib.Core.Path.{◌≡◌}
use lib.ListN.{length}
use Rattle.pages.specs.Lines.{HoldsLines}
use Rattle.histogram_text.specs.Output.{histogram_at}
use Rattle.histogram_text.proofs.fill_page.Given as goal

abbrev pub invariant-loop-place : goal.invariant-loop-place
invariant-loop-place l = HoldsLines (histogram_at (record { refusal = l.refusal; total = l.total; names = l.names; lengths = l.lengths; lows = l.lows; highs = l.highs; counts = l.counts })) l.count l.from l.initial.out l.out l.size l.place × (length l.line ≡ 256)

abbrev pub decreases-loop-place : goal.decreases-loop-place
decreases-loop-place l = l.count - l.place
