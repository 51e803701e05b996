-- `pages::fill_page` meets its contract: before each turn the bytes hold the lines from `from` to before the place (Lines).
use mathlib.Core.Path.{◌≡◌}
use lib.ListN.{length}
use Rattle.pages.specs.Lines.{HoldsLines}
use Rattle.pages.proofs.fill_page.Given as goal

abbrev pub invariant-loop-place : goal.invariant-loop-place
invariant-loop-place g l = HoldsLines (g.T.PlacedText.line l.text) l.count l.from l.initial.out l.out l.size l.place × (length l.line ≡ 256)
