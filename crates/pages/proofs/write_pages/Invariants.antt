-- Before each page the bytes handed over are those of the lines before it, and each of these lines fits (Fitting).
use Rattle.std.proofs.Common.{◌≡◌, ◌-◌}
use Prim.Native.Nat.{min}
use lib.ListN.{length}
use Rattle.pages.specs.Lines.{line_room}
use Rattle.pages.proofs.Fitting.{FittingTo}
use Rattle.pages.proofs.write_pages.Given as goal

abbrev pub invariant-pages : goal.invariant-pages
invariant-pages g l = FittingTo (g.T.PlacedText.line l.text) (g.T.PlacedText.count l.text) (min (length l.initial.page) line_room) l.from l.size × (length l.page ≡ length l.initial.page)

abbrev pub decreases-pages : goal.decreases-pages
decreases-pages g l = g.T.PlacedText.count l.text - l.from
