-- `refusals::kinds_line` meets its contract: the line that begins there is taken where it says kinds.
use mathlib.Core.Path.{refl, sym, ◌∙◌}
use native.Mathlib.Omega.{arith}
use Rattle.scan.proofs.Lines.{line-within}
use Rattle.refusals.specs.Places.{said, unsaid}
use Rattle.refusals.proofs.kinds_line.Goals as goal

pub slice_bounds-says_kinds-count : goal.slice_bounds-says_kinds-count
slice_bounds-says_kinds-count c = let w = line-within c.next_line-line.ensures c.requires in omega (arith, w.forward)

pub slice_bounds-says_kinds-start : goal.slice_bounds-says_kinds-start
slice_bounds-says_kinds-start c = let w = line-within c.next_line-line.ensures c.requires in omega (arith, w.forward, w.ordered, w.within)

pub slice_bounds-says_kinds-end : goal.slice_bounds-says_kinds-end
slice_bounds-says_kinds-end c = let w = line-within c.next_line-line.ensures c.requires in omega (arith, w.forward, w.ordered, w.within)

pub returns-then-says_kinds : goal.returns-then-says_kinds
returns-then-says_kinds c = said c.next_line-line.ensures (sym c.says_kinds.ensures ∙ c.if-says_kinds.true)

pub returns : goal.returns
returns c = unsaid c.next_line-line.ensures (sym c.says_kinds.ensures ∙ c.if-says_kinds.false) refl refl
