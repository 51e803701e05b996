-- `pages::fill_page` meets its contract: before each turn the bytes hold the lines from `from` to before the place (Lines).
use Prim.Native.Nat.{◌+◌, ◌≤◌}
use native.Mathlib.Omega.{arith}
use mathlib.Core.Path.{refl, ◌∙◌, subst}
use lib.ListN.{length, take}
use lib.Seq.{length-take-le}
use Rattle.print.proofs.Append.{text-copied}
use Rattle.pages.specs.Lines.{HoldsLine}
use Rattle.pages.proofs.Lines.{no_lines, same-room, copied-line}
use Rattle.pages.proofs.fill_page.Goals as goal

pub loop-place-init : goal.loop-place-init
loop-place-init g c = (no_lines _, refl)

pub loop-place-preserved : goal.loop-place-preserved
loop-place-preserved g c =
    let t = c.loop-place.invariant in
    let line = c.line_at-length.new.out in
    let n = length-take-le c.line_at-length.result line (omega (arith, c.line_at-length.auto.out)) in
    let fits : c.loop-place.size + length (take c.line_at-length.result line) ≤ length c.loop-place.out = omega (arith, n, same-room _ t.0, t.0.room) in
    let placed = (text-copied c.loop-place.out (take c.line_at-length.result line) (omega (arith, n)) c.copy_from_slice.ensures.after fits).written fits in
    let held = subst (λ n. HoldsLine (g.T.PlacedText.line c.args.text.now c.loop-place.place) n line c.line_at-length.result) t.1 c.line_at-length.ensures in
    (copied-line _ t.0 held c.min.ensures c.loop-place-test.true (omega arith) placed.0, c.line_at-length.auto.out ∙ t.1)
