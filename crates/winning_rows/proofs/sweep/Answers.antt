-- `winning_rows::sweep` meets its contract: the first `i` rows of the sweep are seen.
use mathlib.Core.Path.{sym}
use native.Mathlib.Omega.{arith}
use lib.ListN.{length}
use Rattle.winning_rows.proofs.Sweeping.{fits-sized, turned_sized, row_inside, swept_start, swept_turned, swept_kept, swept_all}
use Rattle.winning_rows.proofs.sweep.Goals.{then-turn_row, else-turn_row}
use Rattle.winning_rows.proofs.sweep.Goals as goal

pub loop-i-init : goal.loop-i-init
loop-i-init c =
    let args = c.args in
    (omega arith, λ final. swept_start args.down (length args.ranks.now) args.ranks.now args.first)

pub turn_row-requires : goal.turn_row-requires
turn_row-requires c =
    let loop = c.loop-i in
    let args = c.args in
    (fits-sized (sym loop.auto.answers) (sym loop.auto.ranks) c.requires.0, omega (arith, loop.auto.ranks, c.row_of-row.ensures, row_inside args.down (length args.ranks.now) loop.i c.loop-i-test.true))

pub loop-i-preserved : goal.loop-i-preserved
loop-i-preserved c =
    let loop = c.loop-i in
    let args = c.args in
    let call = c.turn_row in
    let rows = length args.ranks.now in
    let ranks = call.new.ranks in
    let turned = turned_sized args.entries.now args.choice.now args.to loop.next loop.ranks ranks call.result loop.auto.answers loop.auto.ranks c.row_of-row.ensures call.ensures in
    let inside = c.loop-i-test.true in (
      elim c.if-turn_row.branch [ then-turn_row w ↦ omega (arith, loop.invariant.0, w.next-is) | else-turn_row w ↦ omega (arith, loop.invariant.0, w.next-is) ],
      λ final. elim c.if-turn_row.branch [
        | then-turn_row w ↦ swept_turned args.down rows loop.i ranks call.result w.next-is inside (omega (arith, loop.auto.ranks)) w.if-turn_row.true (loop.invariant.1 final) (turned final)
        | else-turn_row w ↦ swept_kept args.down rows loop.i ranks call.result w.next-is inside w.if-turn_row.false (loop.invariant.1 final) (turned final)
      ],
    )

pub returns : goal.returns
returns c =
    λ final. swept_all c.args.down (length c.args.ranks.now) c.loop-i.i (omega (arith, c.loop-i-test.false)) (c.loop-i.invariant.1 final)
