-- `game::force` meets its contract: the compile in the cut room and the play table made of it are those of the law `whole-call`.
use native.Mathlib.Omega.{arith}
use mathlib.Core.Path.{sym}
use Rattle.game.proofs.Parts.{rows_taken, whole-call}
use Rattle.game.proofs.force.Goals as goal

pub slice_bounds-compile-end-2 : goal.slice_bounds-compile-end-2
slice_bounds-compile-end-2 c =
    sym (rows_taken (omega (arith, c.min-rows.ensures)) c.clear_from.ensures)

pub returns : goal.returns
returns c =
    let args = c.args in
    whole-call args.entries.now args.finals.now args.keys.now args.live.now args.class.now args.next.now args.heads.now args.links.now args.envelopes.now args.play.now
    c.read-reading.ensures c.stored_streams.ensures c.rows_held-held.ensures c.min-rows.ensures c.clear_from.ensures c.compile-told.ensures c.make_play.ensures
