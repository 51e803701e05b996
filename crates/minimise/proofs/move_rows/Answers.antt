-- `minimise::move_rows` meets its contract: the rows of the states before `state` are moved.
use native.Mathlib.Nat.{mul-le-mul_right}
use native.Mathlib.Omega.{arith}
use lib.ListN.{length, get_or}
use Rattle.basics.proofs.Lists.{row_fits}
use Rattle.minimise.proofs.Compacting.{first-least, compacting_next}
use Rattle.minimise.proofs.move_rows.Goals as goal

pub move_row-requires-clause-to_le_from : goal.move_row-requires-clause-to_le_from
move_row-requires-clause-to_le_from c =
    let args = c.args in
    let state = c.loop-state.state in
    let row = get_or args.first.now state 0 in (
      mul-le-mul_right args.letters (first-least c.requires.numbered state c.loop-state-test.true),
      rw c.loop-state.invariant.entries_length (row_fits row (length args.class.now) args.letters (length args.entries.now) (c.requires.numbered.inside state c.loop-state-test.true) c.requires.letters_in_bounds.0),
    )

pub loop-state-preserved : goal.loop-state-preserved
loop-state-preserved c =
    let inv = c.loop-state.invariant in
    compacting_next c.move_row.new.entries c.requires.numbered c.loop-state-test.true (omega (arith, c.requires.numbered.most, c.requires.letters_in_bounds.1, inv.finals_length)) c.move_row.auto.entries c.move_row.ensures inv
