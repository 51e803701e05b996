-- `search` meets its contract: before each row the search stands at it (Turns), and the tables have the lengths that they had.
use native.Mathlib.Omega.{arith}
use borrow.Author.Rules.{rules}
use Rattle.pairs.specs.Rows.{rows_done}
use Rattle.pairs.proofs.Keys.{none-chained}
use Rattle.pairs.proofs.Turns.{turn-begin, turn_end, row-turn, row-over, SameLengths, lengths_refl, lengths_trans}
use Rattle.pairs.proofs.search.Goals as goal

pub settle-start-requires : goal.settle-start-requires
settle-start-requires c =
    let s = c in
    (none-chained s.args.heads.now _ _ _ (omega (arith, s.requires.some_row, s.requires.heads_room)) (c.fill.ensures.after (search rules)), s.requires.few_rows, s.requires.links_room, s.requires.keys_room)

pub overflow_add-n : goal.overflow_add-n
overflow_add-n c = omega (arith, c.settle-start.ensures.within)

pub loop-s-init : goal.loop-s-init
loop-s-init c =
    let s = c in
    let b = turn-begin _ _ _ _ _ _ _ _ s.requires.some_row s.requires.keys_room c.settle-start.ensures in
    (rw b.0 b.1, lengths_refl)

pub overflow_add-s : goal.overflow_add-s
overflow_add-s c = omega (arith, c.loop-s-test.true, c.loop-s.invariant.0.turn.within, c.requires.few_rows)

pub loop-s-smaller : goal.loop-s-smaller
loop-s-smaller c = omega (arith, c.loop-s-test.true, c.loop-s.invariant.0.turn.within)

pub returns-in_err-n : goal.returns-in_err-n
returns-in_err-n c = rw c.from_residual.ensures (row-over _ _ _ _ _ _ _ _ c.in_err-n.ensures)

pub loop-s-preserved : goal.loop-s-preserved
loop-s-preserved c =
    let row-lengths : let l = c.loop-s in SameLengths l.keys l.heads l.links l.entries c.search_row.new.keys c.search_row.new.heads c.search_row.new.links c.search_row.new.entries = record { keys_long = c.search_row.auto.keys; heads_long = c.search_row.auto.heads; links_long = c.search_row.auto.links; entries_long = c.search_row.auto.entries } in
    (row-turn _ _ _ _ _ _ _ _ c.in_ok-n.ensures, lengths_trans c.loop-s.invariant.1 (row-lengths))

pub returns : goal.returns
returns c = rows_done c.loop-s.invariant.0.turn.within (turn_end _ _ _ _ _ _ _ _ c.loop-s-test.false c.loop-s.invariant.0)
