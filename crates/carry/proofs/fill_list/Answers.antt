-- `carry::fill_list` meets its contract: 18 where some row has no state, 10 where the list is too short, and else the states are copied (Outcome).
use mathlib.Core.Path.{ap, ◌∙◌}
use native.Mathlib.Omega.{arith}
use lib.ListN.{length}
use lib.Seq.{paste}
use Rattle.carry.proofs.Outcome.{list-lacking, list-too_short, list-filled}
use Rattle.carry.proofs.fill_list.Goals as goal

pub returns-then-not-carry_rows : goal.returns-then-not-carry_rows
returns-then-not-carry_rows c = list-lacking c.carry_rows.ensures c.if-not-carry_rows.true c.requires.by_index.2

pub returns-then-list-states : goal.returns-then-list-states
returns-then-list-states c =
    let rows = c.carry_rows in
    list-too_short rows.ensures rows.auto.states c.if-not-carry_rows.false (omega (arith, c.if-list-states.true, rows.auto.states)) c.requires.by_index.2

pub returns : goal.returns
returns c =
    let rows = c.carry_rows in
    let states = rows.new.states in
    list-filled rows.ensures rows.auto.states c.if-not-carry_rows.false (omega (arith, c.if-list-states.false, rows.auto.states))
    (c.copy.ensures ∙ ap (λ l. paste l 0 states (length states)) c.requires.by_index.2)
