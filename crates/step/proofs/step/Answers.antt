-- `step::step` meets its contract: each test before the entry is one part of refusal 11, and once none applies the entry's
-- two bytes lie within the table. From `Refusals`.
use lib.ListN.{length}
use Rattle.step.specs.Step.{row_bytes}
use Rattle.step.specs.Step.Refusal11.{no_letters, not_whole_rows, too_many_rows, state_outside, letter_outside}
use Rattle.step.specs.Step.StepAnswer.{refused11}
use Rattle.step.proofs.Refusals.{Sound, rest→notWhole, answers-11, answers-12, answers-state}
use Rattle.step.proofs.step.Goals.{then-letters-eq0-via-then-letters-eq0, then-letters-eq0-via-else-letters-eq0+then-table-row-ne0, then-rows-gt-MOST_ROWS-via-then-rows-gt-MOST_ROWS, then-rows-gt-MOST_ROWS-via-else-rows-gt-MOST_ROWS+then-rows-state, then-rows-gt-MOST_ROWS-via-else-rows-gt-MOST_ROWS+else-rows-state+then-letters-letter}
use Rattle.step.proofs.step.Goals as goal

pub returns-then-letters-eq0 : goal.returns-then-letters-eq0
returns-then-letters-eq0 c = refused11 (elim c.then-letters-eq0.branch [
  | then-letters-eq0-via-then-letters-eq0 w ↦ no_letters w.if-letters-eq0.true
  | then-letters-eq0-via-else-letters-eq0+then-table-row-ne0 w ↦ not_whole_rows (rest→notWhole (length c.args.table.now) (row_bytes c.args.letters) w.if-table-row-ne0.true)
])

pub returns-then-rows-gt-MOST_ROWS : goal.returns-then-rows-gt-MOST_ROWS
returns-then-rows-gt-MOST_ROWS c = refused11 (elim c.then-rows-gt-MOST_ROWS.branch [
  | then-rows-gt-MOST_ROWS-via-then-rows-gt-MOST_ROWS w ↦ too_many_rows w.if-rows-gt-MOST_ROWS.true
  | then-rows-gt-MOST_ROWS-via-else-rows-gt-MOST_ROWS+then-rows-state w ↦ state_outside w.if-rows-state.true
  | then-rows-gt-MOST_ROWS-via-else-rows-gt-MOST_ROWS+else-rows-state+then-letters-letter w ↦ letter_outside w.if-letters-letter.true
])

pub returns-then-entry-eq-NO_STATE : goal.returns-then-entry-eq-NO_STATE
returns-then-entry-eq-NO_STATE c =
    let sound : Sound c.args.table.now c.args.letters c.args.state c.args.letter = record {
      some_letter = c.if-letters-eq0.false;
      whole_rows = c.if-table-row-ne0.false;
      few_rows = c.if-rows-gt-MOST_ROWS.false;
      is_state = c.if-rows-state.false;
      is_letter = c.if-letters-letter.false;
    } in
    answers-12 sound c.entry_at-entry.result c.entry_at-entry.ensures c.if-entry-eq-NO_STATE.true

pub returns-then-rows-entry : goal.returns-then-rows-entry
returns-then-rows-entry c =
    let sound : Sound c.args.table.now c.args.letters c.args.state c.args.letter = record {
      some_letter = c.if-letters-eq0.false;
      whole_rows = c.if-table-row-ne0.false;
      few_rows = c.if-rows-gt-MOST_ROWS.false;
      is_state = c.if-rows-state.false;
      is_letter = c.if-letters-letter.false;
    } in
    answers-11 sound c.entry_at-entry.result c.entry_at-entry.ensures c.if-entry-eq-NO_STATE.false c.if-rows-entry.true

pub returns : goal.returns
returns c =
    let sound : Sound c.args.table.now c.args.letters c.args.state c.args.letter = record {
      some_letter = c.if-letters-eq0.false;
      whole_rows = c.if-table-row-ne0.false;
      few_rows = c.if-rows-gt-MOST_ROWS.false;
      is_state = c.if-rows-state.false;
      is_letter = c.if-letters-letter.false;
    } in
    answers-state sound c.entry_at-entry.result c.entry_at-entry.ensures c.if-entry-eq-NO_STATE.false c.if-rows-entry.false
