-- `carry::carry` meets its contract: the refusals 11 and 17 of the tables, and else what `fill_list` leaves in the list (Outcome).
use Prim.Native.Nat.{◌≤◌}
use mathlib.Core.Path.{◌≡◌, sym, ap, subst, ◌∙◌}
use lib.ListN.{length, take, replicate, length-replicate}
use borrow.Author.Rules.{rules}
use Rattle.basics.proofs.Clearing.{zeroed}
use Rattle.automaton.specs.Table.{no_state}
use Rattle.automaton.specs.WellFormed.{most_rows, WholeTable}
use Rattle.given_tables.specs.Given.{given_table}
use Rattle.carry.specs.Carry.{OverSameStreams}
use Rattle.carry.specs.Queue.{ListFilled}
use Rattle.carry.proofs.Rows.{take-replicate}
use Rattle.carry.proofs.Outcome.{refused-outcome, not-refused, new-whole, filled-outcome}
use Rattle.carry.proofs.carry.Goals as goal

pub returns-then-refusal-ne0 : goal.returns-then-refusal-ne0
returns-then-refusal-ne0 c = refused-outcome c.tables_refusal-refusal.ensures c.if-refusal-ne0.true (c.fill.ensures.after (search rules))

pub slice_bounds-states-end : goal.slice_bounds-states-end
slice_bounds-states-end c =
    let same : let a = c.args in
    OverSameStreams (given_table a.entries.now a.finals.now a.letters a.streams) (given_table a.new_entries.now a.new_finals.now a.new_letters a.new_streams) = not-refused c.tables_refusal-refusal.ensures c.if-refusal-ne0.false in
    let few : length c.args.finals.now ≤ most_rows = (same).old_fit.well_formed.whole.few_rows in
    few

pub slice_bounds-fill_list-end : goal.slice_bounds-fill_list-end
slice_bounds-fill_list-end c =
    let same : let a = c.args in
    OverSameStreams (given_table a.entries.now a.finals.now a.letters a.streams) (given_table a.new_entries.now a.new_finals.now a.new_letters a.new_streams) = not-refused c.tables_refusal-refusal.ensures c.if-refusal-ne0.false in
    let few : length c.args.finals.now ≤ most_rows = (same).old_fit.well_formed.whole.few_rows in
    let states-none : let n = length c.args.finals.now in take n (replicate most_rows no_state) ≡ replicate n no_state = take-replicate (length c.args.finals.now) most_rows no_state (few) in
    let states-long : let n = length c.args.finals.now in length (take n (replicate most_rows no_state)) ≡ n = ap length (states-none) ∙ length-replicate (length c.args.finals.now) no_state in
    sym (states-long)

pub fill_list-requires : goal.fill_list-requires
fill_list-requires c =
    let same : let a = c.args in
    OverSameStreams (given_table a.entries.now a.finals.now a.letters a.streams) (given_table a.new_entries.now a.new_finals.now a.new_letters a.new_streams) = not-refused c.tables_refusal-refusal.ensures c.if-refusal-ne0.false in
    let few : length c.args.finals.now ≤ most_rows = (same).old_fit.well_formed.whole.few_rows in
    let states-none : let n = length c.args.finals.now in take n (replicate most_rows no_state) ≡ replicate n no_state = take-replicate (length c.args.finals.now) most_rows no_state (few) in
    let states-long : let n = length c.args.finals.now in length (take n (replicate most_rows no_state)) ≡ n = ap length (states-none) ∙ length-replicate (length c.args.finals.now) no_state in
    let start = c in
    let s = same in
    let long = states-long in
    record {
      whole_table = subst (λ n. WholeTable start.args.letters n start.args.entries.now) (sym long) s.old_fit.well_formed.whole;
      by_index = ((length start.args.new_finals.now, new-whole s), states-none ∙ ap (λ n. replicate n no_state) (sym long), zeroed (c.fill.ensures.after (search rules)) (sym c.fill.auto.self));
    }

pub returns : goal.returns
returns c =
    let same : let a = c.args in
    OverSameStreams (given_table a.entries.now a.finals.now a.letters a.streams) (given_table a.new_entries.now a.new_finals.now a.new_letters a.new_streams) = not-refused c.tables_refusal-refusal.ensures c.if-refusal-ne0.false in
    let few : length c.args.finals.now ≤ most_rows = (same).old_fit.well_formed.whole.few_rows in
    let states-none : let n = length c.args.finals.now in take n (replicate most_rows no_state) ≡ replicate n no_state = take-replicate (length c.args.finals.now) most_rows no_state (few) in
    let states-long : let n = length c.args.finals.now in length (take n (replicate most_rows no_state)) ≡ n = ap length (states-none) ∙ length-replicate (length c.args.finals.now) no_state in
    let start = c in
    let answer = c.fill_list in
    let list = answer.new.list in
    filled-outcome (same)
    (subst (λ n. ListFilled start.args.letters start.args.entries.now start.args.new_entries.now n (length start.args.list.now) answer.result list) (states-long)
    (subst (λ m. ListFilled start.args.letters start.args.entries.now start.args.new_entries.now (length (take (length start.args.finals.now) (replicate most_rows no_state))) m answer.result list)
    c.fill.auto.self answer.ensures))
