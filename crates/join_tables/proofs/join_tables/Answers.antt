-- `join_tables` meets its contract: what its calls give is the outcome (Calls).
use mathlib.Core.Path.{sym, subst}
use Rattle.given_tables.specs.Given.{GivenTable, given_table}
use Rattle.pair_outcome.specs.Outcome.{join_room}
use Rattle.join_tables.proofs.Calls.{TablesJudged, tables-judged, joined-outcome}
use Rattle.join_tables.proofs.join_tables.Goals as goal

pub returns : goal.returns
returns c =
    let d = c in
    let args = d.args in
    let left : GivenTable = given_table args.left_entries.now args.left_finals.now args.left_letters args.left_streams in
    let right : GivenTable = given_table args.right_entries.now args.right_finals.now args.right_letters args.right_streams in
    let room = join_room args.entries.now args.finals.now args.keys.now args.live.now args.class.now args.next.now args.heads.now args.links.now args.envelopes.now in
    let streams = d.join_streams-streams in
    let fit = d.well_formed-fit in
    let judged = subst (TablesJudged left right room streams.result) (sym d.first_refusal-refusal.ensures) (tables-judged {a = left} {b = right} {room = room} {s = streams.result} fit.result fit.ensures streams.ensures) in
    joined-outcome args.entries.now args.finals.now args.keys.now args.live.now args.class.now args.next.now args.heads.now args.links.now args.envelopes.now judged d.letters_of-letters.ensures d.rows_lent-rows.ensures c.most_situations.ensures
    c.find_pairs-pairs.auto.entries c.find_pairs-pairs.auto.flags c.find_pairs-pairs.auto.heads c.find_pairs-pairs.auto.links c.find_pairs-pairs.ensures c.minimise-table.ensures c.answered.ensures
