-- The refusals with which the tables were opened, or what is printed of their used rows.
use Rattle.std.proofs.Common.{take}
use mathlib.Core.Path.{transport}
use Rattle.given_tables.specs.Given.{given_table}
use Rattle.show_join.specs.Prints.{PrintsTables}
use Rattle.show_join.specs.Shows.{first_is, second_is, both}
use Rattle.show_join.proofs.show_both.Goals as goal

pub returns-then-first-ne0 : goal.returns-then-first-ne0
returns-then-first-ne0 g c = record { bytes = _; prints = first_is c.if-first-ne0.true; hands = c.write_refusal.ensures }

pub returns : goal.returns
returns g c =
    let a = c.args in
    let shown = c.show_tables.ensures in
    let rows = c.used_rows-rows.ensures in
    let used = c.used_entries-used.ensures in
    let streams = c.stored_streams.ensures in
    let second-rows = c.used_rows-second_rows.ensures in
    let second-used = c.used_entries-second_used.ensures in
    let second-streams = c.stored_streams-2.ensures in
    record {
      bytes = shown.bytes;
      prints = both c.if-first-ne0.false c.if-second-ne0.false
          (transport (λ i. PrintsTables (given_table (take (used i) a.entries.now) (take (rows i) a.finals.now) a.first.sheet.letters (streams i)) (given_table (take (second-used i) a.second_entries.now) (take (second-rows i) a.second_finals.now) a.second.sheet.letters (second-streams i)) shown.bytes)
          shown.prints);
      hands = shown.hands;
    }

pub returns-then-second-ne0 : goal.returns-then-second-ne0
returns-then-second-ne0 g c = record { bytes = _; prints = second_is c.if-first-ne0.false c.if-second-ne0.true; hands = c.write_refusal-then-second-ne0.ensures }
