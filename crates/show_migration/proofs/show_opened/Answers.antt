-- What is found of both tables is printed (Printing).
use Rattle.std.proofs.Common.{length, take, sym, ap, subst, ◌∙◌, arith, length-take-le}
use lib.Seq.{take_all}
use Rattle.output.specs.Output.{Hands}
use Rattle.migration_text.specs.Migration.{most_states, migration_output}
use Rattle.opening.proofs.Sizes.{opened-sizes}
use Rattle.show_migration.proofs.Printing.{finds_prints}
use Rattle.show_migration.proofs.show_opened.Goals as goal

pub find_states-refusal-requires : goal.find_states-refusal-requires
find_states-refusal-requires g c = let sizes = opened-sizes c.open_table-opened.ensures in (c.requires.0, c.requires.1, sizes.0, sizes.1)

pub returns : goal.returns
returns g c =
    let states = c.find_states-refusal in
    let list = states.new.list in
    let rows = c.used_rows-rows in
    let few = length-take-le rows.result list (omega (arith, rows.ensures, states.auto.list)) in
    let all = length-take-le rows.result c.args.finals.now (omega (arith, rows.ensures, c.requires.1)) in
    let same = take_all most_states (take rows.result list) (omega (arith, few, rows.ensures)) ∙ ap (λ n. take n list) (sym all ∙ ap (λ n. length (take n c.args.finals.now)) rows.ensures) in
    record {
      bytes = _;
      prints = finds_prints c.open_table-opened.ensures states.ensures;
      hands = subst (λ b. Hands b c.write_states.result.size c.write_states.result.whole) (ap (migration_output states.result) same) c.write_states.ensures;
    }
