-- `migration_text::fill_text` meets its contract: the line of a refusal, or the heading and the lines of the states (Text).
use native.Mathlib.Omega.{arith}
use mathlib.Core.Path.{sym, ap, subst, ◌∙◌}
use lib.ListN.{take}
use lib.Seq.{length-take-le}
use Rattle.migration_text.specs.Migration.{most_states, migration_output, Writes}
use Rattle.migration_text.proofs.Text.{refused_writes, given_writes, take-fewer}
use Rattle.migration_text.proofs.fill_text.Goals as goal

pub returns-then-refusal-ne0 : goal.returns-then-refusal-ne0
returns-then-refusal-ne0 c = refused_writes (take most_states c.args.states.now) c.requires c.if-refusal-ne0.true (omega (arith, c.ranges.refusal)) c.refusal_line.ensures

pub slice_bounds-fill_lines-end : goal.slice_bounds-fill_lines-end
slice_bounds-fill_lines-end c = sym (length-take-le _ _ (omega (arith, c.min-count.ensures)))

pub fill_lines-requires : goal.fill_lines-requires
fill_lines-requires c =
    let start = c in
    let text = c.text-start in
    let count = c.min-count in (
      omega (arith, length-take-le count.result start.args.states.now (omega (arith, count.ensures)), count.ensures),
      text.auto.out ∙ start.requires,
      omega (arith, (text.ensures.written (omega (arith, start.requires))).1),
    )

pub returns : goal.returns
returns c =
    let start = c in
    let states = start.args.states.now in
    let count = c.min-count in
    let lines = c.fill_lines in
    subst (λ l. Writes (migration_output start.args.refusal l) start.args.out.now lines.new.out lines.result) (ap (λ n. take n states) count.ensures ∙ take-fewer most_states states)
    (given_writes (take count.result states) start.requires c.if-refusal-ne0.false c.text-start.ensures lines.ensures.0 lines.ensures.1)
