-- `answered` meets its contract, by its test.
use Prim.Native.Nat.{min}
use mathlib.Core.Path.{sym, ◌∙◌, ap}
use mathlib.Core.Bool.{cond}
use borrow.Author.Tests.{eq-eqb, ne_eqb}
use Rattle.outcome.specs.Compile.{situation_bound}
use Rattle.pair_outcome.specs.Outcome.{pair_answer}
use Rattle.join_tables.specs.Outcome.{refused_join, told_by}
use Rattle.join_tables.proofs.answered.Goals as goal

pub returns-then-refusal-eq0 : goal.returns-then-refusal-eq0
returns-then-refusal-eq0 c =
    let a = c.args in
    c.made.ensures ∙ sym (ap (λ b. cond b (told_by (pair_answer a.rows (min a.pairs situation_bound) a.table) a.streams) (refused_join a.refusal)) (eq-eqb a.refusal 0 c.if-refusal-eq0.true))

pub returns-else-refusal-eq0 : goal.returns-else-refusal-eq0
returns-else-refusal-eq0 c =
    let a = c.args in
    c.refused.ensures ∙ sym (ap (λ b. cond b (told_by (pair_answer a.rows (min a.pairs situation_bound) a.table) a.streams) (refused_join a.refusal)) (ne_eqb a.refusal 0 c.if-refusal-eq0.false))
