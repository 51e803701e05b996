-- `letters_of` meets its contract, by its test.
use mathlib.Core.Path.{sym, ap}
use mathlib.Core.Bool.{cond}
use borrow.Author.Tests.{eq-eqb, ne_eqb}
use Rattle.join_tables.proofs.letters_of.Goals as goal

pub returns-then-refusal-eq0 : goal.returns-then-refusal-eq0
returns-then-refusal-eq0 c = let a = c.args in sym (ap (λ b. cond b a.streams.letters 0) (eq-eqb a.refusal 0 c.if-refusal-eq0.true))

pub returns-else-refusal-eq0 : goal.returns-else-refusal-eq0
returns-else-refusal-eq0 c = let a = c.args in sym (ap (λ b. cond b a.streams.letters 0) (ne_eqb a.refusal 0 c.if-refusal-eq0.false))
