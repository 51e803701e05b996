-- `lowest_refusal::lowest_refusal` meets its contract, test by test.
use mathlib.Core.Path.{sym, ◌∙◌}
use Rattle.lowest_refusal.proofs.lowest_refusal.Goals as goal

pub returns-then-unknown : goal.returns-then-unknown
returns-then-unknown c = c.failed.ensures ∙ sym (simp c.if-unknown.true)

pub returns-then-faulty : goal.returns-then-faulty
returns-then-faulty c = c.failed-then-faulty.ensures ∙ sym (simp (c.if-unknown.false, c.if-faulty.true))

pub returns-then-not-bounded : goal.returns-then-not-bounded
returns-then-not-bounded c = c.failed-then-not-bounded.ensures ∙ sym (simp (c.if-unknown.false, c.if-faulty.false, c.if-not-bounded.true))

pub returns-then-counts_refused : goal.returns-then-counts_refused
returns-then-counts_refused c = c.failed-then-counts_refused.ensures ∙ sym (simp (c.if-unknown.false, c.if-faulty.false, c.if-not-bounded.false, sym c.counts_refused.ensures ∙ c.if-counts_refused.true))

pub returns : goal.returns
returns c = sym (simp (c.if-unknown.false, c.if-faulty.false, c.if-not-bounded.false, sym c.counts_refused.ensures ∙ c.if-counts_refused.false))
