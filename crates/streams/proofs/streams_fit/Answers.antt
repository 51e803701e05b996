-- `streams::streams_fit` meets its contract: the streams are tested one by one, and their letters are counted.
use Prim.Native.Nat.{◌≤◌}
use native.Mathlib.Omega.{arith}
use mathlib.Core.Path.{◌≡◌}
use lib.ListN.{length}
use borrow.Author.Rules.{rules}
use borrow.Author.Tests.{eqb-true, eqb-false}
use Rattle.basics.proofs.Answers.{says_yes, says_no, says_either}
use Rattle.streams.proofs.Fit.{no_streams, many-streams, each-not, letters-fit, letters-unfit}
use Rattle.streams.proofs.streams_fit.Goals as goal
use Rattle.streams.proofs.streams_fit.Goals.{then-count-eq0-via-then-count-eq0, then-count-eq0-via-else-count-eq0+then-count-gt8, then-count-eq0-via-else-count-eq0+else-count-gt8+then-letters-gt-MOST_LETTERS, then-count-eq0-via-else-count-eq0+else-count-gt8+else-letters-gt-MOST_LETTERS+then-not-each_fits}

pub returns-then-count-eq0 : goal.returns-then-count-eq0
returns-then-count-eq0 c = elim c.then-count-eq0.branch [
  | then-count-eq0-via-then-count-eq0 w ↦ no_streams c.args.streams w.if-count-eq0.true
  | then-count-eq0-via-else-count-eq0+then-count-gt8 w ↦ many-streams c.args.streams w.if-count-gt8.true
  | then-count-eq0-via-else-count-eq0+else-count-gt8+then-letters-gt-MOST_LETTERS w ↦ λ f. let few = f.few_letters in omega arith
  | then-count-eq0-via-else-count-eq0+else-count-gt8+else-letters-gt-MOST_LETTERS+then-not-each_fits w ↦ each-not c.args.streams (says_no {b = w.each_fits.result} w.if-not-each_fits.true w.each_fits.ensures)
]

pub returns : goal.returns
returns c =
    let lows-long : length c.args.streams.lows ≡ 8 = search rules in
    let highs-long : length c.args.streams.highs ≡ 8 = search rules in
    let bounded : c.args.letters ≤ 1024 = omega arith in
    let each = says_yes {b = c.each_fits.result} c.if-not-each_fits.false c.each_fits.ensures in
    says_either _ (λ e. letters-fit c.args.streams lows-long highs-long c.if-count-eq0.false c.if-count-gt8.false bounded each c.letter_count.ensures (eqb-true _ _ e))
    (λ e. letters-unfit c.args.streams lows-long highs-long c.if-count-eq0.false c.if-count-gt8.false bounded each c.letter_count.ensures (eqb-false _ _ e))
