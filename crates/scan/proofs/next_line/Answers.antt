-- `scan::next_line` meets its contract: no byte before the loop's place ends a line.
use mathlib.Core.Path.{sym, subst}
use mathlib.Core.Bool.{not}
use native.Mathlib.Omega.{arith}
use lib.Dec.{T}
use lib.ListN.{get_or}
use borrow.Author.Tests.{ne_eqb}
use Rattle.text.specs.Token.{all_bytes}
use Rattle.text.proofs.Bytes.{is_of_line}
use Rattle.scan.specs.Place.{between}
use Rattle.scan.proofs.Tokens.{between_none, between-last, all_bytes-snoc}
use Rattle.scan.proofs.Lines.{line-ended, line-last}
use Rattle.scan.proofs.next_line.Goals as goal

pub loop-i-init : goal.loop-i-init
loop-i-init c = (omega arith, (λ h. omega arith), subst (λ l. T (all_bytes is_of_line l)) (sym (between_none c.args.text.now c.args.at)) tt)

pub returns-then-text-i-eq10 : goal.returns-then-text-i-eq10
returns-then-text-i-eq10 c = line-ended c.args.text.now c.args.at c.loop-i.i c.loop-i.invariant.0 c.loop-i.invariant.2 c.loop-i-test.true c.if-text-i-eq10.true

pub loop-i-preserved : goal.loop-i-preserved
loop-i-preserved c =
    let text = c.args.text.now in
    let at = c.args.at in
    let i = c.loop-i.i in
    let word = between-last text at i c.loop-i.invariant.0 c.loop-i-test.true in
    let other : T (is_of_line (get_or text i 0)) = subst (λ b. T (not b)) (sym (ne_eqb (get_or text i 0) 10 c.if-text-i-eq10.false)) tt in
    (omega arith, (λ h. omega arith), subst (λ l. T (all_bytes is_of_line l)) (sym word) (all_bytes-snoc is_of_line (between text at i) (get_or text i 0) c.loop-i.invariant.2 other))

pub returns : goal.returns
returns c = line-last c.args.text.now c.args.at c.loop-i.i c.loop-i.invariant.0 c.loop-i.invariant.2 c.loop-i-test.false c.loop-i.invariant.1
