-- `scan::skip_between` meets its contract: the tokens from the loop's place on stay those from `at` on.
use mathlib.Core.Path.{refl, sym, ap, ◌∙◌}
use native.Mathlib.Omega.{arith}
use lib.ListN.{get_or}
use Rattle.text.specs.Bytes.{tokens}
use Rattle.scan.proofs.Tokens.{drop_past, tokens-pass, visible_inside, between-neither}
use Rattle.scan.proofs.skip_between.Goals as goal

pub loop-i-init : goal.loop-i-init
loop-i-init c = (omega arith, refl)

pub returns-then-is_visible : goal.returns-then-is_visible
returns-then-is_visible c =
    record {
      within = omega arith;
      forward = λ h. c.loop-i.invariant.0;
      same = c.loop-i.invariant.1;
      visible = λ h b. visible_inside (get_or c.args.text.now c.loop-i.i 0) (sym c.is_visible.ensures ∙ c.if-is_visible.true) b;
    }

pub loop-i-preserved : goal.loop-i-preserved
loop-i-preserved c = let neither = between-neither (get_or c.args.text.now c.loop-i.i 0) (sym c.is_visible.ensures ∙ c.if-is_visible.false) in (omega arith, c.loop-i.invariant.1 ∙ tokens-pass c.args.text.now c.loop-i.i c.loop-i-test.true (neither.0) (neither.1))

pub returns : goal.returns
returns c =
    record {
      within = omega arith;
      forward = λ h. absurd (omega arith);
      same = c.loop-i.invariant.1 ∙ ap tokens (drop_past c.args.text.now c.loop-i.i c.loop-i-test.false);
      visible = λ h b. absurd (omega arith);
    }
