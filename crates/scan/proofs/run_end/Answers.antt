-- `scan::run_end` meets its contract: all bytes from `at` to before the loop's place are inside.
use mathlib.Core.Path.{◌≡◌, sym, ap, subst, ◌∙◌}
use native.Mathlib.Omega.{arith}
use lib.Dec.{T}
use lib.ListN.{length, get_or}
use Rattle.text.specs.Bytes.{is_inside, starts_inside}
use Rattle.text.specs.Token.{all_bytes}
use Rattle.scan.specs.Place.{between}
use Rattle.scan.proofs.Tokens.{between-last, between_none, drop_at, drop-end, all_bytes-snoc}
use Rattle.scan.proofs.run_end.Goals as goal

pub loop-i-init : goal.loop-i-init
loop-i-init c = (omega arith, c.requires, subst (λ l. T (all_bytes is_inside l)) (sym (between_none c.args.text.now c.args.at)) tt)

pub returns-then-not-is_inside : goal.returns-then-not-is_inside
returns-then-not-is_inside c =
    record {
      forward = c.loop-i.invariant.0;
      within = c.loop-i.invariant.1;
      inside = c.loop-i.invariant.2;
      ended = ap starts_inside (drop_at c.args.text.now c.loop-i.i c.loop-i-test.true) ∙ sym c.is_inside.ensures ∙ c.if-not-is_inside.true;
    }

pub loop-i-preserved : goal.loop-i-preserved
loop-i-preserved c =
    let text = c.args.text.now in
    let at = c.args.at in
    let i = c.loop-i.i in
    let word = between-last text at i c.loop-i.invariant.0 c.loop-i-test.true in
    let inside : T (is_inside (get_or text i 0)) = subst T c.is_inside.ensures (subst T (sym c.if-not-is_inside.false) tt) in
    (omega arith, omega arith, subst (λ l. T (all_bytes is_inside l)) (sym word) (all_bytes-snoc is_inside (between text at i) (get_or text i 0) c.loop-i.invariant.2 inside))

pub returns : goal.returns
returns c =
    let e = drop-end c.args.text.now in
    let there : c.loop-i.i ≡ length c.args.text.now = omega arith in
    record {
      forward = omega arith;
      within = omega arith;
      inside = subst (λ n. T (all_bytes is_inside (between c.args.text.now c.args.at n))) there c.loop-i.invariant.2;
      ended = ap starts_inside e;
    }
