-- `normal::range_before` meets its contract: the range of the node before the end, or none where there is no such node.
use Prim.Native.Nat.{ℕ, suc, ◌-◌}
use native.Mathlib.Omega.{arith}
use mathlib.Core.Path.{◌≡◌, sym, ◌∙◌, ap}
use Rattle.nodes.specs.Evaluate.{stored}
use Rattle.std.specs.Prelude.{Option}
use Rattle.nodes.specs.declared.Range.{Range}
use Rattle.nodes.specs.declared.Summary.{Summary}
use Rattle.normal.specs.Stored.{range_before}
use Rattle.normal.proofs.range_before.Goals as goal

pub returns-then-end-eq0 : goal.returns-then-end-eq0
returns-then-end-eq0 c = sym (ap (range c) c.if-end-eq0.true)
  where
    range : goal.Then-end-eq0 → ℕ → Option Range
    range c = let a = c.args in range_before (stored a.kinds.now a.values.now a.starts.now) a.lows.now a.highs.now

pub returns : goal.returns
returns c =
    let a = c.args in
    let range = range_before (stored a.kinds.now a.values.now a.starts.now) a.lows.now a.highs.now in
    let s : suc (a.end - 1) ≡ a.end = omega (arith, c.if-end-eq0.false) in
    ap (λ (x : Summary). x.range) c.summary.ensures ∙ ap range s
