-- `bounds::summary` meets its contract: the tests are those of the definition, and the rest is the recursion.
use mathlib.Core.Path.{◌∙◌}
use Rattle.nodes.specs.Evaluate.{stored}
use Rattle.bounds.proofs.Recursion.{no_kind, no_stored, no_start, root_summary}
use Rattle.bounds.proofs.summary.Goals as goal
use Rattle.bounds.proofs.summary.Goals.{then-kinds-root-via-then-kinds-root, then-kinds-root-via-else-kinds-root+then-values-root, then-kinds-root-via-else-kinds-root+else-values-root+then-starts-root}

pub returns : goal.returns
returns c = let s = c in c.summary_before.ensures ∙ root_summary (stored s.args.kinds.now s.args.values.now s.args.starts.now) s.args.lows.now s.args.highs.now s.args.root c.if-kinds-root.false c.if-values-root.false c.if-starts-root.false

pub returns-then-kinds-root : goal.returns-then-kinds-root
returns-then-kinds-root c =
    let a = c.args in
    let parts = stored a.kinds.now a.values.now a.starts.now in
    c.no_summary.ensures
    ∙ (elim c.then-kinds-root.branch [
      | then-kinds-root-via-then-kinds-root w ↦ no_kind parts a.lows.now a.highs.now a.root w.if-kinds-root.true
      | then-kinds-root-via-else-kinds-root+then-values-root w ↦ no_stored parts a.lows.now a.highs.now a.root w.if-kinds-root.false w.if-values-root.true
      | then-kinds-root-via-else-kinds-root+else-values-root+then-starts-root w ↦ no_start parts a.lows.now a.highs.now a.root w.if-kinds-root.false w.if-values-root.false w.if-starts-root.true
    ])
