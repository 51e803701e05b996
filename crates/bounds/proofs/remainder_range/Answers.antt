-- `bounds::remainder_range` meets its contract: each end by its test.
use mathlib.Core.Path.{refl, ◌∙◌, ap₂}
use mir.Syntax.{w64}
use mir.Val.{to_z}
use Rattle.nodes.specs.Bounds.{range_within}
use Rattle.bounds.proofs.Ranges.{low-zero, low-bound, high_zero, high-bound}
use mathlib.Core.Path.{◌≡◌}
use Rattle.meaning.specs.Arithmetic.{remainder_interval}
use Rattle.nodes.specs.Bounds.{interval_of}
use Rattle.bounds.proofs.remainder_range.Goals as goal
use Rattle.bounds.proofs.remainder_range.Goals.{then-a-ge0, else-a-ge0, then-a-le0, else-a-le0}

pub returns : goal.returns
returns c =
    let s = c in
    let e = c.remainder_bound-bound.ensures in
    let low : to_z w64 c.if-a-ge0.low-bits ≡ (remainder_interval (interval_of s.args.a) (interval_of s.args.b)).low =
    elim c.if-a-ge0.branch [
      | then-a-ge0 w ↦ w.low-is ∙ low-zero s.args.a s.args.b s.requires.0 s.requires.1 e refl w.if-a-ge0.true
      | else-a-ge0 w ↦ w.low-is ∙ low-bound s.args.a s.args.b s.requires.0 s.requires.1 e refl w.if-a-ge0.false
    ] in
    let high : to_z w64 c.if-a-le0.high-bits ≡ (remainder_interval (interval_of s.args.a) (interval_of s.args.b)).high =
    elim c.if-a-le0.branch [
      | then-a-le0 w ↦ w.high-is ∙ high_zero s.args.a s.args.b s.requires.0 s.requires.1 e refl w.if-a-le0.true
      | else-a-le0 w ↦ w.high-is ∙ high-bound s.args.a s.args.b s.requires.0 s.requires.1 e refl w.if-a-le0.false
    ] in
    c.range_within.ensures ∙ ap₂ (λ x y. range_within (record { low = x; high = y })) low high
