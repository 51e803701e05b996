-- `counting::first_counts` meets its contract: the rows passed have their counts for no letter (Figures).
use Rattle.counting.specs.Counting.{any_state, has_final_byte}
use native.Mathlib.Omega.{arith}
use Rattle.counting.proofs.Figures.{first-held}
use Rattle.counting.proofs.first_counts.Goals as goal

pub returns : goal.returns
returns c =
    λ k entries.
    let finals = c.args.finals.now in
    let loop = c.loop-row in (
      first-held k entries finals loop.counts any_state (omega (arith, loop.auto.counts, c.requires.0)) (λ j l. loop.invariant.0 j (omega arith)),
      first-held k entries finals loop.final_counts (has_final_byte finals) (omega (arith, loop.auto.final_counts, c.requires.1)) (λ j l. loop.invariant.1 j (omega arith)),
    )
