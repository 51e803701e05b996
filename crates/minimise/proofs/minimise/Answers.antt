-- `minimise::minimise` meets its contract: what the passes leave is cleared beyond the used rows, and every work table is cleared.
use mathlib.Core.Path.{refl, ap₂}
use mathlib.Core.List.{◌∷◌}
use native.Mathlib.Omega.{arith}
use Rattle.basics.proofs.Clearing.{zeroed}
use Rattle.minimise.proofs.Outcome.{ran_fits, ran_outcome}
use Rattle.minimise.proofs.minimise.Goals as goal

pub overflow_mul-states : goal.overflow_mul-states
overflow_mul-states c = omega (arith, (ran_fits c.run-answer.ensures).0, c.well_formed)

pub returns : goal.returns
returns c =
    let run = c.run-answer in
    let clear = c.clear_tables.ensures in
    ran_outcome run.ensures run.auto.entries run.auto.flags clear.entries_beyond clear.flags_beyond
    (ap₂ ◌∷◌ (zeroed clear.live_zero run.auto.live) (ap₂ ◌∷◌ (zeroed clear.class_zero run.auto.class) (ap₂ ◌∷◌ (zeroed clear.next_zero run.auto.next) (ap₂ ◌∷◌ (zeroed clear.heads_zero run.auto.heads) (ap₂ ◌∷◌ (zeroed clear.links_zero run.auto.links) (ap₂ ◌∷◌ (zeroed clear.envelopes_zero run.auto.envelopes) refl))))))
