-- `winning_rows::sweeps` meets its contract: each sweep that turns something leaves fewer rows to turn, and the last one shows that all rows are settled.
use Prim.Native.Nat.{ℕ}
use mathlib.Core.Path.{◌≡◌}
use lib.ListN.{length}
use Rattle.automaton.specs.Ranking.{RankTurns, states_left}
use Rattle.winning_rows.specs.Sweeps.{lent_game}
use Rattle.winning_rows.proofs.sweeps.Given as goal

abbrev pub invariant-loop-next : goal.invariant-loop-next
invariant-loop-next l = (length l.ranks ≡ length l.initial.ranks) × (length l.answers ≡ length l.initial.answers) × ((final : ℕ → ℕ) → RankTurns (lent_game l.entries l.choice (length l.initial.answers) (length l.initial.ranks) final) l.to l.initial.ranks 2 l.ranks l.next)

abbrev pub decreases-loop-next : goal.decreases-loop-next
decreases-loop-next l = states_left l.to l.ranks
