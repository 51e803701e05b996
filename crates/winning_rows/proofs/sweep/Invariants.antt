-- `winning_rows::sweep` meets its contract: the first `i` rows of the sweep are seen.
use Rattle.std.proofs.Common.{ℕ, ◌+◌, ◌≤◌, length}
use Rattle.winning_rows.specs.Sweeps.{lent_game, RowsSwept}
use Rattle.winning_rows.proofs.Sweeping.{SeenIn}
use Rattle.winning_rows.proofs.sweep.Given as goal

abbrev pub invariant-loop-i : goal.invariant-loop-i
invariant-loop-i l = (l.next ≤ l.first + l.i) × ((final : ℕ → ℕ) → RowsSwept (lent_game l.entries l.choice (length l.initial.answers) (length l.initial.ranks) final) l.to (SeenIn l.down (length l.initial.ranks) l.i) l.initial.ranks l.first l.ranks l.next)
