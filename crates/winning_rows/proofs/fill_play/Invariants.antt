-- `winning_rows::fill_play` meets its contract: the rows before `row` are played.
use Rattle.std.proofs.Common.{ℕ, length}
use Rattle.winning_rows.specs.Sweeps.{lent_game}
use Rattle.winning_rows.proofs.Filling.{PlayedRows}
use Rattle.winning_rows.proofs.fill_play.Given as goal

abbrev pub invariant-loop-row : goal.invariant-loop-row
invariant-loop-row l = (final : ℕ → ℕ) → PlayedRows (lent_game l.entries l.choice l.choices (length l.ranks) final) l.ranks l.play l.row
