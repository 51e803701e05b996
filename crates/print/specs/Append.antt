-- Text that is written to the front of lent bytes, piece by piece.
use Rattle.std.specs.Prelude.{ℕ, suc, ◌+◌, ◌≤◌, ◌<◌, ◌≡◌, List, length}
use Rattle.std.proofs.lemmas.List.Edits.{sets}

-- The text is written from a place on, and r is the place after it; where it has no room, r is one more than the length and what the bytes
-- are then is left open.
pub record Appends (at : ℕ) (text out out' : List ℕ) (r : ℕ) : Type 0 where
  pub same_length : length out' ≡ length out
  pub written : at + length text ≤ length out → (out' ≡ sets out at text) × (r ≡ at + length text)
  pub no_room : length out < at + length text → r ≡ suc (length out)
