-- Brackets among bytes.
use Rattle.std.specs.Prelude.{ℕ, ◌≤◌, ◌<◌, ◌≡◌, List, length, take, get_or}
use Rattle.sheet.specs.Refusal.{occurrences}

-- "the text between two brackets": among the bytes after an opening bracket this place is its partner.
pub record BytePartner (l : List ℕ) (place : ℕ) : Type 0 where
  pub inside : place < length l
  pub closing : get_or l place 0 ≡ 41
  pub equal : occurrences 40 (take place l) ≡ occurrences 41 (take place l)
  pub before : (n : ℕ) → n ≤ place → occurrences 41 (take n l) ≤ occurrences 40 (take n l)
