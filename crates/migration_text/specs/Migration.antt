-- What `migrate` prints of the states to go on from (document 02, S-10: "give for each old state the new state to go on from"): `old new`, then a line for
-- each old state with the new one.
use Rattle.std.specs.Prelude.{ℕ, suc, ◌≤◌, ◌≡◌, cond, List, [], ◌∷◌, ◌++◌, eqb, pos, length}
use Rattle.std.proofs.lemmas.List.Edits.{sets}
use Rattle.text.specs.Bytes.{bytes_of}
use Rattle.print.specs.Text.{decimal, line, refusal_line}

abbrev pub migration_heading : List ℕ
migration_heading = line (bytes_of "old" ∷ []) (bytes_of "new")

-- An old state with the new one.
abbrev pub migration_line : ℕ → ℕ → List ℕ
migration_line old new = line (decimal (pos old) ∷ []) (decimal (pos new))

-- The lines of old states from a number on, each with its new state.
unfoldable pub migrated_from : ℕ → List ℕ → List ℕ
migrated_from old [] = []
migrated_from old (new ∷ rest) = migration_line old new ++ migrated_from (suc old) rest

abbrev pub migration_text : List ℕ → List ℕ
migration_text states = migration_heading ++ migrated_from 0 states

-- All that is printed: the states, or, with a refusal's number, which is not 0, the line of the refusal alone.
unfoldable pub migration_output : (refusal : ℕ) (states : List ℕ) → List ℕ
migration_output refusal states = cond (eqb refusal 0) (migration_text states) (refusal_line refusal)

-- ---- the text in lent bytes

-- The most states that a program's table has.
abbrev pub most_states : ℕ
most_states = 256

-- Room for the text of so many states.
abbrev pub text_room : ℕ
text_room = 4096

-- The text has room in the bytes and stands at their front, what stood behind it stays, and r is its length.
pub record Writes (text out out' : List ℕ) (r : ℕ) : Type 0 where
  pub fits : length text ≤ length out
  pub bytes : out' ≡ sets out 0 text
  pub size : r ≡ length text
