-- What `migrate` prints for the bytes of an old and of a new sheet (document 02, S-10).
use Rattle.std.specs.Prelude.{ℕ, ◌≡◌, ◌≢◌, List, length}
use Rattle.meaning.specs.Expression.{Sheet}
use Rattle.meaning.specs.Letter.{letter_count}
use Rattle.automaton.specs.Stored.{entry_at}
use Rattle.outcome.specs.Compile.{CompileAnswer, Tables}
use Rattle.lend.specs.Lend.{CompiledLent, RefusedLent}
use Rattle.print.specs.Text.{refusal_line}
use Rattle.theorems.specs.UsedRows.{used_entries}
use Rattle.carry.specs.Carry.{LacksState, AreCarried}
use Rattle.migration_text.specs.Migration.{migration_text}

-- The entries of the used rows of a compile.
abbrev pub used_entry : Sheet → CompileAnswer → Tables → ℕ → ℕ → ℕ
used_entry s a t = entry_at (letter_count s.streams) (used_entries s a t)

-- Of the tables of two compiled sheets: "17 for streams of another name, place, range or kind; then 18 for an old state with no such new state", or "for
-- each old state the new state to go on from".
pub data PrintsStates (s : Sheet) (a : CompileAnswer) (t : Tables) (s' : Sheet) (a' : CompileAnswer) (t' : Tables) : List ℕ → Type 0 where
  other_streams : s.streams ≢ s'.streams → PrintsStates s a t s' a' t' (refusal_line 17)
  lacking : s.streams ≡ s'.streams → LacksState (letter_count s.streams) (used_entry s a t) (used_entry s' a' t') → PrintsStates s a t s' a' t' (refusal_line 18)
  migrated : {states : List ℕ} → s.streams ≡ s'.streams → length states ≡ a.states → AreCarried (letter_count s.streams) (used_entry s a t) (used_entry s' a' t') states
      → PrintsStates s a t s' a' t' (migration_text states)

-- The old sheet's refusal comes first, then the new one's. Each sheet is compiled in the rows that `sluice` lends.
pub data PrintsMigration (old_text new_text : List ℕ) : List ℕ → Type 0 where
  refused_old : {n : ℕ} → RefusedLent old_text n → PrintsMigration old_text new_text (refusal_line n)
  refused_new : {s : Sheet} {a : CompileAnswer} {t : Tables} {n : ℕ} → CompiledLent old_text s a t → a.refusal ≡ 0 → RefusedLent new_text n
      → PrintsMigration old_text new_text (refusal_line n)
  compared : {s : Sheet} {a : CompileAnswer} {t : Tables} {s' : Sheet} {a' : CompileAnswer} {t' : Tables} {bytes : List ℕ} → CompiledLent old_text s a t → a.refusal ≡ 0
      → CompiledLent new_text s' a' t' → a'.refusal ≡ 0 → PrintsStates s a t s' a' t' bytes → PrintsMigration old_text new_text bytes

-- There is an outcome.
pub record HasMigrationOutput (old_text new_text : List ℕ) : Type 0 where
  pub bytes : List ℕ
  pub prints : PrintsMigration old_text new_text bytes
