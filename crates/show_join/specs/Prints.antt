-- What `join` prints for the bytes of two sheets (document 02, S-9).
use Rattle.std.specs.Prelude.{ℕ, ◌*◌, ◌<◌, ◌≡◌, List, [], ◌∷◌}
use Rattle.meaning.specs.Expression.{Sheet}
use Rattle.meaning.specs.Letter.{letter_count}
use Rattle.outcome.specs.Room.{LentTable, zero_tables}
use Rattle.outcome.specs.Compile.{CompileAnswer, Room, Tables}
use Rattle.lend.specs.Lend.{rows_lent, CompiledLent, RefusedLent}
use Rattle.print.specs.Text.{refusal_line}
use Rattle.table_text.specs.Table.{printed}
use Rattle.given_tables.specs.Given.{GivenTable}
use Rattle.join_tables.specs.Outcome.{river_streams, JoinOutcome}
use Rattle.join_tables.specs.declared.JoinAnswer.{JoinAnswer}
use Rattle.opened_tables.specs.Used.{compiled_given}

-- Tables with room for so many entries and final bytes, and seven work tables for so many rows, each with one number a row.
abbrev pub join_room_of_rows : (entries finals rows : ℕ) → Room
join_room_of_rows entries finals rows =
    let one : LentTable = record { per_row = 1; size = rows } in
    record { entries = entries; finals = finals; work = one ∷ (one ∷ (one ∷ (one ∷ (one ∷ (one ∷ (one ∷ [])))))) }

-- "`join`'s table": the rows that `sluice` would lend for the joined letters.
abbrev pub join_lent_room : ℕ → Room
join_lent_room letters = join_room_of_rows (rows_lent letters * letters) (rows_lent letters) (rows_lent letters)

-- Entries and final bytes, with the work tables of so many rows, which are zero after every call.
abbrev pub join_tables_of_rows : ℕ → (entries finals : List ℕ) → Tables
join_tables_of_rows rows entries finals = record { entries = entries; finals = finals; work = zero_tables (join_room_of_rows 0 0 rows).work }

-- A join of two tables in the rows lent for the joined letters gave this answer and left these tables.
abbrev pub JoinedLent : GivenTable → GivenTable → JoinAnswer → Tables → Type 0
JoinedLent a b r u = JoinOutcome a b (join_lent_room (letter_count (river_streams a b))) r u

-- What is printed of two tables: the refusal of their join, or "`sluice`'s output for the joined table".
pub data PrintsTables (a b : GivenTable) : List ℕ → Type 0 where
  turned_away : {r : JoinAnswer} {u : Tables} → JoinedLent a b r u → 0 < r.refusal → PrintsTables a b (refusal_line r.refusal)
  joined : {r : JoinAnswer} {u : Tables} → JoinedLent a b r u → r.refusal ≡ 0 → PrintsTables a b (printed (river_streams a b) r.states u.entries u.finals)

-- The first sheet's refusal comes first, then the second's, then that of the join. Each sheet is compiled in the rows that `sluice` lends, and its used rows are
-- given to the join.
pub data PrintsJoin (first_text second_text : List ℕ) : List ℕ → Type 0 where
  refused_first : {n : ℕ} → RefusedLent first_text n → PrintsJoin first_text second_text (refusal_line n)
  refused_second : {s : Sheet} {a : CompileAnswer} {t : Tables} {n : ℕ} → CompiledLent first_text s a t → a.refusal ≡ 0 → RefusedLent second_text n → PrintsJoin first_text second_text (refusal_line n)
  together : {s : Sheet} {a : CompileAnswer} {t : Tables} {q : Sheet} {b : CompileAnswer} {u : Tables} {bytes : List ℕ} → CompiledLent first_text s a t → a.refusal ≡ 0
      → CompiledLent second_text q b u → b.refusal ≡ 0 → PrintsTables (compiled_given s a t) (compiled_given q b u) bytes → PrintsJoin first_text second_text bytes

-- There is an outcome.
pub record HasJoinOutput (first_text second_text : List ℕ) : Type 0 where
  pub bytes : List ℕ
  pub prints : PrintsJoin first_text second_text bytes
