-- What `show_join` gives back for the texts of two sheets, and what its parts do.
use Rattle.std.specs.Prelude.{ℕ, ◌≡◌, ◌≢◌, List}
use Rattle.meaning.specs.Expression.{Sheet}
use Rattle.outcome.specs.Compile.{CompileAnswer, Tables}
use Rattle.lend.specs.Lend.{CompiledLent, RefusedLent}
use Rattle.print.specs.Text.{refusal_line}
use Rattle.given_tables.specs.Given.{GivenTable}
use Rattle.opening.specs.declared.OpenedTable.{OpenedTable}
use Rattle.output.specs.Output.{Hands}
use Rattle.output.specs.declared.Handed.{Handed}
use Rattle.opened_tables.specs.Used.{opened_given, compiled_given}
use Rattle.show_join.specs.Prints.{PrintsTables, PrintsJoin}

-- How many of the bytes that are printed were taken by writes.
pub record Shows (Printed : List ℕ → Type 0) (r : Handed) : Type 0 where
  pub bytes : List ℕ
  pub prints : Printed bytes
  pub hands : Hands bytes r.size r.whole

-- What `join` prints for two sheets.
abbrev pub ShowsJoin : (first_text second_text : List ℕ) → Handed → Type 0
ShowsJoin first_text second_text = Shows (PrintsJoin first_text second_text)

-- ---- parts of a call

abbrev pub ShowsTables : GivenTable → GivenTable → Handed → Type 0
ShowsTables a b = Shows (PrintsTables a b)

-- The refusal with which the first or the second table was opened, or what is printed of both.
pub data PrintsBoth (first second : OpenedTable) (a b : GivenTable) : List ℕ → Type 0 where
  first_is : first.refusal ≢ 0 → PrintsBoth first second a b (refusal_line first.refusal)
  second_is : first.refusal ≡ 0 → second.refusal ≢ 0 → PrintsBoth first second a b (refusal_line second.refusal)
  both : {bytes : List ℕ} → first.refusal ≡ 0 → second.refusal ≡ 0 → PrintsTables a b bytes → PrintsBoth first second a b bytes

abbrev pub ShowsBoth : (first second : OpenedTable) (a b : GivenTable) → Handed → Type 0
ShowsBoth first second a b = Shows (PrintsBoth first second a b)

-- The same with the text of the second sheet.
pub data PrintsFrom (refusal : ℕ) (a : GivenTable) (second_text : List ℕ) : List ℕ → Type 0 where
  first_refused : refusal ≢ 0 → PrintsFrom refusal a second_text (refusal_line refusal)
  second_refused : {n : ℕ} → refusal ≡ 0 → RefusedLent second_text n → PrintsFrom refusal a second_text (refusal_line n)
  with_second : {q : Sheet} {b : CompileAnswer} {u : Tables} {bytes : List ℕ} → refusal ≡ 0 → CompiledLent second_text q b u → b.refusal ≡ 0 → PrintsTables a (compiled_given q b u) bytes
      → PrintsFrom refusal a second_text bytes

abbrev pub ShowsFrom : OpenedTable → (entries finals second_text : List ℕ) → Handed → Type 0
ShowsFrom first entries finals second_text = Shows (PrintsFrom first.refusal (opened_given first entries finals) second_text)
