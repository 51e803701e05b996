-- What `sluice` prints for a text, and what `show` gives back (document 01, "a program `sluice` that reads a sheet from standard input and prints its
-- table").
use Rattle.std.specs.Prelude.{ℕ, min, ◌≡◌, List, take}
use Rattle.meaning.specs.Expression.{Sheet}
use Rattle.reader.specs.declared.StoredSheet.{StoredSheet}
use Rattle.outcome.specs.Compile.{CompileAnswer, Tables}
use Rattle.lend.specs.Lend.{CompiledLent, RefusedLent, LentCall}
use Rattle.output.specs.Output.{Hands}
use Rattle.print.specs.Text.{refusal_line}
use Rattle.table_text.specs.Table.{printed}
use Rattle.pages.specs.Output.{Printout, output_text}
use Rattle.show.specs.declared.Printed.{Printed}

-- What `sluice` prints for a text, with the number of the refusal that it prints, or 0.
pub data Prints (text : List ℕ) : ℕ → List ℕ → Type 0 where
  -- "printed as the one line `refused 9`"
  refused : {n : ℕ} → RefusedLent text n → Prints text n (refusal_line n)
  -- "a heading with the names, then a line for each entry that is not 65,535, by state and letter"
  compiled : {s : Sheet} {a : CompileAnswer} {t : Tables} → CompiledLent text s a t → a.refusal ≡ 0 → Prints text 0 (printed s.streams a.states t.entries t.finals)

-- There is an outcome.
pub record HasTableOutput (text : List ℕ) : Type 0 where
  pub number : ℕ
  pub bytes : List ℕ
  pub prints : Prints text number bytes

-- What `show` gives back: the refusal's number or 0, and how many of the bytes that `sluice` prints were taken by writes.
pub record Shown (text : List ℕ) (r : Printed) : Type 0 where
  pub bytes : List ℕ
  pub prints : Prints text r.refusal bytes
  pub hands : Hands bytes r.size r.whole

-- ---- parts of a call

-- A compile's answer and tables, with the names and ranges of a stored sheet.
abbrev pub printout_of : StoredSheet → (refusal states : ℕ) (entries finals : List ℕ) → Printout
printout_of stored refusal states entries finals =
    record {
      refusal = refusal;
      states = states;
      names = stored.names;
      lengths = stored.lengths;
      lows = take (min stored.streams 8) stored.lows;
      highs = take (min stored.streams 8) stored.highs;
      entries = entries;
      finals = finals;
    }

-- The number given back, and how many bytes were taken by writes.
pub record PrintsAll (p : Printout) (r : Printed) : Type 0 where
  pub number : r.refusal ≡ p.refusal
  pub hands : Hands (output_text p) r.size r.whole

-- The compile of the text in the rows lent for the stored sheet's letters is printed, with the stored sheet's names and ranges.
pub record CompiledWith (text : List ℕ) (stored : StoredSheet) (r : Printed) : Type 0 where
  pub answer : CompileAnswer
  pub entries : List ℕ
  pub finals : List ℕ
  pub outcome : LentCall text stored.letters answer entries finals
  pub prints : PrintsAll (printout_of stored answer.refusal answer.states entries finals) r
