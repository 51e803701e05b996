-- What `record_counts` prints for its input (document 02, S-13): a line with a number, and a sheet behind it.
use Rattle.std.specs.Prelude.{ℕ, suc, ◌≤◌, ◌<◌, ◌≡◌, List}
use Rattle.std.proofs.Math.Option.{Option, none, some}
use Rattle.basics.specs.Count.{CountOf, MoreThan}
use Rattle.meaning.specs.Expression.{Sheet}
use Rattle.sheet.specs.Refusal.{Refusal1, Refusal2}
use Rattle.outcome.specs.Compile.{CompileAnswer, Tables}
use Rattle.lend.specs.Lend.{CompiledLent, RefusedLent}
use Rattle.print.specs.Text.{refusal_line}
use Rattle.theorems.specs.RecordCounts.{IsCountedRecord, IsCountedFinal}
use Rattle.first_line.specs.Input.{line_before, text_behind, number_in}
use Rattle.figure_sums.specs.Sums.{highest_figure}
use Rattle.counts_text.specs.Counts.{figures_text}

-- "n from 0 to 64"
abbrev pub longest_record : ℕ
longest_record = 64

-- "19, n above 64 or a figure above 9,223,372,036,854,775,807", of the figures that are to be printed.
pub data TooMany (s : Sheet) (n : ℕ) : Type 0 where
  too_long : longest_record < n → TooMany s n
  too_high : {t : ℕ} → t ≤ n → MoreThan (IsCountedRecord s t) highest_figure → TooMany s n

-- "the number of records of n letters [..] that begin a solution [..] and how many of those records end in a final state", for 0 to n letters.
pub record AreFigures (s : Sheet) (n : ℕ) (figure final_figure : ℕ → ℕ) : Type 0 where
  pub records : (t : ℕ) → t ≤ n → CountOf (IsCountedRecord s t) (figure t)
  pub finals : (t : ℕ) → t ≤ n → CountOf (IsCountedFinal s t) (final_figure t)

-- What is printed for the number of the line, where it is one, and the text of the sheet.
pub data PrintsCounts (number : Option ℕ) (text : List ℕ) : List ℕ → Type 0 where
  -- "a first line that is no integer from 0 up counts as 3": 1 and 2 of the sheet come before it, and it before all others
  first_refusal : Refusal1 text → PrintsCounts number text (refusal_line 1)
  second_refusal : (Refusal1 text → ⊥) → Refusal2 text → PrintsCounts number text (refusal_line 2)
  no_number : (Refusal1 text → ⊥) → (Refusal2 text → ⊥) → number ≡ none → PrintsCounts number text (refusal_line 3)
  -- the sheet's own numbers
  refused_sheet : {m n : ℕ} → number ≡ some m → RefusedLent text n → PrintsCounts number text (refusal_line n)
  -- "19 [..] after the sheet's own numbers and before anything is printed"
  too_many : {m : ℕ} {s : Sheet} {a : CompileAnswer} {t : Tables} → number ≡ some m → CompiledLent text s a t → a.refusal ≡ 0 → TooMany s m → PrintsCounts number text (refusal_line 19)
  -- "For each n up to the one given [..], print a line with n, the figure, and how many of those records end in a final state."
  counted : {m : ℕ} {s : Sheet} {a : CompileAnswer} {t : Tables} {figure final_figure : ℕ → ℕ} → number ≡ some m → CompiledLent text s a t → a.refusal ≡ 0
      → (TooMany s m → ⊥) → AreFigures s m figure final_figure → PrintsCounts number text (figures_text figure final_figure (suc m))

-- The input: a line, and the sheet behind it.
abbrev pub PrintsFor : (input bytes : List ℕ) → Type 0
PrintsFor input bytes = PrintsCounts (number_in (line_before input)) (text_behind input) bytes

-- There is an outcome.
pub record HasCountsOutput (number : Option ℕ) (text : List ℕ) : Type 0 where
  pub bytes : List ℕ
  pub prints : PrintsCounts number text bytes
