-- Kinds of streams "do not alter the table: two accepted sheets that differ only in kinds still compile to equal tables" (document 02, S-6): the file to
-- open for it. A call gives of either sheet what it gives of the other, refusals 8 to 10 too, so that with the same room answer and tables are the same; and
-- whatever room was lent, the used rows and the counts are equal. From `Demands`.
use Prim.Native.Nat.{ℕ}
use mathlib.Core.Path.{◌≡◌, subst}
use mathlib.Core.List.{List}
use Rattle.basics.proofs.Count.{count_unique, count_same, more_same}
use Rattle.automaton.specs.Words.{Word}
use Rattle.automaton.specs.Solutions.{SameSolutions}
use Rattle.automaton.specs.Stored.{SameUsedRows}
use Rattle.automaton.proofs.Equality.{stored_transfer, unique_used_rows}
use Rattle.meaning.specs.Expression.{Sheet}
use Rattle.meaning.specs.Letter.{letter_count, SolutionWord}
use Rattle.meaning.specs.Situation.{IsSituation}
use Rattle.meaning.specs.StreamKinds.{DifferOnlyInKinds}
use Rattle.meaning.proofs.StreamKinds.{kinds-letter_count, differ_sym, kinds-situation, kinds-count}
use Rattle.outcome.specs.Compile.{CompileAnswer, Room, Tables, CountFits, HoldsTable, WordsOutcome, too_many_situations, too_few_rows, no_solution, compiled, SheetOutcome, CompileCall, unread, read}
use Rattle.outcome.proofs.Answers.{one-sheet, refused≢sheet}
use Rattle.outcome.proofs.CompileUnique.{compile_unique}
use Rattle.theorems.proofs.Demands.{ReadAs, situations-counted, table-stored}
use Rattle.theorems.proofs.KindsApart.{words_same, table_same}

-- ---- one set of words, and one count of things, for another

module _ {Sol Sol' : Word → Type 0} {k : ℕ} (words : SameSolutions k Sol Sol') {X : Type 0} {P Q : X → Type 0} (to : (x : X) → P x → Q x) (from : (x : X) → Q x → P x) where
  fits-same : {room : Room} {m : ℕ} → CountFits P k room m → CountFits Q k room m
  fits-same f = record { counted = count_same to from f.counted; within_bound = f.within_bound; within_room = f.within_room }

  holds_same : {room : Room} {n : ℕ} {t : Tables} → HoldsTable Sol k room n t → HoldsTable Sol' k room n t
  holds_same h =
      record {
        entries_size = h.entries_size;
        finals_size = h.finals_size;
        table = stored_transfer words h.table;
        entries_beyond = h.entries_beyond;
        finals_beyond = h.finals_beyond;
        work_zero = h.work_zero;
      }

  outcome-same : {room : Room} {a : CompileAnswer} {t : Tables} → WordsOutcome Sol k P room a t → WordsOutcome Sol' k Q room a t
  outcome-same (too_many_situations h x) = too_many_situations h (more_same to x)
  outcome-same (too_few_rows h x) = too_few_rows h (more_same to x)
  outcome-same (no_solution f n) = no_solution (fits-same f) (λ w b x. n w b (words.from w b x))
  outcome-same (compiled f h) = compiled (fits-same f) (holds_same h)

-- ---- sheets that differ only in kinds

module _ {s s' : Sheet} (d : DifferOnlyInKinds s s') where
  sheet-outcome : {room : Room} {a : CompileAnswer} {t : Tables} → SheetOutcome s room a t → SheetOutcome s' room a t
  sheet-outcome {room} {a} {t} h =
      subst (λ k. WordsOutcome (SolutionWord s') k (IsSituation s') room a t) (kinds-letter_count d.streams)
      (outcome-same (words_same (letter_count s.streams) d) (λ u. kinds-situation d) (λ u. kinds-situation (differ_sym d)) h)

  module _ {text text' : List ℕ} (reads : ReadAs text s) (reads' : ReadAs text' s') where
    -- What a call gives of the one text it gives of the other.
    pub kinds-same-call : {room : Room} {a : CompileAnswer} {t : Tables} → CompileCall text room a t → CompileCall text' room a t
    kinds-same-call (unread r) = absurd (refused≢sheet r reads)
    kinds-same-call {room} {a} {t} (read r h) = read reads' (sheet-outcome (subst (λ q. SheetOutcome q room a t) (one-sheet r reads) h))

    -- So with the same room answer and tables are the same,
    pub kinds-same-outcome : {room : Room} {a a' : CompileAnswer} {t t' : Tables} → CompileCall text room a t → CompileCall text' room a' t' → (a ≡ a') × (t ≡ t')
    kinds-same-outcome {room} c c' = compile_unique text' room (kinds-same-call c) c'

    -- and whatever room was lent, where both are accepted, the used rows and the counts are equal.
    module _ {room room' : Room} {a a' : CompileAnswer} {t t' : Tables} (call : CompileCall text room a t) (call' : CompileCall text' room' a' t') (accepted : a.refusal ≡ 0) (accepted' : a'.refusal ≡ 0) where
      pub kinds-equal-rows : SameUsedRows (letter_count s'.streams) a.states t.entries t.finals a'.states t'.entries t'.finals
      kinds-equal-rows = unique_used_rows (table_same d (table-stored call reads accepted)) (table-stored call' reads' accepted')

      pub kinds-equal-counts : a.situations ≡ a'.situations
      kinds-equal-counts = count_unique (kinds-count d (situations-counted call reads accepted)) (situations-counted call' reads' accepted')
