-- What every compile leaves, and every call for a play table: tables as long as they were lent, work tables of zeros, and nothing at all after a refusal. From the
-- definitions.
use Prim.Native.Nat.{ℕ, ◌<◌}
use native.Mathlib.Omega.{arith}
use mathlib.Core.Path.{◌≡◌, refl, ap}
use mathlib.Core.List.{List, [], ◌∷◌}
use lib.ListN.{length, length-replicate}
use Rattle.automaton.specs.Words.{Word}
use Rattle.outcome.specs.Room.{zero_tables}
use Rattle.outcome.specs.Compile.{CompileAnswer, refused_answer, Room, Tables, all_zero, WordsOutcome, too_many_situations, too_few_rows, no_solution, compiled, CompileOutcome, unread, read}
use Rattle.outcome.specs.Force.{ForceOutcome, unread, not_compiled, prevented, forced}

-- The tables are as long as they were lent, and the work tables are zero.
pub record Leaves (room : Room) (t : Tables) : Type 0 where
  pub entries_size : length t.entries ≡ room.entries
  pub finals_size : length t.finals ≡ room.finals
  pub work_zero : t.work ≡ zero_tables room.work

module _ {room : Room} where
  zero_leaves : Leaves room (all_zero room)
  zero_leaves = record { entries_size = length-replicate room.entries 0; finals_size = length-replicate room.finals 0; work_zero = refl }

  module _ {Sol : Word → Type 0} {k : ℕ} {X : Type 0} {Counted : X → Type 0} where
    words_leave : {a : CompileAnswer} {t : Tables} → WordsOutcome Sol k Counted room a t → Leaves room t
    words_leave (too_many_situations h x) = zero_leaves
    words_leave (too_few_rows h x) = zero_leaves
    words_leave (no_solution f x) = zero_leaves
    words_leave (compiled f h) = record { entries_size = h.entries_size; finals_size = h.finals_size; work_zero = h.work_zero }

    pub refused_words_zero : {a : CompileAnswer} {t : Tables} → WordsOutcome Sol k Counted room a t → 0 < a.refusal → (a ≡ refused_answer a.refusal) × (t ≡ all_zero room)
    refused_words_zero (too_many_situations h x) n = (refl, refl)
    refused_words_zero (too_few_rows h x) n = (refl, refl)
    refused_words_zero (no_solution f x) n = (refl, refl)
    refused_words_zero (compiled f h) n = absurd (omega arith)

  module _ {text : List ℕ} where
    -- "work tables are zero after every call"
    pub compile_leaves : {a : CompileAnswer} {t : Tables} → CompileOutcome text room a t → Leaves room t
    compile_leaves (unread x) = zero_leaves
    compile_leaves (read x o) = words_leave o

    -- "A refusal returns its number with states and situations 0." "After a refused compile every lent table is zero" (demand 1).
    pub refused_zero : {a : CompileAnswer} {t : Tables} → CompileOutcome text room a t → 0 < a.refusal → (a ≡ refused_answer a.refusal) × (t ≡ all_zero room)
    refused_zero (unread x) n = (refl, refl)
    refused_zero (read x o) n = refused_words_zero o n

-- The same for a call for a play table, which is as long as it was lent.
module _ {text : List ℕ} {room : Room} {size : ℕ} where
  pub force_leaves : {a : CompileAnswer} {t : Tables} {play : List ℕ} → ForceOutcome text room size a t play → Leaves room t × (length play ≡ size)
  force_leaves (unread x) = (zero_leaves, length-replicate size 0)
  force_leaves (not_compiled x o n) = (zero_leaves, length-replicate size 0)
  force_leaves (prevented x o z p) = (zero_leaves, length-replicate size 0)
  force_leaves (forced x o z f h) =
      let l = words_leave o in
      (record { entries_size = l.entries_size; finals_size = l.finals_size; work_zero = ap others l.work_zero }, h.play_size)
    where
      others : List (List ℕ) → List (List ℕ)
      others [] = []
      others (x ∷ xs) = xs
