-- A compile with no more final bytes than the rows that a play table holds is the compile with the play table among the lent tables: it counts the same rows,
-- and what it leaves is the same, with zeros behind the final bytes. From the definitions.
use Prim.Native.Nat.{ℕ, ◌+◌, ◌-◌, ◌/◌, min}
use native.Mathlib.Omega.{arith}
use native.Mathlib.Nat.{div-one}
use mathlib.Core.Path.{◌≡◌, refl, sym, ◌∙◌, ap, ap₂, subst}
use mathlib.Core.List.{List, [], ◌∷◌, ◌++◌}
use lib.ListN.{length-append, length-replicate, replicate-append-replicate, get_or-append}
use lib.Seq.{drop-append-le}
use Rattle.basics.specs.Count.{MoreThan}
use Rattle.automaton.specs.Words.{Word}
use Rattle.automaton.proofs.Transfer.{rows-table}
use Rattle.outcome.specs.Room.{LentTable, fewest_rows, zeros, zero_tables}
use Rattle.outcome.specs.Compile.{CompileAnswer, Room, room_rows, Tables, all_zero, HoldsTable, CountFits, WordsOutcome, too_many_situations, too_few_rows, no_solution, compiled}

-- The room with another number of final bytes, the room with one more work table, and what is left in them.
abbrev pub with_finals : Room → ℕ → Room
with_finals room n = record { entries = room.entries; finals = n; work = room.work }

abbrev pub with_table : Room → LentTable → Room
with_table room t = record { entries = room.entries; finals = room.finals; work = t ∷ room.work }

abbrev pub zeros_behind : Tables → ℕ → (size : ℕ) → Tables
zeros_behind t n size = record { entries = t.entries; finals = t.finals ++ zeros n; work = zeros size ∷ t.work }

module _ (room : Room) (lent : LentTable) (cut : ℕ) (is : cut ≡ min (lent.size / lent.per_row) room.finals) where
  -- the rows lent are the same
  rows_cut : (letters : ℕ) → room_rows (with_finals room cut) letters ≡ room_rows (with_table room lent) letters
  rows_cut letters = ap (min (room.entries / letters)) (by room.work)
    where
      by : (work : List LentTable) → fewest_rows (record { per_row = 1; size = cut }) work ≡ min (room.finals / 1) (fewest_rows lent work)
      by [] = div-one cut ∙ is ∙ omega (arith, div-one room.finals)
      by (t ∷ ts) = omega (arith, div-one cut, div-one room.finals, is)

  -- zeros with zeros behind them
  zeros-behind : zeros_behind (all_zero (with_finals room cut)) (room.finals - cut) lent.size ≡ all_zero (with_table room lent)
  zeros-behind =
      let e : cut + (room.finals - cut) ≡ room.finals = omega (arith, is) in
      let z : zeros cut ++ zeros (room.finals - cut) ≡ zeros room.finals = replicate-append-replicate cut (room.finals - cut) 0 ∙ ap zeros e in
      λ i. record { entries = zeros room.entries; finals = z i; work = zeros lent.size ∷ zero_tables room.work }

  fits_cut : {letters : ℕ} {X : Type 0} {Counted : X → Type 0} {m : ℕ} → CountFits Counted letters (with_finals room cut) m → CountFits Counted letters (with_table room lent) m
  fits_cut {letters} f = record { counted = f.counted; within_bound = f.within_bound; within_room = omega (arith, f.within_room, rows_cut letters) }

  module _ {Sol : Word → Type 0} {letters : ℕ} where
    -- a table with zeros behind its final bytes
    holds-behind : {n : ℕ} {t : Tables} → HoldsTable Sol letters (with_finals room cut) n t → HoldsTable Sol letters (with_table room lent) n (zeros_behind t (room.finals - cut) lent.size)
    holds-behind {n} {t} h =
        let rest = zeros (room.finals - cut) in
        let e : cut - n + (room.finals - cut) ≡ room.finals - n = omega (arith, is, h.table.finals_fit, h.finals_size) in
        record {
          entries_size = h.entries_size;
          finals_size = length-append t.finals rest ∙ ap₂ ◌+◌ h.finals_size (length-replicate (room.finals - cut) 0) ∙ omega (arith, is);
          table =
              record {
                entries_fit = h.table.entries_fit;
                finals_fit = omega (arith, h.table.finals_fit, length-append t.finals rest);
                table = rows-table (record { states = refl; entries = λ i a hi ha. refl; finals = λ i hi. sym (get_or-append t.finals rest 0 i (omega (arith, h.table.finals_fit))) }) h.table.table;
              };
          entries_beyond = h.entries_beyond;
          finals_beyond = drop-append-le n t.finals rest h.table.finals_fit ∙ ap (◌++ rest) h.finals_beyond ∙ replicate-append-replicate (cut - n) (room.finals - cut) 0 ∙ ap zeros e;
          work_zero = ap (zeros lent.size ∷◌) h.work_zero;
        }

    module _ {X : Type 0} {Counted : X → Type 0} where
      zeros-outcome : {a : CompileAnswer} → WordsOutcome Sol letters Counted (with_table room lent) a (all_zero (with_table room lent)) → WordsOutcome Sol letters Counted (with_table room lent) a (zeros_behind (all_zero (with_finals room cut)) (room.finals - cut) lent.size)
      zeros-outcome {a} o = subst (WordsOutcome Sol letters Counted (with_table room lent) a) (sym zeros-behind) o

      pub outcome-behind : {a : CompileAnswer} {t : Tables} → WordsOutcome Sol letters Counted (with_finals room cut) a t → WordsOutcome Sol letters Counted (with_table room lent) a (zeros_behind t (room.finals - cut) lent.size)
      outcome-behind (too_many_situations h x) = zeros-outcome (too_many_situations (omega (arith, h, rows_cut letters)) x)
      outcome-behind (too_few_rows h x) = zeros-outcome (too_few_rows (omega (arith, h, rows_cut letters)) (subst (MoreThan Counted) (rows_cut letters) x))
      outcome-behind (no_solution f x) = zeros-outcome (no_solution (fits_cut f) x)
      outcome-behind (compiled f h) = compiled (fits_cut f) (holds-behind h)
