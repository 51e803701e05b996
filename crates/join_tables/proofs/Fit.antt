-- Two tables that fit, with shared names that are alike: every entry along a cut is a row or none, and there is a joined letter. From the laws of tables that
-- are well formed (automaton) and of joined streams (joined_streams).
use Prim.Native.Nat.{ℕ, ◌+◌, ◌*◌, ◌<◌}
use native.Mathlib.Omega.{arith}
use native.Mathlib.Nat.{mul-le-mul_right}
use native.Mathlib.Decide.{dec_lt}
use mathlib.Core.Path.{◌≡◌, subst}
use mathlib.Core.Logic.{◌⊎◌, inl, inr}
use mathlib.Core.List.{List, Memᴰ}
use lib.ListN.{get_or-eq_default}
use lib.Signed.{◌≤ℤ◌}
use Rattle.meaning.specs.Expression.{Stream}
use Rattle.meaning.specs.Letter.{letter_count}
use Rattle.sheet.proofs.Accepted.{letter_count-positive}
use Rattle.automaton.specs.Table.{no_state}
use Rattle.automaton.specs.WellFormed.{most_rows}
use Rattle.automaton.specs.PairSearch.{StatesBelow}
use Rattle.automaton.proofs.WellFormed.{well_formed-entries}
use Rattle.streams.specs.Description.{description_of}
use Rattle.given_tables.specs.Given.{GivenTable, table_rows, table_entry, IsFitTable}
use Rattle.joined_streams.specs.Joined.{other_streams, cut_number, Covers}
use Rattle.joined_streams.proofs.Joining.{append-split, other-member, covers-left, covers-right}
use Rattle.joined_streams.proofs.Cuts.{cut_below}
use Rattle.join_tables.specs.Outcome.{river_streams, tables_together, CanJoin}

-- An entry of a state below the bound, for a letter of the table: behind the rows it is 0.
fit-entry : {g : GivenTable} → IsFitTable g → (p x : ℕ) → p < most_rows → x < g.letters → (table_entry g p x < most_rows) ⊎ (table_entry g p x ≡ no_state)
fit-entry {g} f p x h l = by (dec_lt p (table_rows g))
  where
    here : (table_entry g p x < table_rows g) ⊎ (table_entry g p x ≡ no_state) → (table_entry g p x < most_rows) ⊎ (table_entry g p x ≡ no_state)
    here (inl b) = inl (omega (arith, b, f.well_formed.whole.few_rows))
    here (inr e) = inr e

    by : Dec (p < table_rows g) → (table_entry g p x < most_rows) ⊎ (table_entry g p x ≡ no_state)
    by (yes r) = here ((well_formed-entries f.well_formed).row_or_none p x r l)
    by (no r) =
        let rows = mul-le-mul_right {m = table_rows g} {n = p} g.letters (omega arith) in
        let behind = get_or-eq_default g.entries 0 {n = p * g.letters + x} (omega (arith, rows, f.well_formed.whole.whole_rows)) in
        inl (omega (arith, behind))

module _ {a b : GivenTable} (j : CanJoin a b) where
  abbrev ss : List Stream
  ss = description_of a.streams

  abbrev ts : List Stream
  ts = description_of b.streams

  left-covers : Covers (river_streams a b) ss
  left-covers = covers-left ss ts j.left_fit.streams_fit.accepted.no_repeats j.right_fit.streams_fit.accepted.no_repeats j.shared

  right-covers : Covers (river_streams a b) ts
  right-covers = covers-right ss ts j.left_fit.streams_fit.accepted.no_repeats j.right_fit.streams_fit.accepted.no_repeats j.shared

  pub states-below : StatesBelow (tables_together a b) most_rows
  states-below =
      record {
        room = omega arith;
        some_state = omega arith;
        left_entries = λ p x h l. fit-entry j.left_fit p (cut_number (river_streams a b) ss x) h (subst (λ n. cut_number (river_streams a b) ss x < n) j.left_fit.streams_fit.makes_letters (cut_below left-covers x l));
        right_entries = λ p x h l. fit-entry j.right_fit p (cut_number (river_streams a b) ts x) h (subst (λ n. cut_number (river_streams a b) ts x < n) j.right_fit.streams_fit.makes_letters (cut_below right-covers x l));
      }

  pub some_letter : 0 < letter_count (river_streams a b)
  some_letter = letter_count-positive (river_streams a b) (λ x m. by x (append-split ss (other_streams ss ts) m))
    where
      by : (x : Stream) → Memᴰ x ss ⊎ Memᴰ x (other_streams ss ts) → x.range.low ≤ℤ x.range.high
      by x (inl n) = j.left_fit.streams_fit.accepted.ranges_ordered x n
      by x (inr n) = j.right_fit.streams_fit.accepted.ranges_ordered x (other-member ss ts n).0
