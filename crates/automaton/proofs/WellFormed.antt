-- Tables as they are lent: the entries of a whole table are rows or none, whether a table is well formed is decided, and the
-- used rows of the table of a set of words are well formed. From the definitions, and the laws of places in a stored list.
use mathlib.Core.Path.{◌≡◌, refl, sym, subst}
use mathlib.Core.Logic.Dec
use mathlib.Core.Logic.{◌⊎◌, inl, inr, ◌≢◌}
use mathlib.Core.List.{List, [], ◌∷◌, ◌++◌}
use Prim.Native.Nat.{ℕ, ◌+◌, ◌*◌, ◌/◌, ◌%◌, ◌<◌, ◌≤◌}
use native.Mathlib.Nat.{div-add-mod', div-lt_iff_lt-mul, mod-lt}
use native.Mathlib.Omega.{arith}
use native.Mathlib.Decide.{map_dec}
use lib.ListN.{length, get_or, take}
use lib.Seq.{length-take-le, get_or-take}
use Rattle.basics.proofs.Lists.{below_decided}
use Rattle.basics.proofs.Reflects.{decide, and_reflects, or_reflects, not_reflects, leb_reflects, ltb_reflects, eqb_reflects}
use Rattle.automaton.specs.Words.{Word}
use Rattle.automaton.specs.Table.{no_state, IsTable, IsEntry, IsFlag, SameRows}
use Rattle.automaton.specs.Stored.{entry_at, final_at, StoredTable}
use Rattle.automaton.specs.WellFormed.{most_rows, RowEntries, WholeTable, IsWellFormed, WellFormedState}
use Rattle.automaton.proofs.Transfer.{rows-table}
use Rattle.automaton.proofs.Places.{place-before}

-- places of a whole table

module _ {k n : ℕ} {entries : List ℕ} (whole : WholeTable k n entries) where
  pub place_inside : (i a : ℕ) → i < n → a < k → i * k + a < length entries
  place_inside i a hi ha = omega (arith, place-before k i a n 0 ha (inl hi), whole.whole_rows)

  pub whole-entries : RowEntries k n (entry_at k entries)
  whole-entries = record { row_or_none = λ i a hi ha. whole.state_or_none (i * k + a) (place_inside i a hi ha) }

pub well_formed-entries : {k : ℕ} {entries finals : List ℕ} → IsWellFormed k entries finals → RowEntries k (length finals) (entry_at k entries)
well_formed-entries g = whole-entries g.whole

-- an entry that is not none is a row
pub some-row-entry : {k n : ℕ} {entry : ℕ → ℕ → ℕ} → RowEntries k n entry → (i a : ℕ) → i < n → a < k → entry i a ≢ no_state → entry i a < n
some-row-entry {n} {entry} x i a hi ha ne = go (x.row_or_none i a hi ha)
  where
    go : (entry i a < n) ⊎ (entry i a ≡ no_state) → entry i a < n
    go (inl h) = h
    go (inr e) = absurd (ne e)

-- whether a table is well formed is decided

module _ (k : ℕ) (entries finals : List ℕ) where
  sizes_decided : Dec ((k ≢ 0) × (0 < length finals) × (length finals ≤ most_rows) × (length entries ≡ length finals * k))
  sizes_decided = map_dec (λ x. (x.0, x.1.0, x.1.1.0, x.1.1.1)) (λ x. (x.0, (x.1, (x.2, x.3)))) (decide (
      and_reflects (not_reflects (eqb_reflects k 0)) (
      and_reflects (ltb_reflects 0 (length finals)) (and_reflects (leb_reflects (length finals) most_rows) (eqb_reflects (length entries) (length finals * k)))
      )
      ))

  pub well_formed_decided : Dec (IsWellFormed k entries finals)
  well_formed_decided = map_dec
      (λ x. record {
        whole = record { some_letter = x.0.0; some_row = x.0.1; few_rows = x.0.2; whole_rows = x.0.3; state_or_none = x.1.0 };
        flags = x.1.1;
      })
      (λ g. ((g.whole.some_letter, g.whole.some_row, g.whole.few_rows, g.whole.whole_rows), (g.whole.state_or_none, g.flags)))
      (Dec.and sizes_decided (Dec.and
      (below_decided (λ i. decide (or_reflects (ltb_reflects (get_or entries i 0) (length finals)) (eqb_reflects (get_or entries i 0) no_state))) (length entries))
      (below_decided (λ i. decide (leb_reflects (get_or finals i 0) 1)) (length finals))))

  pub well_formed-state_decided : (s : ℕ) → Dec (WellFormedState k entries finals s)
  well_formed-state_decided s =
      map_dec (λ x. record { well_formed = x.0; is_row = x.1 }) (λ g. (g.well_formed, g.is_row)) (Dec.and well_formed_decided (decide (ltb_reflects s (length finals))))

-- tables of sets of words

module _ {Sol : Word → Type 0} {k n : ℕ} {entry : ℕ → ℕ → ℕ} {final : ℕ → ℕ} (A : IsTable Sol k n entry final) where
  pub table-entries : RowEntries k n entry
  table-entries = record { row_or_none = λ i a hi ha. go i a (A.entries i a hi ha) }
    where
      go : (i a : ℕ) → IsEntry Sol k n A.representative (A.representative i ++ (a ∷ [])) (entry i a) → (entry i a < n) ⊎ (entry i a ≡ no_state)
      go i a (inl x) = inr x.0
      go i a (inr x) = inl x.0

  -- a table of words has a letter
  table-letter : 0 < k
  table-letter = let first = (A.not_empty 0 A.some_state).in_range 0 in omega arith

module _ {Sol : Word → Type 0} {k n : ℕ} (entries : List ℕ) {final : ℕ → ℕ} (A : IsTable Sol k n (entry_at k entries) final) (few : n ≤ most_rows)
    (rows : length entries ≡ n * k) where
  -- each number stored is a state or 65,535
  number-kind : (j : ℕ) → j < length entries → (get_or entries j 0 < n) ⊎ (get_or entries j 0 ≡ no_state)
  number-kind j inside =
      subst (λ (place : ℕ). (get_or entries place 0 < n) ⊎ (get_or entries place 0 ≡ no_state)) (div-add-mod' j k)
      ((table-entries A).row_or_none (j / k) (j % k) ((div-lt_iff_lt-mul (table-letter A)).1 (omega arith)) (mod-lt j (table-letter A)))

  pub table-whole : WholeTable k n entries
  table-whole =
      let some : 0 < k = table-letter A in
      record { some_letter = omega arith; some_row = A.some_state; few_rows = few; whole_rows = rows; state_or_none = number-kind }

-- the used rows of a stored table

module _ {Sol : Word → Type 0} {k n : ℕ} {entries finals : List ℕ} (stored : StoredTable Sol k n entries finals) where
  -- by themselves they hold the table
  pub used_table : IsTable Sol k n (entry_at k (take (n * k) entries)) (final_at (take n finals))
  used_table = rows-table same stored.table
    where
      same : SameRows k n (entry_at k entries) (final_at finals) n (entry_at k (take (n * k) entries)) (final_at (take n finals))
      same = record {
        states = refl;
        entries = λ i a hi ha. sym (get_or-take (n * k) entries (i * k + a) 0 (omega (arith, place-before k i a n 0 ha (inl hi))));
        finals = λ i hi. sym (get_or-take n finals i 0 hi);
      }

  -- and are a well_formed table
  pub used_well_formed : n ≤ most_rows → IsWellFormed k (take (n * k) entries) (take n finals)
  used_well_formed few = record {
    whole = rw long (table-whole (take (n * k) entries) used_table few (length-take-le (n * k) entries stored.entries_fit));
    flags = λ i h. bit i (used_table.finals i (omega (arith, long)));
  }
    where
      long : length (take n finals) ≡ n
      long = length-take-le n finals stored.finals_fit

      bit : {P : Type 0} (i : ℕ) → IsFlag P (final_at (take n finals) i) → final_at (take n finals) i ≤ 1
      bit i (inl x) = omega (arith, x.0)
      bit i (inr x) = omega (arith, x.0)
