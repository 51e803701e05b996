-- Two sets that settle have equal tables exactly when they have the same solutions.
use mathlib.Core.Logic.{◌↔◌}
use mathlib.Core.List.{List}
use Prim.Native.Nat.{ℕ, ◌*◌, ◌≤◌}
use lib.ListN.{length}
use Rattle.automaton.specs.Words.{Word}
use Rattle.automaton.specs.Solutions.{SameSolutions, Settles}
use Rattle.automaton.specs.Table.{IsTable, SameRows}
use Rattle.automaton.specs.Stored.{StoredTable, SameUsedRows}
use Rattle.automaton.proofs.Unique.{unique_rows}
use Rattle.automaton.proofs.Transfer.{table_transfer, rows-table}
use Rattle.automaton.proofs.Acceptance.{solution↔accepted}

-- one table of two sets that settle: the same solutions
pub table_solutions : {Sol Sol' : Word → Type 0} {k n : ℕ} {entry : ℕ → ℕ → ℕ} {final : ℕ → ℕ} → Settles Sol k → Settles Sol' k
    → IsTable Sol k n entry final → IsTable Sol' k n entry final → SameSolutions k Sol Sol'
table_solutions S S' A A' = record {
  to = λ w b x. (solution↔accepted A' S' w b).1 ((solution↔accepted A S w b).0 x);
  from = λ w b x. (solution↔accepted A S w b).1 ((solution↔accepted A' S' w b).0 x);
}

pub rows↔solutions : {Sol Sol' : Word → Type 0} {k n n' : ℕ} {entry entry' : ℕ → ℕ → ℕ} {final final' : ℕ → ℕ} → Settles Sol k → Settles Sol' k
    → IsTable Sol k n entry final → IsTable Sol' k n' entry' final' → SameRows k n entry final n' entry' final' ↔ SameSolutions k Sol Sol'
rows↔solutions S S' A A' = ((λ R. table_solutions S S' (rows-table R A) A'), λ e. unique_rows (table_transfer e A) A')

-- stored tables

module _ {Sol Sol' : Word → Type 0} {k n : ℕ} {entries finals : List ℕ} where
  pub stored_transfer : SameSolutions k Sol Sol' → StoredTable Sol k n entries finals → StoredTable Sol' k n entries finals
  stored_transfer e A = record { entries_fit = A.entries_fit; finals_fit = A.finals_fit; table = table_transfer e A.table }

module _ {Sol : Word → Type 0} {k n n' : ℕ} {entries finals entries' finals' : List ℕ} where
  pub stored-rows : SameUsedRows k n entries finals n' entries' finals' → n' * k ≤ length entries' → n' ≤ length finals'
      → StoredTable Sol k n entries finals → StoredTable Sol k n' entries' finals'
  stored-rows R h g A = record { entries_fit = h; finals_fit = g; table = rows-table R A.table }

  pub unique_used_rows : StoredTable Sol k n entries finals → StoredTable Sol k n' entries' finals'
      → SameUsedRows k n entries finals n' entries' finals'
  unique_used_rows A B = unique_rows A.table B.table

module _ {Sol Sol' : Word → Type 0} {k n n' : ℕ} {entries finals entries' finals' : List ℕ} where
  pub used_rows↔solutions : Settles Sol k → Settles Sol' k → StoredTable Sol k n entries finals → StoredTable Sol' k n' entries' finals'
      → SameUsedRows k n entries finals n' entries' finals' ↔ SameSolutions k Sol Sol'
  used_rows↔solutions S S' A A' = rows↔solutions S S' A.table A'.table
