-- Steps along the bytes of a table of a set of solutions: a record is followed exactly if it begins a solution.
-- From `Paths`, and from the law of the automaton that a record is a path exactly if it begins a solution.
use Prim.Native.Nat.{ℕ, ◌*◌, ◌≤◌}
use mathlib.Core.Path.{◌≡◌}
use mathlib.Core.Logic.{◌↔◌}
use mathlib.Core.List.{List}
use lib.ListN.{length}
use Rattle.stored.specs.Number.{table_bytes}
use Rattle.automaton.specs.Words.{Word, AllBelow}
use Rattle.automaton.specs.Solutions.{Begins}
use Rattle.automaton.specs.Table.{walk, IsTable}
use Rattle.automaton.specs.Stored.{entry_at}
use Rattle.automaton.specs.WellFormed.{most_rows, WholeTable}
use Rattle.automaton.proofs.Paths.{path↔begins}
use Rattle.automaton.proofs.WellFormed.{table-whole}
use Rattle.step.specs.Step.{entry_width}
use Rattle.step.specs.Followed.{Followed}
use Rattle.step.proofs.Paths.{followed↔path}

module _ {Sol : Word → Type 0} {k n : ℕ} (entries : List ℕ) {final : ℕ → ℕ} (compiled : IsTable Sol k n (entry_at k entries) final) (few : n ≤ most_rows)
    (rows : length entries ≡ n * k) where
  compiled-whole : WholeTable k n entries
  compiled-whole = table-whole entries compiled few rows

  pub followed↔begins : (r : List ℕ) (last : ℕ) → AllBelow k r
      → Followed (table_bytes entry_width entries) k 0 r last ↔ (Begins Sol k r × (last ≡ walk (entry_at k entries) 0 r))
  followed↔begins r last letters = (
    λ followed. let path = (followed↔path compiled-whole r last letters).0 followed in ((path↔begins compiled r letters).0 path.0, path.1),
    λ begins. (followed↔path compiled-whole r last letters).1 ((path↔begins compiled r letters).1 begins.0, begins.1),
  )
