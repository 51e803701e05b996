-- `counting::next_counts` meets its contract: the rows before `row` have their counts for one letter more (Figures).
use Prim.Native.Nat.{ℕ, ◌*◌, ◌+◌, ◌≤◌, min}
use native.Mathlib.Omega.{arith}
use mathlib.Core.Path.{◌≡◌, refl}
use mathlib.Core.List.{List}
use lib.ListN.{length, get_or}
use Rattle.basics.proofs.Lists.{below_set, row_fits}
use Rattle.automaton.specs.Stored.{entry_at}
use Rattle.figure_sums.specs.Sums.{letter_sum, figure_cut}
use Rattle.counting.proofs.Figures.{row-counted}
use Rattle.counting.proofs.next_counts.Goals as goal

pub loop-row-preserved : goal.loop-row-preserved
loop-row-preserved c =
    let a = c.args in
    let entries = a.entries.now in
    let loop = c.loop-row in
    let within : loop.row * a.letters + a.letters ≤ length entries = row_fits loop.row (length a.counts.now) a.letters (length entries) c.loop-row-test.true (omega (arith, c.requires.0)) in
    let next : List ℕ → ℕ → ℕ → Type 0 = λ counts s v. v ≡ min (letter_sum a.letters (λ b. get_or counts (entry_at a.letters entries s b) 0)) figure_cut in (
      below_set (next a.counts.now) loop.next loop.row c.row_sums-sums.result.all (omega (arith, loop.auto.next, c.requires.1, c.loop-row-test.true)) loop.invariant.0
          (row-counted a.letters entries a.counts.now loop.row within refl refl c.row_sums-sums.ensures.0),
      below_set (next a.final_counts.now) loop.final_next loop.row c.row_sums-sums.result.ending (omega (arith, loop.auto.final_next, c.requires.2, c.loop-row-test.true)) loop.invariant.1
          (row-counted a.letters entries a.final_counts.now loop.row within refl refl c.row_sums-sums.ensures.1),
    )
