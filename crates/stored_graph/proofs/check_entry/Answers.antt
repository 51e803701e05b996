-- `stored_graph::check_entry` meets its contract. What a place adds, and why one that fails is in no graph, is in `Checking`.
use Prim.Native.Nat.{ℕ, suc, ◌≤◌, ◌<◌}
use mathlib.Core.Path.{◌≡◌}
use mathlib.Core.Logic.{◌⊎◌, inl, inr}
use native.Mathlib.Omega.{arith}
use native.Mathlib.Decide.{ℕ_discrete}
use lib.ListN.{get_or}
use Rattle.automaton.specs.Table.{no_state}
use Rattle.automaton.specs.Stored.{entry_at}
use Rattle.marks.proofs.Tests.{marked-test, test-marked}
use Rattle.stored_graph.proofs.Checking.{flag-stays, checked_old, checked_new, order-broken}
use Rattle.stored_graph.proofs.check_entry.Goals.{then-target-known-via-then-target-known, then-target-known-via-else-target-known+then-target-rows, then-target-known-via-else-target-known+else-target-rows+then-flags-target}
use Rattle.stored_graph.proofs.check_entry.Goals as goal

-- an entry that is neither a row nor 65,535
no_target : {v rows : ℕ} → (v ≡ no_state → ⊥) → rows ≤ v → (v ≡ no_state) ⊎ (v < rows) → ⊥
no_target n l (inl q) = n q
no_target n l (inr q) = omega arith

-- the entry names no row
pub returns-then-entry : goal.returns-then-entry
returns-then-entry c = (
  c.requires.row_lt_rows.2,
  checked_old c.requires.checked (inl c.if-entry.true) (λ h. absurd (omega (arith, c.if-entry.true, h, c.requires.has_graph_sizes.few_rows))),
)

-- the order is broken, the entry is no row's number, or the flag falls
pub returns-then-target-known : goal.returns-then-target-known
returns-then-target-known c = λ G.
    let pre = c.requires in
    let args = c.args in
    let flags = args.flags.now in
    let u = entry_at args.letters args.entries.now args.row args.letter in
    elim c.then-target-known.branch [
      | then-target-known-via-then-target-known w ↦ order-broken G pre.checked pre.row_lt_rows.0 pre.row_lt_rows.1 c.if-entry.false w.if-target-known.true
      | then-target-known-via-else-target-known+then-target-rows w ↦ no_target c.if-entry.false w.if-target-rows.true (G.targets args.row args.letter pre.row_lt_rows.0 pre.row_lt_rows.1)
      | then-target-known-via-else-target-known+else-target-rows+then-flags-target w ↦
          let is_set : get_or flags args.row 0 ≡ 1 = omega (arith, pre.are_bits args.row pre.row_lt_rows.0, w.if-flags-target.true) in
          let kept : get_or flags u 0 ≡ 1 = test-marked flags u (G.stays args.row args.letter pre.row_lt_rows.0 pre.row_lt_rows.1 w.if-target-rows.false (marked-test flags args.row is_set)) in
          omega (arith, w.if-flags-target.true)
    ]

-- the row that is met next, or one that was met before
pub returns : goal.returns
returns c =
    let pre = c.requires in
    let args = c.args in
    let u = entry_at args.letters args.entries.now args.row args.letter in
    let stays = λ (h : u < args.rows). flag-stays args.flags.now args.rows args.row u pre.are_bits h c.if-flags-target.false in
    elim (ℕ_discrete u args.known) [
      | yes e ↦
          let m : c.max.result ≡ suc args.known = omega (arith, c.max.ensures, e) in
          rw m (omega (arith, pre.row_lt_rows.2), checked_new pre.checked pre.row_lt_rows.2 pre.row_lt_rows.1 (omega (arith, e, c.if-target-rows.false)) e stays)
      | no n ↦
          let m : c.max.result ≡ args.known = omega (arith, c.max.ensures, n, c.if-target-known.false) in
          rw m (pre.row_lt_rows.2, checked_old pre.checked (inr (omega (arith, n, c.if-target-known.false))) stays)
    ]
