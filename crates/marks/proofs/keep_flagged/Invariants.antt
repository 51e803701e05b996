-- `marks::keep_flagged` meets its contract: the marks before `row` are kept where the row is flagged.
use Rattle.std.proofs.Common.{◌≡◌, ℕ, ◌≤◌, ◌<◌, get_or}
use Rattle.marks.specs.Marks.{Marked}
use Rattle.marks.proofs.keep_flagged.Given as goal

abbrev pub invariant-loop-row : goal.invariant-loop-row
invariant-loop-row l = record {
  kept : (s : ℕ) → s < l.row → Marked l.flags s → get_or l.marks s 0 ≡ get_or l.initial.marks s 0;
  cleared : (s : ℕ) → s < l.row → ¬ Marked l.flags s → get_or l.marks s 0 ≡ 0;
  beyond : (s : ℕ) → l.row ≤ s → get_or l.marks s 0 ≡ get_or l.initial.marks s 0;
}
