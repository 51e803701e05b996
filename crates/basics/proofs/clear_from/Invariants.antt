-- `basics::clear_from` meets its contract: the values from `from` to `i` are set, and those before `from` as they were.
use Rattle.std.proofs.Common.{◌≡◌, ℕ, ◌≤◌, ◌<◌, get_or}
use Rattle.basics.proofs.clear_from.Given as goal

abbrev pub invariant-loop-i : goal.invariant-loop-i
invariant-loop-i g l = record {
  below : (j : ℕ) → j < l.from → get_or l.list j l.zero ≡ get_or l.initial.list j l.zero;
  done : (j : ℕ) → l.from ≤ j → j < l.i → get_or l.list j l.zero ≡ l.zero;
}
