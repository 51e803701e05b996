-- `normal_entries::fill` meets its contract: before each turn the first i elements are the entries with the numbers below i.
use Prim.Native.Nat.{◌≤◌}
use mathlib.Core.Path.{◌≡◌}
use lib.ListN.{length, take}
use Rattle.normal_entries.specs.Entries.{stored_entry, listed}
use Rattle.normal_entries.proofs.fill.Given as goal

abbrev pub invariant-loop-i : goal.invariant-loop-i
invariant-loop-i l = record {
  inside : l.i ≤ length l.list;
  stored : take l.i l.list ≡ listed (stored_entry l.numbers l.ends) l.i;
}
