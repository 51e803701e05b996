-- The test of a row holds exactly if the row is marked.
use mathlib.Core.Bool.{not}
use mathlib.Core.List.{List}
use Prim.Native.Nat.{ℕ}
use lib.ListN.{get_or}
use lib.Dec.{T, not_T, eqb→eq}
use Rattle.marks.specs.Marks.{Marked}
use Rattle.marks.specs.Tests.{is_marked}

pub marked-test : (list : List ℕ) (s : ℕ) → Marked list s → T (is_marked list s)
marked-test list s e = rw e tt

pub test-marked : (list : List ℕ) (s : ℕ) → T (is_marked list s) → Marked list s
test-marked list s h = eqb→eq (get_or list s 0) 1 h

pub unmarked_test : (list : List ℕ) (s : ℕ) → ¬ Marked list s → T (not (is_marked list s))
unmarked_test list s n = not_T (is_marked list s) (λ h. n (test-marked list s h))
