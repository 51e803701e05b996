-- What is no more than a list's length counts its first elements.
use Rattle.std.proofs.Common.{◌≡◌, ℕ, ◌≤◌, min, List, ◌++◌, length, sym, arith, length-append, length-take-le}
use Rattle.io.specs.Counts.{IsPrefixLen}
use Rattle.cases.specs.Cases.{taken, IsTaken}

pub counted-front : (n : ℕ) (xs ys : List ℕ) → n ≤ length xs → IsPrefixLen n (xs ++ ys)
counted-front n xs ys h = let within : n ≤ length (xs ++ ys) = simp length-append (omega arith) in (within, sym (length-take-le n (xs ++ ys) within))

pub is-taken : (count : ℕ) (table : List ℕ) (r : ℕ) → r ≡ min count (length table) → IsTaken count table r
unfolding taken
is-taken count table r e = (e, omega arith, sym (length-take-le r table (omega arith)))
