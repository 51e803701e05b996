-- Tokens that are counted, cut beyond the bound of streams: where there are at most 8, the cut count says whether they are as many.
use Prim.Native.Nat.{ℕ, ◌+◌, ◌≤◌, min}
use native.Mathlib.Omega.{arith}
use mathlib.Core.Path.{◌≡◌}
use mathlib.Core.List.{List, [], ◌∷◌}
use lib.Dec.{eqb}
use lib.ListN.{length}
use Rattle.basics.proofs.Reflects.{eqb_reflects, reflects_same}
use Rattle.text.specs.Bytes.{Token}
use Rattle.record_names.specs.Machine.{next_count}

abbrev pub count_after : ℕ → List Token → ℕ
count_after k [] = k
count_after k (t ∷ ts) = count_after (next_count k) ts

pub count-after : (ts : List Token) (k : ℕ) → k ≤ 9 → count_after k ts ≡ min (k + length ts) 9
count-after [] k h = omega arith
count-after (t ∷ ts) k h = let e = count-after ts (next_count k) (omega arith) in omega arith

pub count-test : (ts : List Token) {n : ℕ} → n ≤ 8 → eqb (count_after 0 ts) n ≡ eqb (length ts) n
count-test ts {n} h = let e = count-after ts 0 (omega arith) in reflects_same (eqb_reflects (count_after 0 ts) n) (eqb_reflects (length ts) n) (λ p. omega arith) (λ p. omega arith)
