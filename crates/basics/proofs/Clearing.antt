-- Lists of zeros, and what a turn of a loop does that clears a list from a place on.
use mathlib.Core.Path.{◌≡◌, refl, sym, ap, ◌∙◌}
use mathlib.Core.List.{List}
use Prim.Native.Nat.{ℕ, zero, suc, ◌+◌, ◌<◌, ◌≤◌}
use native.Mathlib.Omega.{arith}
use native.Mathlib.Decide.{ℕ_discrete, dec_lt}
use lib.ListN.{get_or, length, set, replicate, length-set, length-replicate, get_or-eq_default}
use lib.Seq.{get_or-set_same, get_or-set_other, ext_get_or}
use Rattle.basics.specs.Clearing.{ClearedFrom}

-- ---- lists of zeros

-- a list of zeros is 0 at every place
pub zeros : (n s : ℕ) → get_or (replicate {A = ℕ} n 0) s 0 ≡ 0
zeros zero s = refl
zeros (suc n) zero = refl
zeros (suc n) (suc s) = zeros n s

-- a list with 0 in every place
pub all-zero : (list : List ℕ) (n : ℕ) → length list ≡ n → ((i : ℕ) → get_or list i 0 ≡ 0) → list ≡ replicate n 0
all-zero list n e z = ext_get_or 0 list (replicate n 0) (e ∙ sym (length-replicate n 0)) λ i h. z i ∙ sym (zeros n i)

-- a list that was filled with 0, and had n numbers before
pub zeroed : {list : List ℕ} {m n : ℕ} → list ≡ replicate m 0 → m ≡ n → list ≡ replicate n 0
zeroed e h = e ∙ ap (λ n. replicate n 0) h

-- ---- clearing from a place on

-- a list that is cleared from its first place on
pub cleared-all : {old new : List ℕ} → ClearedFrom old new 0 → new ≡ replicate (length old) 0
cleared-all {old} {new} C = all-zero new (length old) C.same λ i. C.beyond i (omega arith)

-- the numbers from `from` to `i` are cleared
pub record Clearing (old new : List ℕ) (from i : ℕ) : Type 0 where
  pub same : length new ≡ length old
  pub begun : from ≤ i
  pub below : (j : ℕ) → j < from → get_or new j 0 ≡ get_or old j 0
  pub done : (j : ℕ) → from ≤ j → j < i → get_or new j 0 ≡ 0

pub clearing_start : (list : List ℕ) (from : ℕ) → Clearing list list from from
clearing_start list from = record { same = refl; begun = omega arith; below = λ j h. refl; done = λ j h g. absurd (omega arith) }

pub clearing_next : {old new : List ℕ} {from i : ℕ} → i < length new → Clearing old new from i → Clearing old (set new i 0) from (i + 1)
clearing_next {old} {new} {from} {i} h C = record {
  same = simp length-set C.same;
  begun = omega (arith, C.begun);
  below = λ j l. get_or-set_other new i j 0 0 (omega (arith, C.begun)) ∙ C.below j l;
  done = λ j l g. elim (ℕ_discrete j i) [
    | yes q ↦ ap (λ k. get_or (set new i 0) k 0) q ∙ get_or-set_same new i 0 0 h
    | no q ↦ get_or-set_other new i j 0 0 q ∙ C.done j l (omega arith)
  ];
}

pub clearing_end : {old new : List ℕ} {from i : ℕ} → length new ≤ i → Clearing old new from i → ClearedFrom old new from
clearing_end {old} {new} {from} {i} h C = record {
  same = C.same;
  below = C.below;
  beyond = λ j l. elim (dec_lt j i) [ yes g ↦ C.done j l g | no g ↦ get_or-eq_default new 0 (omega arith) ];
}
