-- Letters' numbers by their digits: how many letters streams make, and the changes between letters that are given by their digits. From the definitions,
-- by induction over the streams.
use Prim.Native.Nat.{ℕ, zero, suc, ◌+◌, ◌-◌, ◌*◌, ◌/◌, ◌%◌, ◌≤◌, ◌<◌, min}
use native.Mathlib.Omega.{arith}
use native.Mathlib.Nat.{mul_assoc, mul-one, one-mul}
use mathlib.Core.Path.{◌≡◌, refl, sym, ◌∙◌, ap, ap₂, subst}
use mathlib.Core.Logic.{◌≢◌}
use mathlib.Core.Bool.{Bool, true, false, not, cond, ◌&&◌}
use mathlib.Core.List.{List, [], ◌∷◌}
use lib.Arith.{digits_div, digits_mod}
use lib.Dec.{eqb}
use lib.ListN.{length}
use borrow.Author.Tests.{eq-eqb, ne_eqb}
use Rattle.basics.proofs.Tests.{bit-most}
use Rattle.meaning.proofs.Letter.{positive-left}
use Rattle.letters.proofs.Numbers.{right-≤}
use Rattle.changes.specs.Axes.{Axis, letter_total, changed_along, axis_in, axes_from, axes_in}
use Rattle.changes.specs.Passes.{change}
use Rattle.changes.specs.declared.Shape.{Shape}

-- ---- letters of streams that are taken apart

module _ (s : Shape) where
  pub axes_length : (k n : ℕ) → length (axes_from s k n) ≡ n
  unfolding axes_from
  axes_length k zero = refl
  axes_length k (suc n) = ap suc (axes_length (suc k) n)

  -- There are at most eight.
  pub axes_few : length (axes_in s) ≤ 8
  axes_few = let e = axes_length 0 (min s.count 8) in omega arith

  -- Those of the first streams times those of the others.
  total-split : (k m n : ℕ) → letter_total (axes_from s k (m + n)) ≡ letter_total (axes_from s k m) * letter_total (axes_from s (k + m) n)
  unfolding letter_total axes_from
  total-split k zero n =
      let e : zero + n ≡ n = omega arith in
      let f : k + zero ≡ k = omega arith in
      ap (λ x. letter_total (axes_from s k x)) e ∙ ap (λ x. letter_total (axes_from s x n)) (sym f) ∙ sym (one-mul (letter_total (axes_from s (k + zero) n)))
  total-split k (suc m) n =
      let e : suc m + n ≡ suc (m + n) = omega arith in
      let f : suc k + m ≡ k + suc m = omega arith in
      ap (λ x. letter_total (axes_from s k x)) e
      ∙ ap (λ x. (axis_in s k).values * x) (total-split (suc k) m n ∙ ap (λ x. letter_total (axes_from s (suc k) m) * letter_total (axes_from s x n)) f)
      ∙ sym (mul_assoc (axis_in s k).values (letter_total (axes_from s (suc k) m)) (letter_total (axes_from s (k + suc m) n)))

  -- How many letters the first j streams make.
  abbrev pub before : ℕ → ℕ
  before j = letter_total (axes_from s 0 j)

  pub before_more : (x : ℕ) → 0 < x → before x ≡ before (x - 1) * (axis_in s (x - 1)).values
  unfolding letter_total axes_from
  before_more x h =
      ap (λ y. letter_total (axes_from s 0 y)) (let e : x ≡ (x - 1) + 1 = omega arith in e) ∙ total-split 0 (x - 1) 1
      ∙ ap (λ y. before (x - 1) * y) (mul-one (axis_in s (0 + (x - 1))).values ∙ ap (λ y. (axis_in s y).values) (let e : 0 + (x - 1) ≡ x - 1 = omega arith in e))

  module _ (n : ℕ) where
    -- The streams from the j-th on, of n.
    abbrev pub later : ℕ → List Axis
    later j = axes_from s j (n - j)

    pub later-all : later 0 ≡ axes_from s 0 n
    later-all = ap (axes_from s 0) (let e : n - 0 ≡ n = omega arith in e)

    pub later-none : later n ≡ []
    unfolding axes_from
    later-none = ap (axes_from s n) (let e : n - n ≡ zero = omega arith in e)

    -- The stream before them, where a loop has counted down to x.
    pub later_more : (x : ℕ) → 0 < x → x ≤ n → later (x - 1) ≡ axis_in s (x - 1) ∷ later x
    unfolding axes_from
    later_more x h l =
        ap (axes_from s (x - 1)) (let e : n - (x - 1) ≡ suc (n - x) = omega arith in e) ∙ ap (λ y. axis_in s (x - 1) ∷ axes_from s y (n - x)) (let e : suc (x - 1) ≡ x = omega arith in e)

    pub later-total : (x : ℕ) → 0 < x → x ≤ n → letter_total (later (x - 1)) ≡ (axis_in s (x - 1)).values * letter_total (later x)
    unfolding letter_total
    later-total x h l = ap letter_total (later_more x h l)

    pub before-later : (j : ℕ) → j ≤ n → before n ≡ before j * letter_total (later j)
    before-later j h = ap (λ x. letter_total (axes_from s 0 x)) (let e : n ≡ j + (n - j) = omega arith in e) ∙ total-split 0 j (n - j) ∙ ap (λ x. before j * letter_total (axes_from s x (n - j))) (let e : 0 + j ≡ j = omega arith in e)

    -- The last streams make no more letters than all do.
    pub later-most : (j : ℕ) → j ≤ n → 0 < before n → letter_total (later j) ≤ before n
    later-most j h some =
        let l = letter_total (later j) in
        let e = before-later j h in
        let b : 0 < before j = positive-left (before j) l (subst (λ y. 0 < y) e some) in
        subst (λ y. l ≤ y) (sym e) (right-≤ (before j) l b)

-- ---- changes by digits

and_false : (c : Bool) → (c && false) ≡ false
and_false true = refl
and_false false = refl

pub change-same : (c : Bool) (d i : ℕ) → d ≡ i → change c d i ≡ 0
change-same c d i e = ap (λ b. cond {A = ℕ} b 1 0) (ap (λ b. c && not b) (eq-eqb d i e) ∙ and_false c)

pub change-other : {d i : ℕ} → d ≢ i → change true d i ≡ 1
change-other {d} {i} e = ap (λ b. cond {A = ℕ} (not b) 1 0) (ne_eqb d i e)

pub change-most : (c : Bool) (d i : ℕ) → change c d i ≤ 1
change-most c d i = bit-most (c && not (eqb d i))

-- The first stream's change and those of the later streams.
pub changed-digits : (x : Axis) (xs : List Axis) (d i : ℕ) {o p : ℕ} → o < letter_total xs → p < letter_total xs
    → changed_along (x ∷ xs) (d * letter_total xs + o) (i * letter_total xs + p) ≡ change x.counts d i + changed_along xs o p
unfolding changed_along
changed-digits x xs d i {o} {p} h k =
    ap₂ (λ y z. change x.counts y z + changed_along xs ((d * letter_total xs + o) % letter_total xs) ((i * letter_total xs + p) % letter_total xs)) (digits_div d h) (digits_div i k)
    ∙ ap₂ (λ y z. change x.counts d i + changed_along xs y z) (digits_mod d h) (digits_mod i k)

-- A letter has no changes to itself, ..
pub changed_self : (xs : List Axis) (a : ℕ) → changed_along xs a a ≡ 0
unfolding changed_along
changed_self [] a = refl
changed_self (x ∷ xs) a = ap₂ ◌+◌ (change-same x.counts (a / letter_total xs) (a / letter_total xs) refl) (changed_self xs (a % letter_total xs))

-- .. and at most one for each stream.
pub changed-most : (xs : List Axis) (a b : ℕ) → changed_along xs a b ≤ length xs
unfolding changed_along
changed-most [] a b = omega arith
changed-most (x ∷ xs) a b =
    let h = changed-most xs (a % letter_total xs) (b % letter_total xs) in
    let k = change-most x.counts (a / letter_total xs) (b / letter_total xs) in
    omega arith
