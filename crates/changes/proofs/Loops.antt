-- The loops over the streams of a shape, the last stream first: the row whose later streams have had their passes, and the row that has their changes. From
-- the laws of passes and of digits.
use Prim.Native.Nat.{ℕ, ◌-◌, ◌*◌, ◌/◌, ◌%◌, ◌≤◌, ◌<◌}
use native.Mathlib.Omega.{arith}
use native.Mathlib.Nat.{mod-eq_of_lt}
use mathlib.Core.Path.{◌≡◌, refl, sym, ◌∙◌, ap, subst}
use mathlib.Core.Bool.{Bool, true, false, not, cond}
use mathlib.Core.List.{List}
use lib.Dec.{eqb}
use Rattle.basics.specs.Lists.{at}
use Rattle.meaning.specs.Expression.{read_kind, set_kind}
use Rattle.meaning.proofs.Letter.{positive-left, positive-right}
use Rattle.streams.specs.Description.{kind_with}
use Rattle.changes.specs.Changes.{is_set_kind}
use Rattle.changes.specs.Axes.{letter_total, changed_along, axis_in, axes_from}
use Rattle.changes.specs.Least.{IsLeastFrom}
use Rattle.changes.specs.Passes.{AxisPasses, done, pass, LowersBlocks, SpreadsStream}
use Rattle.changes.specs.declared.Shape.{Shape}
use Rattle.changes.proofs.Axes.{before, before_more, later, later-all, later-none, later_more, later-total, before-later, changed-most, axes_length}
use Rattle.changes.proofs.Passes.{letters-least}
use Rattle.changes.proofs.Spread.{Counted, counted_none, counted_next}

-- The code's test of a kind.
pub set-kind : (n : ℕ) → is_set_kind (kind_with n) ≡ not (eqb n 1)
set-kind n = by (eqb n 1)
  where
    by : (b : Bool) → is_set_kind (cond b read_kind set_kind) ≡ not b
    by true = refl
    by false = refl

module _ (s : Shape) (n : ℕ) where
  -- ---- sizes

  module _ {letters : ℕ} (all : before s n ≡ letters) (some : 0 < letters) (x : ℕ) (h : 0 < x) (l : x ≤ n) where
    -- The letters in blocks of one stream's values with the later streams' letters.
    pub whole_blocks : letters ≡ before s (x - 1) * ((axis_in s (x - 1)).values * letter_total (later s n x))
    whole_blocks = sym all ∙ before-later s n (x - 1) (omega arith) ∙ ap (λ y. before s (x - 1) * y) (later-total s n x h l)

    pub some-letters : 0 < (axis_in s (x - 1)).values * letter_total (later s n x)
    some-letters = positive-right (before s (x - 1)) ((axis_in s (x - 1)).values * letter_total (later s n x)) (subst (λ y. 0 < y) whole_blocks some)

    pub some-values : 0 < (axis_in s (x - 1)).values
    some-values = positive-left (axis_in s (x - 1)).values (letter_total (later s n x)) some-letters

    pub some-later : 0 < letter_total (later s n x)
    some-later = positive-right (axis_in s (x - 1)).values (letter_total (later s n x)) some-letters

  -- ---- costs

  -- The streams from the x-th on have had their passes, and make `stride` letters.
  pub record PassesFrom (x stride : ℕ) (row₀ row : List ℕ) : Type 0 where
    pub strides : stride ≡ letter_total (later s n x)
    pub passes : AxisPasses (later s n x) (before s x) (at row₀) (at row)

  pub passes-start : (row : List ℕ) → PassesFrom n 1 row row
  unfolding letter_total
  passes-start row = record { strides = ap letter_total (sym (later-none s n)); passes = subst (λ xs. AxisPasses xs (before s n) (at row) (at row)) (sym (later-none s n)) done }

  pub passes-next : {x stride : ℕ} {row₀ row next : List ℕ} → 0 < x → x ≤ n → PassesFrom x stride row₀ row
      → LowersBlocks (axis_in s (x - 1)).counts (axis_in s (x - 1)).values stride (before s (x - 1)) row next
      → PassesFrom (x - 1) ((axis_in s (x - 1)).values * stride) row₀ next
  passes-next {x} {stride} {row₀} {row} {next} h l p b = record {
    strides = ap (λ y. (axis_in s (x - 1)).values * y) p.strides ∙ sym (later-total s n x h l);
    passes = subst (λ xs. AxisPasses xs (before s (x - 1)) (at row₀) (at next)) (sym (later_more s n x h l))
        (pass (subst (λ y. AxisPasses (later s n x) y (at row₀) (at row)) (before_more s x h) p.passes)
        (subst (λ y. LowersBlocks (axis_in s (x - 1)).counts (axis_in s (x - 1)).values y (before s (x - 1)) row next) p.strides b).is_pass);
  }

  -- In the end every letter has its least.
  pub passes-end : {stride : ℕ} {row₀ row : List ℕ} → PassesFrom 0 stride row₀ row → (a : ℕ) → a < before s n → IsLeastFrom (axes_from s 0 n) (at row₀) a (at row a)
  unfolding letter_total axes_from
  passes-end {stride} {row₀} {row} p = letters-least (subst (λ xs. AxisPasses xs 1 (at row₀) (at row)) (later-all s n) p.passes)

  -- ---- changes

  -- The changes from the letter along the streams from the x-th on, which make `stride` letters.
  pub record CountedFrom (x stride letter : ℕ) (row : List ℕ) : Type 0 where
    pub strides : stride ≡ letter_total (later s n x)
    pub counted : Counted (later s n x) letter row

  pub counted_start : {letter : ℕ} {row : List ℕ} → at row 0 ≡ 0 → CountedFrom n 1 letter row
  unfolding letter_total
  counted_start {letter} {row} e =
      record { strides = ap letter_total (sym (later-none s n)); counted = subst (λ xs. Counted xs letter row) (sym (later-none s n)) (counted_none e) }

  -- Each is at most the number of streams.
  pub counted-small : {x stride letter : ℕ} {row : List ℕ} → CountedFrom x stride letter row → (o : ℕ) → o < stride → at row o ≤ n
  counted-small {x} {stride} {letter} {row} c o h =
      let e = c.counted.counts o (omega (arith, c.strides)) in
      let m = changed-most (later s n x) (letter % letter_total (later s n x)) o in
      let l = axes_length s x (n - x) in
      omega arith

  pub counted-more : {x stride letter : ℕ} {row next : List ℕ} → 0 < x → x ≤ n → 0 < letter_total (later s n (x - 1)) → CountedFrom x stride letter row
      → SpreadsStream (axis_in s (x - 1)).counts (axis_in s (x - 1)).values stride (letter / stride % (axis_in s (x - 1)).values) 0 row next
      → CountedFrom (x - 1) ((axis_in s (x - 1)).values * stride) letter next
  counted-more {x} {stride} {letter} {row} {next} h l some c spread = record {
    strides = ap (λ y. (axis_in s (x - 1)).values * y) c.strides ∙ sym (later-total s n x h l);
    counted = subst (λ xs. Counted xs letter next) (sym (later_more s n x h l))
        (counted_next (axis_in s (x - 1)) (later s n x) (subst (λ xs. 0 < letter_total xs) (later_more s n x h l) some) c.counted
        (subst (λ y. SpreadsStream (axis_in s (x - 1)).counts (axis_in s (x - 1)).values y (letter / y % (axis_in s (x - 1)).values) 0 row next) c.strides spread));
  }

  pub counted-end : {stride letter : ℕ} {row : List ℕ} → CountedFrom 0 stride letter row → letter < before s n → (b : ℕ) → b < before s n → at row b ≡ changed_along (axes_from s 0 n) letter b
  counted-end {stride} {letter} {row} c h b l =
      let all = subst (λ xs. Counted xs letter row) (later-all s n) c.counted in
      all.counts b l ∙ ap (λ a. changed_along (axes_from s 0 n) a b) (mod-eq_of_lt h)
