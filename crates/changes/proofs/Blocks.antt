-- What each turn of the loops over a row does: one place of a column, one column of a block, one block. In the end the row has had its pass. From the
-- digits of places.
use Prim.Native.Nat.{ℕ, suc, ◌+◌, ◌*◌, ◌%◌, ◌≤◌, ◌<◌}
use native.Mathlib.Omega.{arith}
use native.Mathlib.Nat.{mul-lt-mul_of_pos_right, mul-le-mul_right, le_of_mul-le-mul_right, lt_of_mul-lt-mul_right, suc-mul}
use native.Mathlib.Decide.{ℕ_discrete}
use mathlib.Core.Path.{◌≡◌, refl, sym, ◌∙◌, ap, ap₂}
use mathlib.Core.Logic.{◌⊎◌, inl, inr, ◌≢◌}
use mathlib.Core.Bool.{Bool}
use mathlib.Core.List.{List}
use lib.Arith.{digits_lt, digits_mod}
use lib.ListN.{length, set, length-set}
use lib.Seq.{get_or-set_same, get_or-set_other}
use Rattle.basics.specs.Lists.{at}
use Rattle.changes.specs.Passes.{least_below, lowered_cost, LowersColumn, LowersBlock, LowersBlocks}
use Rattle.changes.proofs.Passes.{least_below-same}

-- ---- places

-- Another value has another place.
column_apart : (from stride d n : ℕ) → 0 < stride → d < n → from + n * stride ≢ from + d * stride
column_apart from stride d n h l e = let m : d * stride < n * stride = mul-lt-mul_of_pos_right l h in omega arith

-- Two places with different later letters differ.
pub digits-apart : (d i : ℕ) {k o p : ℕ} → o < k → p < k → o ≢ p → d * k + o ≢ i * k + p
digits-apart d i {k} ho hp ne e = ne (sym (digits_mod d ho) ∙ ap (λ x. x % k) e ∙ digits_mod i hp)

-- ---- a column

module _ (is_set : Bool) (from stride least : ℕ) where
  pub column_start : (row : List ℕ) → LowersColumn is_set from stride least 0 row row
  column_start row = record { same_length = refl; inside = λ d h. absurd (omega arith); outside = λ p f. refl }

  pub column_next : {n : ℕ} {row cur : List ℕ} → 0 < stride → from + n * stride < length cur → LowersColumn is_set from stride least n row cur
      → LowersColumn is_set from stride least (n + 1) row (set cur (from + n * stride) (lowered_cost is_set (at cur (from + n * stride)) least))
  column_next {n} {row} {cur} pos inside done = record {
    same_length = length-set cur place v ∙ done.same_length;
    inside = λ d h. at_value d h (ℕ_discrete d n);
    outside = λ p f. get_or-set_other cur place p v 0 (f n (omega arith)) ∙ done.outside p λ d h. f d (omega arith);
  }
    where
      place : ℕ
      place = from + n * stride

      v : ℕ
      v = lowered_cost is_set (at cur place) least

      kept : at cur place ≡ at row place
      kept = done.outside place λ d h. column_apart from stride d n pos h

      at_value : (d : ℕ) → d < n + 1 → Dec (d ≡ n) → at (set cur place v) (from + d * stride) ≡ lowered_cost is_set (at row (from + d * stride)) least
      at_value d h (yes e) = rw e (get_or-set_same cur place v 0 inside ∙ ap (λ x. lowered_cost is_set x least) kept)
      at_value d h (no ne) =
          get_or-set_other cur place (from + d * stride) v 0 (λ e. column_apart from stride d n pos (omega arith) (sym e)) ∙ done.inside d (omega arith)

-- ---- a block

module _ (is_set : Bool) (start z stride : ℕ) where
  pub block_start : (row : List ℕ) → LowersBlock is_set start z stride 0 row row
  block_start row = record { same_length = refl; inside = λ d o h l. absurd (omega arith); waiting = λ d o h l m. refl; outside = λ p x. refl }

  module _ {n : ℕ} {row cur next : List ℕ} (some : 0 < z) (in_block : n < stride) (done : LowersBlock is_set start z stride n row cur)
      (column : LowersColumn is_set (start + n) stride (least_below z (λ d. at cur (start + n + d * stride))) z cur next) where
    -- the column's places as places of the block
    place_in : (d : ℕ) → start + n + d * stride ≡ start + (d * stride + n)
    place_in d = omega arith

    other_column : (d o : ℕ) → o < stride → o ≢ n → at next (start + (d * stride + o)) ≡ at cur (start + (d * stride + o))
    other_column d o h ne = column.outside (start + (d * stride + o)) λ i l e. digits-apart d i h in_block ne (omega arith)

    same_place : (d : ℕ) → d < z → at cur (start + n + d * stride) ≡ at row (start + (d * stride + n))
    same_place d h = ap (at cur) (place_in d) ∙ done.waiting d n h (omega arith) in_block

    this_column : (d : ℕ) → d < z
        → at next (start + (d * stride + n)) ≡ lowered_cost is_set (at row (start + (d * stride + n))) (least_below z (λ i. at row (start + (i * stride + n))))
    this_column d h =
        ap (at next) (sym (place_in d)) ∙ column.inside d h
        ∙ ap₂ (lowered_cost is_set) (same_place d h) (least_below-same z (λ i. at cur (start + n + i * stride)) (λ i. at row (start + (i * stride + n))) some same_place)

    pub block_next : LowersBlock is_set start z stride (n + 1) row next
    block_next = record {
      same_length = column.same_length ∙ done.same_length;
      inside = λ d o h l. inside d o h l (ℕ_discrete o n);
      waiting = λ d o h l m. other_column d o m (omega arith) ∙ done.waiting d o h (omega arith) m;
      outside = λ p x. column.outside p (apart p x) ∙ done.outside p x;
    }
      where
        inside : (d o : ℕ) → d < z → o < n + 1 → Dec (o ≡ n)
            → at next (start + (d * stride + o)) ≡ lowered_cost is_set (at row (start + (d * stride + o))) (least_below z (λ i. at row (start + (i * stride + o))))
        inside d o h l (yes e) = rw e (this_column d h)
        inside d o h l (no ne) = other_column d o (omega arith) ne ∙ done.inside d o h (omega arith)

        apart : (p : ℕ) → (p < start) ⊎ (start + z * stride ≤ p) → (i : ℕ) → i < z → p ≢ start + n + i * stride
        apart p (inl h) i l e = omega arith
        apart p (inr h) i l e = let d : i * stride + n < z * stride = digits_lt l in_block in omega arith

-- ---- a row

-- a block that begins before the end ends there at the latest
pub block_inside : (q n width : ℕ) → q * width < n * width → q * width + width ≤ n * width
block_inside q n width h =
    let more : suc q * width ≤ n * width = mul-le-mul_right width (lt_of_mul-lt-mul_right width h) in
    omega (arith, suc-mul q width)

-- as many blocks as make the row
pub block_count : (q n width : ℕ) → 0 < width → q * width ≡ n * width → q ≡ n
block_count q n width h e = let a : q ≤ n = le_of_mul-le-mul_right (omega arith) h in let b : n ≤ q = le_of_mul-le-mul_right (omega arith) h in omega arith

module _ (is_set : Bool) (z stride : ℕ) where
  pub blocks_start : (row : List ℕ) → LowersBlocks is_set z stride 0 row row
  blocks_start row = record { same_length = refl; is_pass = record { places = λ q d o h. absurd (omega arith) }; beyond = λ p h. refl }

  pub blocks_next : {n : ℕ} {row cur next : List ℕ} → LowersBlocks is_set z stride n row cur → LowersBlock is_set (n * (z * stride)) z stride stride cur next
      → LowersBlocks is_set z stride (suc n) row next
  blocks_next {n} {row} {cur} {next} done block = record {
    same_length = block.same_length ∙ done.same_length;
    is_pass = record { places = λ q d o h l m. places q d o h l m (ℕ_discrete q n) };
    beyond = λ p h. block.outside p (inr (omega (arith, suc-mul n (z * stride)))) ∙ done.beyond p (omega (arith, suc-mul n (z * stride)));
  }
    where
      place : (q d o : ℕ) → ℕ
      place q d o = q * (z * stride) + (d * stride + o)

      kept : (d o : ℕ) → at cur (place n d o) ≡ at row (place n d o)
      kept d o = done.beyond (place n d o) (omega arith)

      this_block : (d o : ℕ) → d < z → o < stride → at next (place n d o) ≡ lowered_cost is_set (at row (place n d o)) (least_below z (λ i. at row (place n i o)))
      this_block d o l m =
          block.inside d o l m
          ∙ ap₂ (lowered_cost is_set) (kept d o) (least_below-same z (λ i. at cur (place n i o)) (λ i. at row (place n i o)) (omega arith) λ i h. kept i o)

      places : (q d o : ℕ) → q < suc n → d < z → o < stride → Dec (q ≡ n)
          → at next (place q d o) ≡ lowered_cost is_set (at row (place q d o)) (least_below z (λ i. at row (place q i o)))
      places q d o h l m (yes e) = rw e (this_block d o l m)
      places q d o h l m (no ne) =
          let before : q * (z * stride) + (d * stride + o) < n * (z * stride) = digits_lt (omega arith) (digits_lt l m) in
          block.outside (place q d o) (inl before) ∙ done.is_pass.places q d o (omega arith) l m
