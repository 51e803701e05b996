-- What each turn of the loops does that write the changes from one letter to all: one number of a part, one value of a stream, one stream. From the digits
-- of letters' numbers.
use Prim.Native.Nat.{ℕ, zero, suc, ◌+◌, ◌-◌, ◌*◌, ◌/◌, ◌%◌, ◌≤◌, ◌<◌}
use native.Mathlib.Omega.{arith}
use native.Mathlib.Nat.{add_comm, suc-mul, zero-mul, mul-le-mul_right, mod-lt, div-add-mod', div-lt_iff_lt-mul}
use native.Mathlib.Decide.{ℕ_discrete}
use mathlib.Core.Path.{◌≡◌, refl, sym, ◌∙◌, ap, subst}
use mathlib.Core.Logic.{◌⊎◌, inl, inr, ◌≢◌}
use mathlib.Core.Bool.{Bool}
use mathlib.Core.List.{List, [], ◌∷◌}
use lib.Arith.{mod-mul}
use lib.ListN.{length, set, length-set}
use lib.Seq.{get_or-set_same, get_or-set_other}
use Rattle.basics.specs.Lists.{at}
use Rattle.meaning.proofs.Letter.{positive-left, positive-right}
use Rattle.changes.specs.Axes.{Axis, letter_total, changed_along}
use Rattle.changes.specs.Passes.{change, SpreadsPart, SpreadsStream}
use Rattle.changes.proofs.Axes.{changed-digits}

-- ---- a part

module _ (from more : ℕ) where
  pub part-start : (row : List ℕ) → SpreadsPart from more 0 row row
  part-start row = record { same_length = refl; inside = λ o h. absurd (omega arith); outside = λ p x. refl }

  -- the number that is read was not written before
  pub part-source : {n stride : ℕ} {row cur : List ℕ} → (from ≡ 0) ⊎ (stride ≤ from) → n < stride → SpreadsPart from more n row cur → at cur n ≡ at row n
  part-source {n} (inl e) h done = done.outside n (inr (omega arith))
  part-source {n} (inr l) h done = done.outside n (inl (omega arith))

  pub part-next : {n stride : ℕ} {row cur : List ℕ} → (from ≡ 0) ⊎ (stride ≤ from) → n < stride → from + n < length cur → SpreadsPart from more n row cur
      → SpreadsPart from more (n + 1) row (set cur (from + n) (at cur n + more))
  part-next {n} {stride} {row} {cur} where-from h inside done = record {
    same_length = length-set cur (from + n) (at cur n + more) ∙ done.same_length;
    inside = λ o l. at_offset o l (ℕ_discrete o n);
    outside = λ p x. get_or-set_other cur (from + n) p (at cur n + more) 0 (apart p x) ∙ done.outside p (earlier p x);
  }
    where
      apart : (p : ℕ) → (p < from) ⊎ (from + (n + 1) ≤ p) → p ≢ from + n
      apart p (inl l) e = omega arith
      apart p (inr l) e = omega arith

      earlier : (p : ℕ) → (p < from) ⊎ (from + (n + 1) ≤ p) → (p < from) ⊎ (from + n ≤ p)
      earlier p (inl l) = inl l
      earlier p (inr l) = inr (omega arith)

      at_offset : (o : ℕ) → o < n + 1 → Dec (o ≡ n) → at (set cur (from + n) (at cur n + more)) (from + o) ≡ at row o + more
      at_offset o l (yes e) = rw e (get_or-set_same cur (from + n) (at cur n + more) 0 inside ∙ ap (λ x. x + more) (part-source where-from h done))
      at_offset o l (no ne) = get_or-set_other cur (from + n) (from + o) (at cur n + more) 0 (omega arith) ∙ done.inside o (omega arith)

-- ---- a stream

-- the part of a value is the front itself, or lies behind it
pub part_apart : (stride n : ℕ) → (n * stride ≡ 0) ⊎ (stride ≤ n * stride)
part_apart stride zero = inl (zero-mul stride)
part_apart stride (suc n) = inr (omega (arith, suc-mul n stride))

-- the part of the value before x, of which there are z
pub part-inside : (z stride x : ℕ) {room : ℕ} → 0 < x → x ≤ z → z * stride ≤ room → (x - 1) * stride + stride ≤ room
part-inside z stride x h l fits =
    let most : suc (x - 1) * stride ≤ z * stride = mul-le-mul_right stride (omega arith) in
    omega (arith, suc-mul (x - 1) stride)

module _ (is_set : Bool) (z stride own : ℕ) where
  pub stream-start : (row : List ℕ) → SpreadsStream is_set z stride own z row row
  stream-start row = record { same_length = refl; inside = λ d o h l. absurd (omega arith); front = λ h o l. refl }

  pub stream-next : {n : ℕ} {row cur next : List ℕ} → SpreadsStream is_set z stride own (suc n) row cur
      → SpreadsPart (n * stride) (change is_set own n) stride cur next → SpreadsStream is_set z stride own n row next
  stream-next {n} {row} {cur} {next} done part = record {
    same_length = part.same_length ∙ done.same_length;
    inside = λ d o h l m. inside d o h l m (ℕ_discrete d n);
    front = front n refl;
  }
    where
      source : (o : ℕ) → o < stride → at cur o ≡ at row o
      source = done.front (omega arith)

      inside : (d o : ℕ) → n ≤ d → d < z → o < stride → Dec (d ≡ n) → at next (d * stride + o) ≡ at row o + change is_set own d
      inside d o h l m (yes e) = rw e (part.inside o m ∙ ap (λ x. x + change is_set own n) (source o m))
      inside d o h l m (no ne) =
          let more : suc n * stride ≤ d * stride = mul-le-mul_right stride (omega arith) in
          let one : suc n * stride ≡ n * stride + stride = suc-mul n stride in
          part.outside (d * stride + o) (inr (omega arith)) ∙ done.inside d o (omega arith) l m

      front : (m : ℕ) → m ≡ n → 0 < n → (o : ℕ) → o < stride → at next o ≡ at row o
      front zero e h o l = absurd (omega arith)
      front (suc m) e h o l =
          let one : suc m * stride ≡ m * stride + stride = suc-mul m stride in
          let same = ap (λ x. x * stride) e in
          part.outside o (inl (omega arith)) ∙ source o l

-- ---- all streams

-- The first numbers are the changes from the letter, cut to these streams, to each of their letters.
pub record Counted (xs : List Axis) (letter : ℕ) (row : List ℕ) : Type 0 where
  pub counts : (b : ℕ) → b < letter_total xs → at row b ≡ changed_along xs (letter % letter_total xs) b

pub counted_none : {letter : ℕ} {row : List ℕ} → at row 0 ≡ 0 → Counted [] letter row
unfolding letter_total changed_along
counted_none {letter} {row} e = record { counts = λ b h. ap (at row) (let f : b ≡ 0 = omega arith in f) ∙ e }

pub counted_next : (x : Axis) (xs : List Axis) {letter : ℕ} {row next : List ℕ} → 0 < letter_total (x ∷ xs) → Counted xs letter row
    → SpreadsStream x.counts x.values (letter_total xs) (letter / letter_total xs % x.values) 0 row next → Counted (x ∷ xs) letter next
unfolding letter_total
counted_next x xs {letter} {row} {next} some done spread = record { counts = λ b h. subst (λ c. at next c ≡ changed_along (x ∷ xs) (letter % (z * k)) c) (div-add-mod' b k) (digits (b / k) (b % k) ((div-lt_iff_lt-mul hk).1 h) (mod-lt b hk)) }
  where
    z : ℕ
    z = x.values

    k : ℕ
    k = letter_total xs

    hk : 0 < k
    hk = positive-right z k some

    hz : 0 < z
    hz = positive-left z k some

    digits : (d o : ℕ) → d < z → o < k → at next (d * k + o) ≡ changed_along (x ∷ xs) (letter % (z * k)) (d * k + o)
    digits d o hd ho =
        spread.inside d o (omega arith) hd ho ∙ ap (λ y. y + change x.counts (letter / k % z) d) (done.counts o ho)
        ∙ add_comm (changed_along xs (letter % k) o) (change x.counts (letter / k % z) d)
        ∙ sym (changed-digits x xs (letter / k % z) d (mod-lt letter hk) ho) ∙ ap (λ y. changed_along (x ∷ xs) y (d * k + o)) (sym (mod-mul letter hz hk))
