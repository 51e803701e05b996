-- Lawful records and situations, one letter at a time: what is judged of a record depends only on its own letters, so a beginning of a lawful
-- record is lawful and one more letter judges one more time. From the reach of the sides (proofs/Bounds) and `value-near` (proofs/Window).
use Prim.Native.Nat.{ℕ, suc, ◌+◌, ◌-◌, ◌≤◌, ◌<◌}
use native.Mathlib.Omega.{arith}
use mathlib.Core.Path.{◌≡◌, sym, ◌∙◌, ap, ap₂, subst}
use mathlib.Core.Bool.{Bool, ◌&&◌, ◌||◌}
use mathlib.Core.List.{List, [], ◌∷◌, ◌++◌, map, Memᴰ}
use lib.Dec.{T, leb, le→leb}
use lib.Arith.{lt→nleb}
use lib.ListN.{length, get_or, drop, length-append, get_or-append}
use lib.IntN.{pos}
use Rattle.basics.proofs.Tests.{cond_true, cond_false}
use Rattle.meaning.specs.Value.{Value, truth, Streams}
use Rattle.meaning.specs.Expression.{Constraint, always, until, left_side, right_side, holds, value}
use Rattle.meaning.specs.Letter.{Letter, Record, streams_of}
use Rattle.meaning.specs.Window.{reach, B, D, all_firsts, all_untils}
use Rattle.meaning.specs.Situation.{every_before, all, whole, cut, done, permits, lawful, first_values, until_marks, situation}
use Rattle.meaning.proofs.Facts.{length-snoc, all-at, all_of, all_cong, all-&&, map_cong, every_before-fewer, every_before_cong, some_before_cong}
use Rattle.meaning.proofs.Window.{value-near}
use Rattle.meaning.proofs.Bounds.{sides-within, first-within, until-member}

-- What is judged of streams

module _ (w v : Streams) (N : ℕ) (same : (k t : ℕ) → t < N → w k t ≡ v k t) (d : ℕ) where
  done-near : (c : Constraint) → reach (right_side c) ≤ d → (n : ℕ) → ((i : ℕ) → i < n → i + d < N) → done w c n ≡ done v c n
  unfolding done
  done-near c hr n h = some_before_cong _ _ n (λ i l. let k = h i l in ap truth (value-near w v N same (right_side c) i (omega arith)))

  permits-near : (c : Constraint) → reach (left_side c) ≤ d → reach (right_side c) ≤ d → (i : ℕ) → i + d < N → permits w c i ≡ permits v c i
  unfolding permits
  permits-near (always s a b) hl hr i h = ap₂ (holds s) (value-near w v N same a i (omega arith)) (value-near w v N same b i (omega arith))
  permits-near (until a b) hl hr i h =
      ap₂ ◌||◌ (ap truth (value-near w v N same a i (omega arith))) (done-near (until a b) hr (suc i) (λ j l. omega arith))

-- The record's letters are those of the streams at its times.
pub record BeginsStreams (w : Streams) (r : Record) : Type 0 where
  pub letters : (k t : ℕ) → t < length r → streams_of r k t ≡ w k t

pub append-begins : (r u : Record) → BeginsStreams (streams_of (r ++ u)) r
append-begins r u = record { letters = λ k t h. ap (λ l. get_or l k (pos 0)) (sym (get_or-append r u [] t h)) }

-- What is judged of a record is what is judged at its times of streams that it begins.
module _ (cs : List Constraint) (w : Streams) (r : Record) (b : BeginsStreams w r) where
  pub done-begins : (c : Constraint) → Memᴰ c cs → (n : ℕ) → n ≤ length r - D cs → done (streams_of r) c n ≡ done w c n
  done-begins c m n h = done-near (streams_of r) w (length r) b.letters (D cs) c (sides-within cs c m).reach_right n (λ i l. omega arith)

  pub lawful-begins : lawful cs r ≡ all (λ c. every_before (permits w c) (length r - D cs)) cs
  unfolding lawful
  lawful-begins =
      all_cong _ _ cs
      (λ c m.
      let x = sides-within cs c m in
      every_before_cong _ _ (length r - D cs) (λ i l. permits-near (streams_of r) w (length r) b.letters (D cs) c x.reach_left x.reach_right i (omega arith)))

  -- The values of the firsts are settled once D+1 letters are there.
  pub first_values-begins : D cs < length r → first_values cs r ≡ map (λ e. value w e 0) (all_firsts cs)
  unfolding first_values
  first_values-begins h = map_cong _ _ (all_firsts cs) (λ e m. let x = first-within cs e m in value-near (streams_of r) w (length r) b.letters e 0 (omega arith))

  pub until_marks-begins : until_marks cs r ≡ map (λ c. done w c (length r - D cs)) (all_untils cs)
  unfolding until_marks
  until_marks-begins = map_cong _ _ (all_untils cs) (λ c m. done-begins c ((until-member cs c).0 m).0 (length r - D cs) (omega arith))

-- Longer records

module _ (cs : List Constraint) where
  -- Nothing is judged of a record of at most D letters, so also not of the empty one.
  pub lawful-short : (r : Record) → length r ≤ D cs → T (lawful cs r)
  unfolding lawful
  lawful-short r h = all_of _ cs (λ c m. let e : length r - D cs ≡ 0 = omega arith in rw e tt)

  pub lawful-beginning : (r u : Record) → T (lawful cs (r ++ u)) → T (lawful cs r)
  unfolding lawful
  lawful-beginning r u t =
      subst T (sym (lawful-begins cs (streams_of (r ++ u)) r (append-begins r u)))
      (all_of _ cs (λ c m. every_before-fewer _ (length r - D cs) (length (r ++ u) - D cs) (omega (arith, length-append r u)) (all-at _ cs t c m)))

  -- One more letter judges one more time.
  pub lawful-snoc : (r : Record) (l : Letter) → D cs ≤ length r
      → lawful cs (r ++ (l ∷ [])) ≡ (lawful cs r && all (λ c. permits (streams_of (r ++ (l ∷ []))) c (length r - D cs)) cs)
  unfolding lawful
  lawful-snoc r l h =
      let w = streams_of (r ++ (l ∷ [])) in
      let e : length (r ++ (l ∷ [])) - D cs ≡ suc (length r - D cs) = omega (arith, length-snoc r l) in
      ap (λ n. all (λ c. every_before (permits w c) n) cs) e
      ∙ all-&& _ _ cs
      ∙ ap (λ b. b && all (λ c. permits w c (length r - D cs)) cs) (sym (lawful-begins cs w r (append-begins r (l ∷ []))))

  pub first_values-append : (r u : Record) → D cs < length r → first_values cs (r ++ u) ≡ first_values cs r
  unfolding first_values
  first_values-append r u h = sym (first_values-begins cs (streams_of (r ++ u)) r (append-begins r u) h)

  -- One more letter marks also the untils whose right side is true at the time newly judged.
  pub until_marks-snoc : (r : Record) (l : Letter) → D cs ≤ length r
      → until_marks cs (r ++ (l ∷ []))
      ≡ map (λ c. done (streams_of r) c (length r - D cs) || truth (value (streams_of (r ++ (l ∷ []))) (right_side c) (length r - D cs))) (all_untils cs)
  unfolding until_marks done
  until_marks-snoc r l h =
      let w = streams_of (r ++ (l ∷ [])) in
      let e : length (r ++ (l ∷ [])) - D cs ≡ suc (length r - D cs) = omega (arith, length-snoc r l) in
      ap (λ n. map (λ c. done w c n) (all_untils cs)) e
      ∙ map_cong _ _ (all_untils cs)
      (λ c m. ap (λ b. b || truth (value w (right_side c) (length r - D cs)))
      (sym (done-begins cs w r (append-begins r (l ∷ [])) c ((until-member cs c).0 m).0 (length r - D cs) (omega arith))))

  -- Situations

  pub situation-whole : (r : Record) → length r ≤ D cs + B cs → situation cs r ≡ whole r
  unfolding situation
  situation-whole r h = cond_true (leb (length r) (D cs + B cs)) _ _ (le→leb (length r) (D cs + B cs) h)

  pub situation-cut : (r : Record) → D cs + B cs < length r
      → situation cs r ≡ cut (drop (length r - (D cs + B cs)) r) (first_values cs r) (until_marks cs r)
  unfolding situation
  situation-cut r h = cond_false (leb (length r) (D cs + B cs)) _ _ (lt→nleb (length r) (D cs + B cs) h)

pub whole_injective : {r s : Record} → whole r ≡ whole s → r ≡ s
whole_injective e = cc

pub cut_injective : {r s : Record} {x y : List Value} {m n : List Bool} → cut r x m ≡ cut s y n → (r ≡ s) × (x ≡ y) × (m ≡ n)
cut_injective e = (cc, cc, cc)

-- "a whole record never equals a cut one"
pub whole≢cut : {r s : Record} {x : List Value} {m : List Bool} → whole r ≡ cut s x m → ⊥
whole≢cut e = let z : ◌≡◌ {A = ℕ} 0 1 = cc in omega arith
