-- After the passes over all streams, the last stream first, every place holds the least cost of a letter with the changes to it. By induction over the
-- streams, since the digits of a letter's number are taken apart in the same order.
use Prim.Native.Nat.{ℕ, zero, suc, ◌+◌, ◌*◌, ◌/◌, ◌%◌, ◌≤◌, ◌<◌}
use native.Mathlib.Omega.{arith}
use native.Mathlib.Nat.{mod-lt, div-add-mod', div-lt_iff_lt-mul, add-mul, mul_assoc, add_assoc, zero-add, zero-mul}
use native.Mathlib.Decide.{ℕ_discrete}
use mathlib.Core.Path.{◌≡◌, refl, sym, ◌∙◌, ap, subst}
use mathlib.Core.Logic.{◌⊎◌, inl, inr, ◌≢◌}
use mathlib.Core.Bool.{Bool, true, false, cond}
use mathlib.Core.List.{List, [], ◌∷◌}
use lib.Dec.{ltb, ltb→lt, lt→ltb, nltb→le}
use lib.Arith.{le→nltb, digits_lt}
use native.Mathlib.Numerals.{add-one}
use Rattle.basics.proofs.Tests.{cond_cases, cond_true, cond_false}
use Rattle.meaning.proofs.Letter.{positive-right}
use Rattle.changes.specs.Axes.{Axis, letter_total, changed_along}
use Rattle.changes.specs.Least.{IsLeastFrom}
use Rattle.changes.specs.Passes.{least_below, lowered_cost, IsPass, AxisPasses, done, pass, change}
use Rattle.changes.proofs.Axes.{change-same, change-other, changed-digits, changed_self}

-- ---- the least of some numbers

smaller_bounds : (x l : ℕ) → (cond (ltb x l) x l ≤ x) × (cond (ltb x l) x l ≤ l)
smaller_bounds x l =
    cond_cases (λ y. (y ≤ x) × (y ≤ l)) (ltb x l) (λ t. let b = ltb→lt x l t in (omega arith, omega arith)) (λ t. let b = nltb→le x l t in (omega arith, omega arith))

pub least_below-bound : (n : ℕ) (f : ℕ → ℕ) (i : ℕ) → i < n → least_below n f ≤ f i
unfolding least_below
least_below-bound zero f i h = absurd (omega arith)
least_below-bound (suc n) f i h = go (least_below n f) (least_below-bound n f i) (ℕ_discrete i n)
  where
    go : (l : ℕ) → (i < n → l ≤ f i) → Dec (i ≡ n) → cond (ltb (f n) l) (f n) l ≤ f i
    go l r (yes e) = subst (λ j. cond (ltb (f n) l) (f n) l ≤ f j) (sym e) (smaller_bounds (f n) l).0
    go l r (no e) = let b = r (omega arith) in let d = (smaller_bounds (f n) l).1 in omega arith

-- One number more is the least, or leaves it as it is.
pub least_below-lower : (n : ℕ) (f : ℕ → ℕ) {l : ℕ} → l ≡ least_below n f → f n < l → f n ≡ least_below (n + 1) f
unfolding least_below
least_below-lower n f e h = rw add-one (sym (cond_true (ltb (f n) (least_below n f)) (f n) (least_below n f) (lt→ltb (f n) (least_below n f) (omega arith))))

pub least_below-kept : (n : ℕ) (f : ℕ → ℕ) {l : ℕ} → l ≡ least_below n f → l ≤ f n → l ≡ least_below (n + 1) f
unfolding least_below
least_below-kept n f e h = rw add-one (e ∙ sym (cond_false (ltb (f n) (least_below n f)) (f n) (least_below n f) (le→nltb (f n) (least_below n f) (omega arith))))

-- Some place has the least.
pub record Attained (n : ℕ) (f : ℕ → ℕ) (l : ℕ) : Type 0 where
  pub place : ℕ
  pub below : place < n
  pub equation : l ≡ f place

pub least_below-attained : (n : ℕ) (f : ℕ → ℕ) → 0 < n → Attained n f (least_below n f)
unfolding least_below
least_below-attained zero f h = absurd (omega arith)
least_below-attained (suc zero) f h =
    cond_cases (Attained 1 f) (ltb (f 0) (f 0)) (λ t. record { place = 0; below = h; equation = refl }) (λ t. record { place = 0; below = h; equation = refl })
least_below-attained (suc (suc n)) f h = go (least_below (suc n) f) (least_below-attained (suc n) f (omega arith))
  where
    go : (l : ℕ) → Attained (suc n) f l → Attained (suc (suc n)) f (cond (ltb (f (suc n)) l) (f (suc n)) l)
    go l r =
        cond_cases (Attained (suc (suc n)) f) (ltb (f (suc n)) l) (λ t. record { place = suc n; below = omega arith; equation = refl })
        (λ t. let b = r.below in record { place = r.place; below = omega arith; equation = r.equation })

pub least_below-same : (n : ℕ) (f g : ℕ → ℕ) → 0 < n → ((i : ℕ) → i < n → f i ≡ g i) → least_below n f ≡ least_below n g
least_below-same n f g h e =
    let x = least_below-attained n f h in
    let y = least_below-attained n g h in
    omega (
      arith,
      x.equation,
      y.equation,
      e x.place x.below,
      e y.place y.below,
      least_below-bound n f y.place y.below,
      least_below-bound n g x.place x.below,
    )

-- ---- what a place becomes

lowered-own : (own least : ℕ) → lowered_cost true own least ≤ own
lowered-own own least = cond_cases (λ x. x ≤ own) (ltb least own) (λ t. ltb→lt least own t) (λ t. omega arith)

lowered-least : (own least : ℕ) → lowered_cost true own least ≤ suc least
lowered-least own least = cond_cases (λ x. x ≤ suc least) (ltb least own) (λ t. omega arith) (λ t. let b = nltb→le least own t in omega arith)

lowered-cases : (own least : ℕ) → (lowered_cost true own least ≡ own) ⊎ ((lowered_cost true own least ≡ suc least) × (least < own))
lowered-cases own least = cond_cases (λ x. (x ≡ own) ⊎ ((x ≡ suc least) × (least < own))) (ltb least own) (λ t. inr (refl, ltb→lt least own t)) (λ t. inl refl)

-- ---- one stream more

pub place-split : (q z d k o : ℕ) → (q * z + d) * k + o ≡ q * (z * k) + (d * k + o)
place-split q z d k o = ap (λ x. x + o) (add-mul (q * z) d k ∙ ap (λ x. x + d * k) (mul_assoc q z k)) ∙ add_assoc (q * (z * k)) (d * k) o

-- One block: `mid i` is the least of the later streams' changes and costs at value i; then what place d * stride + o becomes is the least
-- with the first stream's changes.
module _ (xs : List Axis) (z o : ℕ) (ho : o < letter_total xs) (mid : ℕ → ℕ) (cost : ℕ → ℕ → ℕ) where
  -- the changes from the value d and the letter o to the value i and the letter p
  abbrev changes_to : (c : Bool) (d i p : ℕ) → ℕ
  changes_to c d i p = change c d i + changed_along xs o p

  block_bound : (c : Bool) (d i p : ℕ) → d < z → i < z → p < letter_total xs → ((i : ℕ) → i < z → mid i ≤ changed_along xs o p + cost i p)
      → lowered_cost c (mid d) (least_below z mid) ≤ changes_to c d i p + cost i p
  block_bound false d i p hd hi hp h =
      let l = least_below-bound z mid i hi in
      let m = h i hi in
      omega arith
  block_bound true d i p hd hi hp h = go (ℕ_discrete d i)
    where
      go : Dec (d ≡ i) → lowered_cost true (mid d) (least_below z mid) ≤ changes_to true d i p + cost i p
      go (yes e) =
          let l = lowered-own (mid d) (least_below z mid) in
          let m : mid d ≤ changed_along xs o p + cost i p = subst (λ j. mid j ≤ changed_along xs o p + cost i p) (sym e) (h i hi) in
          omega arith
      go (no e) =
          let l = lowered-least (mid d) (least_below z mid) in
          let b = least_below-bound z mid i hi in
          let m = h i hi in
          let k = change-other e in
          omega arith

  -- A value and a letter of the later streams that attain what the place becomes.
  record Reached (c : Bool) (d l : ℕ) : Type 0 where
    value : ℕ
    rest : ℕ
    value_below : value < z
    rest_below : rest < letter_total xs
    equation : l ≡ changes_to c d value rest + cost value rest

  block_reached : (c : Bool) (d : ℕ) → d < z → ((i : ℕ) → i < z → Attained (letter_total xs) (λ p. changed_along xs o p + cost i p) (mid i))
      → Reached c d (lowered_cost c (mid d) (least_below z mid))
  block_reached false d hd h =
      let a = least_below-attained z mid (omega arith) in
      let w = h a.place a.below in
      let e = a.equation in
      let f = w.equation in
      record { value = a.place; rest = w.place; value_below = a.below; rest_below = w.below; equation = omega arith }
  block_reached true d hd h = go (lowered-cases (mid d) (least_below z mid))
    where
      a : Attained z mid (least_below z mid)
      a = least_below-attained z mid (omega arith)

      go : (lowered_cost true (mid d) (least_below z mid) ≡ mid d) ⊎ ((lowered_cost true (mid d) (least_below z mid) ≡ suc (least_below z mid)) × (least_below z mid < mid d))
          → Reached true d (lowered_cost true (mid d) (least_below z mid))
      go (inl e) =
          let w = h d hd in
          let f = w.equation in
          let k = change-same true d d refl in
          record { value = d; rest = w.place; value_below = hd; rest_below = w.below; equation = omega arith }
      go (inr (e, l)) =
          let w = h a.place a.below in
          let f = w.equation in
          let g = a.equation in
          let apart : d ≢ a.place = λ x. let y = ap mid x in omega arith in
          let k = change-other apart in
          record { value = a.place; rest = w.place; value_below = a.below; rest_below = w.below; equation = omega arith }

-- Place a of the block that begins at `base` holds the least.
abbrev pub IsLeastIn : (xs : List Axis) (row next : ℕ → ℕ) (base a : ℕ) → Type 0
IsLeastIn xs row next base a = IsLeastFrom xs (λ b. row (base + b)) a (next (base + a))

-- If the later streams' passes give the least in every block, so do they with the pass over one stream before them.
pub pass-least : (x : Axis) (xs : List Axis) (blocks : ℕ) (row mid next : ℕ → ℕ)
    → ((q : ℕ) → q < blocks * x.values → (o : ℕ) → o < letter_total xs → IsLeastIn xs row mid (q * letter_total xs) o)
    → IsPass x.counts x.values (letter_total xs) blocks mid next
    → (q a : ℕ) → q < blocks → a < letter_total (x ∷ xs) → IsLeastIn (x ∷ xs) row next (q * letter_total (x ∷ xs)) a
unfolding letter_total
pass-least x xs blocks row mid next later one q a hq ha =
    subst (IsLeastIn (x ∷ xs) row next (q * (z * k))) whole
    (record {
      bound = bound;
      best = r.value * k + r.rest;
      letter = digits_lt r.value_below r.rest_below;
      attained = now ∙ r.equation ∙ ap (λ y. y + costs r.value r.rest) (sym (changed-digits x xs d r.value ho r.rest_below));
    })
  where
    z : ℕ
    z = x.values

    k : ℕ
    k = letter_total xs

    hk : 0 < k
    hk = positive-right z k ha

    d : ℕ
    d = a / k

    o : ℕ
    o = a % k

    whole : d * k + o ≡ a
    whole = div-add-mod' a k

    hd : d < z
    hd = (div-lt_iff_lt-mul hk).1 ha

    ho : o < k
    ho = mod-lt a hk

    mids : ℕ → ℕ
    mids i = mid (q * (z * k) + (i * k + o))

    costs : ℕ → ℕ → ℕ
    costs i p = row (q * (z * k) + (i * k + p))

    now : next (q * (z * k) + (d * k + o)) ≡ lowered_cost x.counts (mids d) (least_below z mids)
    now = one.places q d o hq hd ho

    at : (i : ℕ) → i < z → IsLeastIn xs row mid ((q * z + i) * k) o
    at i hi = later (q * z + i) (digits_lt hq hi) o ho

    mids_bound : (p : ℕ) → p < k → (i : ℕ) → i < z → mids i ≤ changed_along xs o p + costs i p
    mids_bound p hp i hi = subst (λ y. mid y ≤ changed_along xs o p + costs i p) (place-split q z i k o) (subst (λ y. mid ((q * z + i) * k + o) ≤ changed_along xs o p + row y) (place-split q z i k p) ((at i hi).bound p hp))

    mids_attained : (i : ℕ) → i < z → Attained k (λ p. changed_along xs o p + costs i p) (mids i)
    mids_attained i hi =
        let l = at i hi in
        record { place = l.best; below = l.letter; equation = ap mid (sym (place-split q z i k o)) ∙ l.attained ∙ ap (λ y. changed_along xs o l.best + row y) (place-split q z i k l.best) }

    r : Reached xs z o ho mids costs x.counts d (lowered_cost x.counts (mids d) (least_below z mids))
    r = block_reached xs z o ho mids costs x.counts d hd mids_attained

    bound-digits : (i p : ℕ) → i < z → p < k → next (q * (z * k) + (d * k + o)) ≤ changed_along (x ∷ xs) (d * k + o) (i * k + p) + row (q * (z * k) + (i * k + p))
    bound-digits i p hi hp = subst (λ y. y ≤ changed_along (x ∷ xs) (d * k + o) (i * k + p) + costs i p) (sym now)
        (subst (λ y. lowered_cost x.counts (mids d) (least_below z mids) ≤ y + costs i p) (sym (changed-digits x xs d i ho hp)) (block_bound xs z o ho mids costs x.counts d i p hd hi hp (mids_bound p hp)))

    bound : (b : ℕ) → b < z * k → next (q * (z * k) + (d * k + o)) ≤ changed_along (x ∷ xs) (d * k + o) b + row (q * (z * k) + b)
    bound b hb = subst (λ y. next (q * (z * k) + (d * k + o)) ≤ changed_along (x ∷ xs) (d * k + o) y + row (q * (z * k) + y)) (div-add-mod' b k) (bound-digits (b / k) (b % k) ((div-lt_iff_lt-mul hk).1 hb) (mod-lt b hk))

-- ---- all streams

-- With no stream there is one letter.
no_stream-least : (row : ℕ → ℕ) (q a : ℕ) → a < letter_total [] → IsLeastIn [] row row (q * letter_total []) a
unfolding letter_total changed_along
no_stream-least row q a ha =
    record {
      bound = λ b hb. let e : q * 1 + a ≡ q * 1 + b = omega arith in let f = ap row e in omega arith;
      best = 0;
      letter = omega arith;
      attained = let e : q * 1 + a ≡ q * 1 + 0 = omega arith in let f = ap row e in omega arith;
    }

-- After the passes, in every block, each place holds the least.
passes-least : {xs : List Axis} {blocks : ℕ} {row next : ℕ → ℕ} → AxisPasses xs blocks row next
    → (q : ℕ) → q < blocks → (a : ℕ) → a < letter_total xs → IsLeastIn xs row next (q * letter_total xs) a
passes-least (done {row = row}) q hq a ha = no_stream-least row q a ha
passes-least (pass {x = x} {xs = xs} {blocks = blocks} {row = row} {mid = mid} {next = next} later one) q hq a ha =
    pass-least x xs blocks row mid next (λ q hq o ho. passes-least later q hq o ho) one q a hq ha

-- In a row of one block.
pub letters-least : {xs : List Axis} {row next : ℕ → ℕ} → AxisPasses xs 1 row next → (a : ℕ) → a < letter_total xs → IsLeastFrom xs row a (next a)
letters-least {xs} {row} {next} passes a ha =
    subst (λ f. IsLeastFrom xs f a (next a)) (λ i b. row (first b i)) (subst (λ y. IsLeastFrom xs (λ b. row (0 * letter_total xs + b)) a (next y)) (first a) (passes-least passes 0 (omega arith) a ha))
  where
    first : (b : ℕ) → 0 * letter_total xs + b ≡ b
    first b = ap (λ y. y + b) (zero-mul (letter_total xs)) ∙ zero-add b

-- ---- what the least says

module _ {xs : List Axis} {cost : ℕ → ℕ} {a v : ℕ} (least : IsLeastFrom xs cost a v) where
  -- No place rises.
  pub least-lower : a < letter_total xs → v ≤ cost a
  least-lower h = let b = least.bound a h in let e = changed_self xs a in omega arith

  -- There is one least, ..
  pub least_unique : {w : ℕ} → IsLeastFrom xs cost a w → v ≡ w
  least_unique other =
      let b = least.bound other.best other.letter in
      let c = other.bound least.best least.letter in
      omega (arith, least.attained, other.attained)

-- It depends on the letters' costs alone, ..
pub least-same : {xs : List Axis} {cost other : ℕ → ℕ} {a v : ℕ} → ((b : ℕ) → b < letter_total xs → cost b ≡ other b) → IsLeastFrom xs cost a v → IsLeastFrom xs other a v
least-same same least = record {
  bound = λ b h. let e = same b h in let l = least.bound b h in omega arith;
  best = least.best;
  letter = least.letter;
  attained = let e = same least.best least.letter in omega (arith, least.attained);
}

-- .. and where there is a letter there is one.
pub least_below-least : (xs : List Axis) (cost : ℕ → ℕ) (a : ℕ) → 0 < letter_total xs → IsLeastFrom xs cost a (least_below (letter_total xs) (λ b. changed_along xs a b + cost b))
least_below-least xs cost a h =
    let x = least_below-attained (letter_total xs) (λ b. changed_along xs a b + cost b) h in
    record { bound = least_below-bound (letter_total xs) (λ b. changed_along xs a b + cost b); best = x.place; letter = x.below; attained = x.equation }
