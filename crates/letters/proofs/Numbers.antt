-- Letters and their numbers, stream after stream: a number's digits from the last stream to the first, and a letter's number from the first to the last.
use Prim.Native.Nat.{ℕ, zero, suc, ◌+◌, ◌*◌, ◌/◌, ◌%◌, ◌≤◌, ◌<◌, min}
use native.Mathlib.Omega.{arith}
use native.Mathlib.Nat.{le_trans, le_refl, mul-le-mul_left, mul-le-mul_right, mul_comm, mul_assoc, mul-one, one-mul, zero-mul, add-mul, add_assoc, mod-lt, mod-eq_of_lt, div-add-mod', div-div-eq-div-mul, div-one}
use mathlib.Core.Path.{◌≡◌, refl, sym, ◌∙◌, ap, ap₂, subst}
use mathlib.Core.Bool.{Bool, true, false, cond, ◌&&◌}
use mathlib.Core.List.{List, [], ◌∷◌, ◌++◌, append_assoc}
use lib.Arith.{digits_lt, digits_div, digits_mod}
use lib.Dec.{leb}
use lib.IntN.{ℤ, pos, nat_abs, ◌+ℤ◌, ◌-ℤ◌}
use lib.ListN.{length, get_or, drop, take, set, take-append-drop}
use lib.Seq.{drop-cons, drop-length, take-suc, set_at, length-take-le}
use lib.Signed.{le_z}
use borrow.Author.Tests.{le-leb, lt-leb}
use mir.Syntax.{w64}
use mir.Val.{SFits}
use Rattle.basics.proofs.Reflects.{from_true, to_true, to_false}
use Rattle.meaning.specs.Expression.{Stream}
use Rattle.meaning.specs.Letter.{size, letter_count, letter_number, letter_of}
use Rattle.meaning.proofs.Letter.{size-within, within-size, letter_number-bound, positive-left, positive-right}
use Rattle.nodes.proofs.Record.{letter-length}
use Rattle.sheet.specs.Refusal.{letter_bound}
use Rattle.arithmetic.proofs.Machine.{held, held_both}
use Rattle.letters.specs.Described.{ranged, described, cut_count, is_letter, number_of, has_letter, with_letter}
use Rattle.letters.proofs.Above.{le_z_true, between-fits}
use Rattle.letters.proofs.Streams.{is_letter-sound, LetterThere, letter_reflects}
use Rattle.letters.proofs.Counts.{length-described, described-cons, described-end, count_from, count_from-end, count_from-step}

-- ---- digits

module _ (size c n : ℕ) (p : 0 < size) (q : 0 < c) where
  low_part : n % (size * c) ≡ n / c % size * c + n % c
  low_part =
      let e : n ≡ n / c / size * (size * c) + (n / c % size * c + n % c) =
      sym (div-add-mod' n c) ∙ ap (λ x. x * c + n % c) (sym (div-add-mod' (n / c) size))
      ∙ ap (λ x. x + n % c) (add-mul (n / c / size * size) (n / c % size) c ∙ ap (λ x. x + n / c % size * c) (mul_assoc (n / c / size) size c))
      ∙ add_assoc (n / c / size * (size * c)) (n / c % size * c) (n % c) in
      ap (λ x. x % (size * c)) e ∙ digits_mod (n / c / size) (digits_lt (mod-lt (n / c) p) (mod-lt n q))

  -- The quotient and the remainder by c of a number below size times c.
  pub digit-high : n % (size * c) / c ≡ n / c % size
  digit-high = ap (λ x. x / c) low_part ∙ digits_div (n / c % size) (mod-lt n q)

  pub digit_low : n % (size * c) % c ≡ n % c
  digit_low = ap (λ x. x % c) low_part ∙ digits_mod (n / c % size) (mod-lt n q)

-- ---- the counts of the streams from i on

pub right-≤ : (a b : ℕ) → 0 < a → b ≤ a * b
right-≤ a b p = subst (λ x. x ≤ a * b) (one-mul b) (mul-le-mul_right b p)

pub left-≤ : (a b : ℕ) → 0 < b → a ≤ a * b
left-≤ a b p = subst (λ x. x ≤ a * b) (mul-one a) (mul-le-mul_left a p)

module _ (lows highs : List ℤ) where
  abbrev count : ℕ → ℕ
  count = count_from lows highs

  abbrev width : ℕ
  width = min (length lows) (length highs)

  abbrev size_at : ℕ → ℕ
  size_at i = size (ranged (get_or lows i (pos 0)) (get_or highs i (pos 0))).range

  -- Where there is a letter, the streams from i on have letters, and no more than all streams.
  counts : 0 < count 0 → (i : ℕ) → i ≤ width → (0 < count i) × (count i ≤ count 0)
  counts p zero b = (p, le_refl (count 0))
  counts p (suc i) b =
      let h = counts p i (omega arith) in
      let e = count_from-step lows highs i b in
      let q : 0 < size_at i * count (suc i) = subst (λ x. 0 < x) e h.0 in
      (positive-right (size_at i) (count (suc i)) q, le_trans (subst (λ x. count (suc i) ≤ x) (sym e) (right-≤ (size_at i) (count (suc i)) (positive-left (size_at i) (count (suc i)) q))) h.1)

  -- Then a stream has values, and no more than there are letters.
  sizes : 0 < count 0 → (i : ℕ) → i < width → (0 < size_at i) × (size_at i ≤ count 0)
  sizes p i b =
      let h = counts p i (omega arith) in
      let e = count_from-step lows highs i b in
      let q : 0 < size_at i * count (suc i) = subst (λ x. 0 < x) e h.0 in
      (positive-left (size_at i) (count (suc i)) q, le_trans (subst (λ x. size_at i ≤ x) (sym e) (left-≤ (size_at i) (count (suc i)) (positive-right (size_at i) (count (suc i)) q))) h.1)

  -- What `values` answers for a stream is exact.
  pub size_exact : 0 < count 0 → count 0 ≤ 1024 → (i : ℕ) → i < width → SFits w64 (get_or lows i (pos 0)) → SFits w64 (get_or highs i (pos 0))
      → {v : ℕ} → v ≡ cut_count (size (ranged (held (get_or lows i (pos 0))) (held (get_or highs i (pos 0)))).range) → (v ≡ size_at i) × (0 < v)
  size_exact p l i b fl fh {v} e =
      let s = sizes p i b in
      let x : v ≡ cut_count (size_at i) = e ∙ held_both (λ a b. cut_count (size (ranged a b).range)) (get_or lows i (pos 0)) (get_or highs i (pos 0)) fl fh in
      (omega arith, omega arith)

  -- ---- from a number to a letter

  -- What the list holds once the streams from i on are written.
  abbrev pub written : ℕ → List ℤ → ℕ → List ℤ
  written number out i = take i out ++ (letter_of (drop i (described lows highs)) (number % count i) ++ drop width out)

  pub written_start : (number : ℕ) (out : List ℤ) {n : ℕ} → n ≡ width → out ≡ written number out n
  unfolding letter_of
  written_start number out {n} e =
      sym (ap (λ k. take k out ++ (letter_of (drop k (described lows highs)) (number % count k) ++ drop width out)) e
      ∙ ap (λ l. take width out ++ (letter_of l (number % count width) ++ drop width out)) (described-end lows highs refl) ∙ take-append-drop width out)

  letter_of-step : (number i : ℕ) → 0 < count 0 → i < width
      → letter_of (drop i (described lows highs)) (number % count i)
      ≡ (get_or lows i (pos 0) +ℤ pos (number / count (suc i) % size_at i)) ∷ letter_of (drop (suc i) (described lows highs)) (number % count (suc i))
  unfolding letter_of
  letter_of-step number i p b =
      let e = count_from-step lows highs i b in
      let s = sizes p i b in
      let c = counts p (suc i) b in
      ap (λ l. letter_of l (number % count i)) (described-cons lows highs i b)
      ∙ ap (λ m. (get_or lows i (pos 0) +ℤ pos (m / count (suc i))) ∷ letter_of (drop (suc i) (described lows highs)) (m % count (suc i))) (ap (λ x. number % x) e)
      ∙ ap₂ (λ x y. (get_or lows i (pos 0) +ℤ pos x) ∷ letter_of (drop (suc i) (described lows highs)) y)
      (digit-high (size_at i) (count (suc i)) number s.0 c.0) (digit_low (size_at i) (count (suc i)) number s.0 c.0)

  -- One stream more, from the last to the first.
  pub written-again : (number : ℕ) (out : List ℤ) → 0 < count 0 → (i : ℕ) → i < width → width ≤ length out → {now : List ℤ} {rest v : ℕ} {z : ℤ}
      → now ≡ written number out (suc i) → rest ≡ number / count (suc i) → v ≡ size_at i → z ≡ get_or lows i (pos 0) +ℤ pos (rest % v) → set now i z ≡ written number out i
  written-again number out p i b r {now} {rest} {v} {z} e q s h =
      let x = letter_of (drop (suc i) (described lows highs)) (number % count (suc i)) ++ drop width out in
      let l : now ≡ take i out ++ (get_or out i (pos 0) ∷ x) =
      e ∙ ap (λ t. t ++ x) (take-suc out i (pos 0) (omega arith)) ∙ append_assoc (take i out) (get_or out i (pos 0) ∷ []) x in
      let d : z ≡ get_or lows i (pos 0) +ℤ pos (number / count (suc i) % size_at i) = h ∙ ap₂ (λ a b. get_or lows i (pos 0) +ℤ pos (a % b)) q s in
      ap (λ t. set t i z) l ∙ set_at (take i out) (get_or out i (pos 0)) x z i (length-take-le i out (omega arith)) ∙ ap (λ y. take i out ++ (y ∷ x)) d
      ∙ ap (λ t. take i out ++ (t ++ drop width out)) (sym (letter_of-step number i p b))

  pub rest-again : (number i : ℕ) → i < width → {rest v : ℕ} → rest ≡ number / count (suc i) → v ≡ size_at i → rest / v ≡ number / count i
  rest-again number i b q s =
      ap₂ ◌/◌ q s ∙ div-div-eq-div-mul number (count (suc i)) (size_at i)
      ∙ ap (λ x. number / x) (mul_comm (count (suc i)) (size_at i) ∙ sym (count_from-step lows highs i b))

  pub rest-start : (number : ℕ) {n : ℕ} → n ≡ width → number ≡ number / count n
  rest-start number e = sym (ap (λ x. number / x) (count_from-end lows highs e) ∙ div-one number)

  -- The value that is written lies between the stream's lowest and highest, so the sum fits.
  pub digit-fits : 0 < count 0 → (i : ℕ) → i < width → SFits w64 (get_or lows i (pos 0)) → SFits w64 (get_or highs i (pos 0)) → (rest : ℕ) {v : ℕ} → v ≡ size_at i
      → SFits w64 (get_or lows i (pos 0) +ℤ pos (rest % v))
  digit-fits p i b fl fh rest {v} s =
      let q = sizes p i b in
      let d : rest % v < size_at i = let m : rest % v < v = mod-lt rest (omega arith) in omega arith in
      let w = size-within (ranged (get_or lows i (pos 0)) (get_or highs i (pos 0))).range (rest % v) d in
      between-fits (get_or lows i (pos 0)) (get_or lows i (pos 0) +ℤ pos (rest % v)) (get_or highs i (pos 0)) fl fh w.above w.below

  -- ---- what `write_letter` and `letter_values` answer

  module _ (number : ℕ) (out : List ℤ) where
    abbrev streams : List Stream
    streams = described lows highs

    -- The list with all streams written holds the letter.
    pub all-written : has_letter streams number (length out) ≡ true → {l : List ℤ} {i : ℕ} → i ≡ 0 → l ≡ written number out i → l ≡ with_letter streams number out
    unfolding with_letter
    all-written t z w =
        let h = from_true (letter_reflects streams number (length out)) t in
        w ∙ ap (written number out) z ∙ ap₂ (λ x y. letter_of streams x ++ drop y out) (mod-eq_of_lt h.known) (sym (length-described lows highs)) ∙ sym (simp t)

    -- The two parts of the answer of `letter_values`: whether the letter is there, and the list.
    abbrev ValuesAnswer : Bool → List ℤ → Type 0
    ValuesAnswer r l = (r ≡ has_letter streams number (length out)) × (l ≡ with_letter streams number out)

    none_of : has_letter streams number (length out) ≡ false → ValuesAnswer false out
    unfolding with_letter
    none_of e = (sym e, sym (simp e))

    none-there : (LetterThere streams number (length out) → ⊥) → ValuesAnswer false out
    none-there f = none_of (to_false (letter_reflects streams number (length out)) f)

    pub too_many : {r : ℕ} → r ≡ cut_count (letter_count streams) → 1024 < r → ValuesAnswer false out
    too_many e h = none-there (λ t. omega arith)

    module _ {r : ℕ} (e : r ≡ cut_count (letter_count streams)) (h : r ≤ 1024) where
      pub not-number : r ≤ number → ValuesAnswer false out
      not-number k = none-there (λ t. omega arith)

      module _ (k : number < r) {n : ℕ} (q : n ≡ width) where
        pub no_room : length out < n → ValuesAnswer false out
        no_room l = none-there (λ t. omega (arith, length-described lows highs))

        pub can_write : n ≤ length out → has_letter streams number (length out) ≡ true
        can_write b =
            let d = length-described lows highs in
            to_true (letter_reflects streams number (length out)) (record { few = omega arith; known = omega arith; fits = omega arith })

-- ---- from a letter to its number

module _ (lows highs : List ℤ) (letter : List ℤ) where
  abbrev width_of : ℕ
  width_of = min (length lows) (length highs)

  abbrev all : List Stream
  all = described lows highs

  -- What is known before stream i: the streams before are met, the number so far counts the letters of the streams before, and there are as many
  -- letters as these times those of the streams from i on, at least.
  pub record Counted (i number : ℕ) : Type 0 where
    pub within : i ≤ width_of
    pub test : is_letter all letter ≡ is_letter (drop i all) (drop i letter)
    pub sum : letter_number all letter ≡ number * count_from lows highs i + letter_number (drop i all) (drop i letter)
    pub bound : suc number * count_from lows highs i ≤ count_from lows highs 0

  pub counted_start : Counted 0 0
  counted_start =
      record {
        within = omega arith;
        test = refl;
        sum = omega (arith, zero-mul (count_from lows highs 0));
        bound = subst (λ x. x ≤ count_from lows highs 0) (sym (one-mul (count_from lows highs 0))) (le_refl (count_from lows highs 0));
      }

  -- At stream i.
  module _ (i : ℕ) (b : i < width_of) (l : length letter ≡ width_of) where
    abbrev low : ℤ
    low = get_or lows i (pos 0)

    abbrev high : ℤ
    high = get_or highs i (pos 0)

    abbrev value : ℤ
    value = get_or letter i (pos 0)

    letter-cons : drop i letter ≡ value ∷ drop (suc i) letter
    letter-cons = drop-cons letter i (pos 0) (omega arith)

    is_letter-step : is_letter (drop i all) (drop i letter) ≡ le_z low value && (le_z value high && is_letter (drop (suc i) all) (drop (suc i) letter))
    unfolding is_letter
    is_letter-step = ap₂ is_letter (described-cons lows highs i b) letter-cons

    letter_number-step : letter_number (drop i all) (drop i letter) ≡ nat_abs (value -ℤ low) * count_from lows highs (suc i) + letter_number (drop (suc i) all) (drop (suc i) letter)
    unfolding letter_number
    letter_number-step = ap₂ letter_number (described-cons lows highs i b) letter-cons

    module _ {number : ℕ} (c : Counted i number) where
      pub value_low : le_z low value ≡ false → is_letter all letter ≡ false
      value_low e = c.test ∙ is_letter-step ∙ simp e

      pub value-high : le_z low value ≡ true → le_z value high ≡ false → is_letter all letter ≡ false
      value-high e f = c.test ∙ is_letter-step ∙ simp (e, f)

      module _ (p : 0 < count_from lows highs 0) (q : count_from lows highs 0 ≤ 1024) (e : le_z low value ≡ true) (f : le_z value high ≡ true) where
        digit-below : nat_abs (value -ℤ low) < size_at lows highs i
        digit-below = within-size (ranged low high).range value (record { above = le_z_true e; below = le_z_true f })

        -- The number with one digit more is still one of a letter.
        next-bound : suc (number * size_at lows highs i + nat_abs (value -ℤ low)) * count_from lows highs (suc i) ≤ count_from lows highs 0
        next-bound =
            let m : suc (number * size_at lows highs i + nat_abs (value -ℤ low)) ≤ suc number * size_at lows highs i = digits_lt {q = number} {m = suc number} (omega arith) digit-below in
            let r = mul-le-mul_right (count_from lows highs (suc i)) m in
            let t = mul_assoc (suc number) (size_at lows highs i) (count_from lows highs (suc i)) in
            let u = ap (λ x. suc number * x) (count_from-step lows highs i b) in
            le_trans r (subst (λ x. x ≤ count_from lows highs 0) (u ∙ sym t) c.bound)

        pub next_small : number * size_at lows highs i + nat_abs (value -ℤ low) < 1024
        next_small =
            let k = counts lows highs p (suc i) b in
            let r = left-≤ (suc (number * size_at lows highs i + nat_abs (value -ℤ low))) (count_from lows highs (suc i)) k.0 in
            le_trans r (le_trans next-bound q)

        -- The cut distance of the value from the lowest is exact.
        pub digit-exact : {d : ℕ} → d ≡ min (nat_abs (value -ℤ low)) 1024 → d ≡ nat_abs (value -ℤ low)
        digit-exact g = let z = sizes lows highs p i b in let k = digit-below in omega arith

        pub counted-again : {m : ℕ} → m ≡ number * size_at lows highs i + nat_abs (value -ℤ low) → Counted (suc i) m
        counted-again {m} g =
            let d = nat_abs (value -ℤ low) in
            let s = size_at lows highs i in
            let r = count_from lows highs (suc i) in
            let x : number * count_from lows highs i + d * r ≡ m * r =
            ap (λ y. number * y + d * r) (count_from-step lows highs i b) ∙ ap (λ y. y + d * r) (sym (mul_assoc number s r)) ∙ sym (add-mul (number * s) d r) ∙ ap (λ y. y * r) (sym g) in
            record {
              within = b;
              test = c.test ∙ is_letter-step ∙ simp (e, f);
              sum = c.sum ∙ ap (λ y. number * count_from lows highs i + y) letter_number-step
                  ∙ sym (add_assoc (number * count_from lows highs i) (d * r) (letter_number (drop (suc i) all) (drop (suc i) letter)))
                  ∙ ap (λ y. y + letter_number (drop (suc i) all) (drop (suc i) letter)) x;
              bound = subst (λ y. suc y * r ≤ count_from lows highs 0) (sym g) next-bound;
            }

  -- ---- what `letter_number` answers

  not-letter : is_letter all letter ≡ false → 1024 ≡ number_of all letter
  unfolding number_of
  not-letter e = by (leb (letter_count all) letter_bound)
    where
      by : (t : Bool) → 1024 ≡ cond (t && is_letter all letter) (letter_number all letter) letter_bound
      by true = sym (simp e)
      by false = refl

  false_of : (t : Bool) → (t ≡ true → ⊥) → t ≡ false
  false_of true h = absurd (h refl)
  false_of false h = refl

  module _ {r : ℕ} (e : r ≡ cut_count (letter_count all)) where
    pub no_letters : r ≡ 0 → 1024 ≡ number_of all letter
    no_letters z = not-letter (false_of (is_letter all letter) (λ t. let c = letter_number-bound (is_letter-sound all letter t) in omega arith))

    pub letters-above : 1024 < r → 1024 ≡ number_of all letter
    unfolding number_of
    letters-above h = sym (simp (lt-leb (letter_count all) letter_bound (omega arith)))

    pub other_length : {n m : ℕ} → n ≡ width_of → m ≡ length letter → (m ≡ n → ⊥) → 1024 ≡ number_of all letter
    other_length q k h = not-letter (false_of (is_letter all letter) (λ t. let l = letter-length (is_letter-sound all letter t) in let d = length-described lows highs in h (omega arith)))

    pub no_value : is_letter all letter ≡ false → 1024 ≡ number_of all letter
    no_value = not-letter

    pub some-letters : (r ≡ 0 → ⊥) → r ≤ 1024 → (0 < count_from lows highs 0) × (count_from lows highs 0 ≤ 1024)
    some-letters h k = (omega arith, omega arith)

    pub all-counted : r ≤ 1024 → {i number : ℕ} → i ≡ width_of → length letter ≡ width_of → Counted i number → number ≡ number_of all letter
    unfolding number_of is_letter letter_number
    all-counted h {i} {number} z l c =
        let a = described-end lows highs z in
        let d : drop i letter ≡ [] = ap (λ k. drop k letter) (z ∙ sym l) ∙ drop-length letter in
        let t : is_letter all letter ≡ true = c.test ∙ ap₂ is_letter a d in
        let m : letter_number all letter ≡ number =
        c.sum ∙ ap₂ (λ x y. number * x + y) (count_from-end lows highs z) (ap₂ letter_number a d) ∙ omega (arith, mul-one number) in
        sym (simp (le-leb (letter_count all) letter_bound (omega arith), t) m)
