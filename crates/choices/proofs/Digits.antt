-- The digits of a letter's number from the last stream to the first: what is left of the number, the number of the choice and the number of choices, by the
-- streams from i on. From the laws of choices (meaning) and of digits (letters).
use Prim.Native.Nat.{ℕ, zero, suc, ◌+◌, ◌-◌, ◌*◌, ◌/◌, ◌%◌, ◌≤◌, ◌<◌}
use native.Mathlib.Omega.{arith}
use native.Mathlib.Decide.{dec_le}
use native.Mathlib.Nat.{le_trans, div-div-eq-div-mul, mul_comm, add_comm, mul-le-mul, div-one, mod-lt}
use mathlib.Core.Path.{◌≡◌, refl, sym, ◌∙◌, ap, ap₂, subst}
use mathlib.Core.Logic.{◌⊎◌, ⊎_elim, ◌≢◌}
use mathlib.Core.List.{List, [], ◌∷◌}
use lib.IntN.{pos}
use lib.ListN.{length, get_or, take}
use borrow.Author.Tests.{eq-eqb, ne_eqb, le-leb, lt-leb}
use mir.Syntax.{w64}
use mir.Val.{SFits}
use Rattle.meaning.specs.Expression.{Stream, read_kind, set_kind}
use Rattle.meaning.specs.Letter.{size, letter_count, letter_number}
use Rattle.meaning.specs.Choice.{read_streams, choice_count, choice_of}
use Rattle.meaning.proofs.Letter.{positive-left, positive-right}
use Rattle.meaning.proofs.Choice.{choice-below, count-read, count_set, choice-read, choice-set, choices-at-most}
use Rattle.arithmetic.proofs.Machine.{held, held_both}
use Rattle.letters.specs.Described.{ranged, described, cut_count}
use Rattle.letters.proofs.Numbers.{digit-high, digit_low, right-≤, left-≤}
use Rattle.streams.specs.Description.{stream_in, described_from, description_of}
use Rattle.streams.specs.declared.StreamsDescription.{StreamsDescription}
use Rattle.streams.proofs.Fit.{letters-made}
use Rattle.choices.specs.Counted.{letters_made, CanCount, IsChosen}

-- ---- how many letters there are

pub many-streams : (s : StreamsDescription) → 8 < s.count → 0 ≡ letters_made s
many-streams s h = sym (simp (lt-leb s.count 8 h))

pub few_streams : (s : StreamsDescription) → length s.lows ≡ 8 → length s.highs ≡ 8 → s.count ≤ 8 → {r : ℕ} → r ≡ cut_count (letter_count (described (take s.count s.lows) (take s.count s.highs))) → r ≡ letters_made s
few_streams s lows highs h e = e ∙ ap cut_count (letters-made s (omega arith) (omega arith)) ∙ sym (simp (le-leb s.count 8 h))

-- what the count says: there are letters to be counted, or not
pub can-count : (s : StreamsDescription) {r : ℕ} → r ≡ letters_made s → ¬ (r ≡ 0) → r ≤ 1024 → CanCount s × (r ≡ letter_count (description_of s))
can-count s {r} e some few = by (dec_le s.count 8)
  where
    by : Dec (s.count ≤ 8) → CanCount s × (r ≡ letter_count (description_of s))
    by (yes h) =
        let made : r ≡ cut_count (letter_count (description_of s)) = e ∙ simp (le-leb s.count 8 h) in
        (record { few_streams = h; some_letter = positive (letter_count (description_of s)) (λ z. some (omega arith)); few_letters = omega arith }, omega arith)
      where
        positive : (n : ℕ) → ¬ (n ≡ 0) → 0 < n
        positive zero d = absurd (d refl)
        positive (suc n) d = omega arith
    by (no h) = absurd (some (e ∙ sym (many-streams s (omega arith))))

pub cannot_count : (s : StreamsDescription) {r : ℕ} → r ≡ letters_made s → (r ≡ 0) ⊎ (1024 < r) → ¬ CanCount s
cannot_count s {r} e x can =
    let made : r ≡ cut_count (letter_count (description_of s)) = e ∙ simp (le-leb s.count 8 can.few_streams) in
    ⊎_elim (λ z. omega (arith, can.some_letter)) (λ z. omega (arith, can.few_letters)) x

-- ---- the streams from i on

module _ (s : StreamsDescription) where
  abbrev rest : ℕ → List Stream
  rest i = described_from s i (s.count - i)

  abbrev size_at : ℕ → ℕ
  size_at i = size (stream_in s i).range

  -- What is known of the streams from i on: what is left of the letter's number, the number of its choice, and how many choices there are.
  pub record DigitsTaken (letter i left number count : ℕ) : Type 0 where
    pub inside : i ≤ s.count
    pub left_is : left ≡ letter / letter_count (rest i)
    pub number_is : number ≡ choice_of (rest i) (letter % letter_count (rest i))
    pub count_is : count ≡ choice_count (rest i)

module _ (s : StreamsDescription) (can : CanCount s) where
  rest-step : (i : ℕ) → i < s.count → rest s i ≡ stream_in s i ∷ rest s (suc i)
  unfolding described_from
  rest-step i h = let e : s.count - i ≡ suc (s.count - suc i) = omega arith in ap (described_from s i) e

  letters-step : (i : ℕ) → i < s.count → letter_count (rest s i) ≡ size_at s i * letter_count (rest s (suc i))
  unfolding letter_count
  letters-step i h = ap letter_count (rest-step i h)

  pub rest_all : rest s 0 ≡ description_of s
  rest_all = let e : s.count - 0 ≡ s.count = omega arith in ap (described_from s 0) e

  -- they have letters, and no more than all streams
  rest-letters : (i : ℕ) → i ≤ s.count → (0 < letter_count (rest s i)) × (letter_count (rest s i) ≤ 1024)
  rest-letters zero h = subst (λ ss. (0 < letter_count ss) × (letter_count ss ≤ 1024)) (sym rest_all) (can.some_letter, can.few_letters)
  rest-letters (suc i) h =
      let x = rest-letters i (omega arith) in
      let e = letters-step i h in
      let p : 0 < size_at s i * letter_count (rest s (suc i)) = subst (λ n. 0 < n) e x.0 in
      (positive-right (size_at s i) (letter_count (rest s (suc i))) p, le_trans (right-≤ (size_at s i) (letter_count (rest s (suc i))) (positive-left (size_at s i) (letter_count (rest s (suc i))) p)) (subst (λ n. n ≤ 1024) e x.1))

  -- a stream has values, and no more than there are letters
  rest-size : (i : ℕ) → i < s.count → (0 < size_at s i) × (size_at s i ≤ 1024)
  rest-size i h =
      let x = rest-letters i (omega arith) in
      let e = letters-step i h in
      let p : 0 < size_at s i * letter_count (rest s (suc i)) = subst (λ n. 0 < n) e x.0 in
      (positive-left (size_at s i) (letter_count (rest s (suc i))) p, le_trans (left-≤ (size_at s i) (letter_count (rest s (suc i))) (positive-right (size_at s i) (letter_count (rest s (suc i))) p)) (subst (λ n. n ≤ 1024) e x.1))

  -- what is counted of a stream's values is exact
  pub size_exact : (i : ℕ) → i < s.count → {v : ℕ} → v ≡ cut_count (size_at s i) → (v ≡ size_at s i) × (0 < v)
  size_exact i h {v} e = let z = rest-size i h in (omega arith, omega arith)

  -- so the products fit
  pub digits-small : {letter i left number count : ℕ} → DigitsTaken s letter i left number count → (number < count) × (count ≤ 1024)
  digits-small {letter} {i} D =
      let x = rest-letters i D.inside in
      let b = choice-below (rest s i) (letter % letter_count (rest s i)) (mod-lt letter x.0) in
      let m = choices-at-most (rest s i) x.0 in
      (omega (arith, D.number_is, D.count_is), omega (arith, D.count_is))

  rest_end : rest s s.count ≡ []
  unfolding described_from
  rest_end = let e : s.count - s.count ≡ 0 = omega arith in ap (described_from s s.count) e

  pub digits-none : (letter : ℕ) → DigitsTaken s letter s.count letter 0 1
  unfolding letter_count letter_number choice_count choice_of read_streams
  digits-none letter =
      record {
        inside = omega arith;
        left_is = sym (ap (λ ss. letter / letter_count ss) rest_end ∙ div-one letter);
        number_is = sym (ap (λ ss. choice_of ss (letter % letter_count ss)) rest_end);
        count_is = sym (ap choice_count rest_end);
      }

  module _ (letter i left number count v : ℕ) (h : i < s.count) (D : DigitsTaken s letter (suc i) left number count) (exact : v ≡ size_at s i) where
    abbrev L : ℕ
    L = letter_count (rest s (suc i))

    whole : letter_count (rest s i) ≡ size_at s i * L
    whole = letters-step i h

    -- what is left of the number
    left-next : left / v ≡ letter / letter_count (rest s i)
    left-next = ap₂ ◌/◌ D.left_is exact ∙ div-div-eq-div-mul letter L (size_at s i) ∙ ap (λ n. letter / n) (mul_comm L (size_at s i) ∙ sym whole)

    -- the digit of stream i, and the number behind it
    high : letter % letter_count (rest s i) / L ≡ left % v
    high = ap (λ n. letter % n / L) whole ∙ digit-high (size_at s i) L letter (rest-size i h).0 (rest-letters (suc i) h).0 ∙ sym (ap₂ ◌%◌ D.left_is exact)

    low : letter % letter_count (rest s i) % L ≡ letter % L
    low = ap (λ n. letter % n % L) whole ∙ digit_low (size_at s i) L letter (rest-size i h).0 (rest-letters (suc i) h).0

    pub digits-read : get_or s.kinds i 0 ≡ 1 → DigitsTaken s letter i (left / v) (number + left % v * count) (count * v)
    digits-read e =
        let kind : (stream_in s i).kind ≡ read_kind = simp (eq-eqb (get_or s.kinds i 0) 1 e) in
        let m = letter % letter_count (rest s i) in
        record {
          inside = omega arith;
          left_is = left-next;
          number_is =
              sym (ap (λ ss. choice_of ss m) (rest-step i h) ∙ choice-read (stream_in s i) (rest s (suc i)) kind m ∙ ap₂ (λ q r. q * choice_count (rest s (suc i)) + choice_of (rest s (suc i)) r) high low
              ∙ ap₂ (λ q r. left % v * q + r) (sym D.count_is) (sym D.number_is) ∙ add_comm (left % v * count) number);
          count_is = sym (ap choice_count (rest-step i h) ∙ count-read (stream_in s i) (rest s (suc i)) kind ∙ ap₂ ◌*◌ (sym exact) (sym D.count_is) ∙ mul_comm v count);
        }

    pub digits-set : get_or s.kinds i 0 ≢ 1 → DigitsTaken s letter i (left / v) number count
    digits-set e =
        let kind : (stream_in s i).kind ≡ set_kind = simp (ne_eqb (get_or s.kinds i 0) 1 e) in
        let m = letter % letter_count (rest s i) in
        record {
          inside = omega arith;
          left_is = left-next;
          number_is = sym (ap (λ ss. choice_of ss m) (rest-step i h) ∙ choice-set (stream_in s i) (rest s (suc i)) kind m ∙ ap (choice_of (rest s (suc i))) low ∙ sym D.number_is);
          count_is = sym (ap choice_count (rest-step i h) ∙ count_set (stream_in s i) (rest s (suc i)) kind ∙ sym D.count_is);
        }

    -- the products fit
    pub digit-small : left % v * count ≤ 1048576
    digit-small = le_trans (mul-le-mul {n₁ = left % v} {m₁ = count} {n₂ = 1024} {m₂ = 1024} (omega (arith, mod-lt left {m = v} (omega (arith, (rest-size i h).0)), (rest-size i h).1)) (digits-small D).1) (omega arith)

    pub count_small : count * v ≤ 1048576
    count_small = le_trans (mul-le-mul {n₁ = count} {m₁ = v} {n₂ = 1024} {m₂ = 1024} (digits-small D).1 (omega (arith, (rest-size i h).1))) (omega arith)

  -- and when no stream is left, the choice of the letter
  pub digits-all : {letter i left number count : ℕ} → i ≡ 0 → DigitsTaken s letter i left number count → IsChosen s letter (record { number = number; count = count })
  digits-all {letter} e D =
      let all = ap (rest s) e ∙ rest_all in
      record { number = D.number_is ∙ ap (λ ss. choice_of ss (letter % letter_count ss)) all; count = D.count_is ∙ ap choice_count all }

-- the number of a stream's values, of bounds that an array holds
pub values-held : (s : StreamsDescription) (i : ℕ) → SFits w64 (get_or s.lows i (pos 0)) → SFits w64 (get_or s.highs i (pos 0))
    → {v : ℕ} → v ≡ cut_count (size (ranged (held (get_or s.lows i (pos 0))) (held (get_or s.highs i (pos 0)))).range) → v ≡ cut_count (size (stream_in s i).range)
values-held s i fl fh e = e ∙ held_both (λ a b. cut_count (size (ranged a b).range)) (get_or s.lows i (pos 0)) (get_or s.highs i (pos 0)) fl fh
