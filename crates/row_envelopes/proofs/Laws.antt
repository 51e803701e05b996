-- Laws of envelopes: an envelope is that of one set of letters only; what a stored envelope's number stands for; where rows with the same live successors have one
-- number.
use mathlib.Core.Path.{◌≡◌, sym, ◌∙◌}
use Prim.Native.Nat.{ℕ, ◌+◌, ◌*◌, ◌-◌, ◌<◌, ◌≤◌}
use native.Mathlib.Omega.{arith}
use native.Mathlib.Decide.{dec_le}
use borrow.Author.Tests.{le-leb, lt-leb}
use Rattle.basics.proofs.Lists.{row_fits}
use Rattle.row_envelopes.specs.Envelopes.{IsEnvelope, StoredEnvelope, envelope_begin, envelope_end}

module _ {P Q : ℕ → Type 0} {letters b c d e : ℕ} (I : IsEnvelope P letters b d) (J : IsEnvelope Q letters c e) (to : (a : ℕ) → a < letters → P a → Q a) (from : (a : ℕ) → a < letters → Q a → P a) where
  begin_once : b ≡ c
  begin_once =
      let x : ¬ (b < c) = λ h. let l : b < letters = omega (arith, J.begins.within) in J.begins.before b h (to b l (I.begins.first l)) in
      let y : ¬ (c < b) = λ h. let l : c < letters = omega (arith, I.begins.within) in I.begins.before c h (from c l (J.begins.first l)) in
      omega arith

  end_once : d ≡ e
  end_once =
      let q = begin_once in
      let x : ¬ (d < e) = λ h. let l : e - 1 < letters = omega (arith, J.ends.within) in I.ends.after (e - 1) (omega arith) l (from (e - 1) l (J.ends.last (omega (arith, I.ends.ordered)))) in
      let y : ¬ (e < d) = λ h. let l : d - 1 < letters = omega (arith, I.ends.within) in J.ends.after (d - 1) (omega arith) l (to (d - 1) l (I.ends.last (omega (arith, J.ends.ordered)))) in
      omega arith

-- envelopes of the same letters have one number
pub envelope_once : {P Q : ℕ → Type 0} {letters m n : ℕ} → StoredEnvelope P letters m → StoredEnvelope Q letters n → ((a : ℕ) → a < letters → P a → Q a) → ((a : ℕ) → a < letters → Q a → P a) → m ≡ n
envelope_once {P} {Q} {letters} {m} {n} I J to from = elim (dec_le letters 65535) [
  | yes h ↦ let x = I.narrow h in let y = J.narrow h in omega (arith, begin_once x y to from, end_once x y to from)
  | no h ↦ I.wide (omega arith) ∙ sym (J.wide (omega arith))
]

-- what any number stands for lies within the letters
pub envelope_ordered : (letters number : ℕ) → envelope_begin letters number ≤ envelope_end letters number
envelope_ordered letters number = elim (dec_le letters 65535) [ yes h ↦ rw (le-leb letters 65535 h) (omega arith) | no h ↦ rw (lt-leb letters 65535 (omega arith)) (omega arith) ]

pub envelope_within : (letters number : ℕ) → envelope_end letters number ≤ letters
envelope_within letters number = elim (dec_le letters 65535) [ yes h ↦ rw (le-leb letters 65535 h) (omega arith) | no h ↦ rw (lt-leb letters 65535 (omega arith)) (omega arith) ]

module _ {P : ℕ → Type 0} {letters number : ℕ} (I : StoredEnvelope P letters number) where
  -- outside the envelope no letter has P
  pub before_envelope : (a : ℕ) → a < envelope_begin letters number → ¬ P a
  before_envelope a h = elim (dec_le letters 65535) [
    | yes l ↦ (I.narrow l).begins.before a (omega (arith, (rw (le-leb letters 65535 l) at h)))
    | no l ↦ absurd (omega (arith, (rw (lt-leb letters 65535 (omega arith)) at h)))
  ]

  pub behind_envelope : (a : ℕ) → envelope_end letters number ≤ a → a < letters → ¬ P a
  behind_envelope a h k = elim (dec_le letters 65535) [
    | yes l ↦ (I.narrow l).ends.after a (omega (arith, (rw (le-leb letters 65535 l) at h))) k
    | no l ↦ absurd (omega (arith, (rw (lt-leb letters 65535 (omega arith)) at h)))
  ]

-- the part of a row that a number's envelope is lies within the entries of the rows
pub envelope_fits : (row rows letters room number : ℕ) → row < rows → rows * letters ≤ room
    → row * letters + envelope_begin letters number + (envelope_end letters number - envelope_begin letters number) ≤ room
envelope_fits row rows letters room number h l = omega (arith, row_fits row rows letters room h l, envelope_ordered letters number, envelope_within letters number)
