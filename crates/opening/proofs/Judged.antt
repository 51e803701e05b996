-- A start is judged by what is read of its text, and a number by its size: an integer beyond the bound is no state, since there are fewer states.
use Prim.Native.Nat.{ℕ, ◌≤◌, ◌<◌}
use Rattle.std.specs.Prelude.{Ok}
use Rattle.std.specs.Result.{is_err, result_unwrap_or}
use native.Mathlib.Omega.{arith}
use mathlib.Core.Path.{◌≡◌, refl, sym, ◌∙◌, ap, subst}
use mathlib.Core.Bool.{Bool, true, false, cond, ◌&&◌}
use mathlib.Core.Option.{Option, none, some}
use lib.IntN.{ℤ, pos, negsuc, nat_abs}
use lib.Signed.{lt_z}
use borrow.Author.Tests.{ltb-true, lt-ltb, le-ltb}
use mir.Syntax.{w64}
use mir.Val.{SFits}
use Rattle.basics.proofs.Tests.{not-both}
use Rattle.text.specs.Bytes.{Token}
use Rattle.text.specs.Token.{is_integer, integer_value}
use Rattle.sheet.specs.Refusal.{magnitude_bound}
use Rattle.sheet.specs.Reading.{is_beyond}
use Rattle.scan.specs.Integer.{no_integer, integer_within, integer_read}
use Rattle.arithmetic.proofs.Machine.{held, number-natural, number-negative}
use Rattle.opening.specs.Start.{start_text, is_state_below, start_state, state_below}

-- ---- a number

number-state : {n states : ℕ} → n < states → some n ≡ state_below states (pos n)
number-state {n} {states} h = rw (lt-ltb n states h)

no_state : {n states : ℕ} → states ≤ n → none ≡ state_below states (pos n)
no_state {n} {states} h = rw (le-ltb n states h)

module _ (z : ℤ) (f : SFits w64 z) (states : ℕ) where
  pub negative-none : lt_z (held z) (pos 0) ≡ true → none ≡ state_below states z
  negative-none e = let k = number-negative z f e in subst (λ x. none ≡ state_below states x) (sym k.1) refl

  module _ (e : lt_z (held z) (pos 0) ≡ false) where
    pub natural-state : nat_abs (held z) < states → some (nat_abs (held z)) ≡ state_below states z
    natural-state h = subst (λ x. some (nat_abs (held z)) ≡ state_below states x) (sym (number-natural z f e)) (number-state h)

    pub natural-none : states ≤ nat_abs (held z) → none ≡ state_below states z
    natural-none h = subst (λ x. none ≡ state_below states x) (sym (number-natural z f e)) (no_state h)

-- ---- a text

beyond-none : {states : ℕ} (z : ℤ) → states ≤ magnitude_bound → is_beyond z ≡ true → none ≡ state_below states z
beyond-none {states} (pos n) h e = no_state {n = n} {states = states} (omega (arith, ltb-true magnitude_bound n e))
beyond-none (negsuc n) h e = refl

module _ (states : ℕ) (t : Token) where
  abbrev read_as : Bool → Bool → Option ℕ
  read_as is below = cond (is && below) (some (nat_abs (integer_value t))) none

  pub read-none : states ≤ magnitude_bound → is_err (integer_read t) ≡ true → none ≡ start_state states (some t)
  unfolding integer_read start_state
  read-none h e = by (is_integer t) (is_beyond (integer_value t)) refl e
    where
      by : (is beyond : Bool) → is_beyond (integer_value t) ≡ beyond → is_err (cond is (integer_within beyond (integer_value t)) no_integer) ≡ true → none ≡ read_as is (is_state_below states (integer_value t))
      by true true p q = beyond-none (integer_value t) h p
      by true false p q = not-both q
      by false beyond p q = refl

  pub read-start : {z : ℤ} → integer_read t ≡ Ok z → state_below states z ≡ start_state states (some t)
  unfolding integer_read start_state
  read-start {z} e = by (is_integer t) (is_beyond (integer_value t)) e
    where
      by : (is beyond : Bool) → cond is (integer_within beyond (integer_value t)) no_integer ≡ Ok z → state_below states z ≡ read_as is (is_state_below states (integer_value t))
      by true true q = not-both (sym (ap is_err q))
      by true false q = ap (state_below states) (sym (ap (λ r. result_unwrap_or r (pos 0)) q))
      by false beyond q = not-both (sym (ap is_err q))

  -- ---- whether there is a text

  pub not-given : (given : Bool) → given ≡ false → some 0 ≡ start_state states (start_text given t)
  unfolding start_state
  not-given given e = rw e

  pub is-given : (given : Bool) {o : Option ℕ} → given ≡ true → o ≡ start_state states (some t) → o ≡ start_state states (start_text given t)
  is-given given e h = h ∙ ap (λ b. start_state states (start_text b t)) (sym e)
