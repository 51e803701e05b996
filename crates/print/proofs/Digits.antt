-- The digits of a number as the code stores them, the last one first: from the digits of its tenth, and from stores at different places, which can
-- change places.
use Prim.Native.Nat.{ℕ, suc, ◌+◌, ◌/◌, ◌%◌, ◌≤◌, ◌<◌}
use native.Mathlib.Omega.{arith}
use mathlib.Core.Path.{◌≡◌, sym, ◌∙◌, ap}
use mathlib.Core.List.{List, [], ◌∷◌, ◌++◌}
use lib.ListN.{length, set}
use lib.Seq.{sets, set_comm}
use Rattle.print.specs.Text.{digits}
use Rattle.print.proofs.Decimal.{digits-one, digits_more}
use Rattle.print.proofs.Lengths.{one-digit, more-digits}

-- A byte behind a text, stored before it.
last-first : (l : List ℕ) (at : ℕ) (text : List ℕ) (byte : ℕ) → sets (set l (at + length text) byte) at text ≡ sets l at (text ++ (byte ∷ []))
last-first l at [] byte = let e : at + 0 ≡ at = omega arith in ap (λ k. set l k byte) e
last-first l at (b ∷ text) byte =
    let e : at + suc (length text) ≡ suc at + length text = omega arith in
    ap (λ m. sets m (suc at) text) (set_comm l (at + suc (length text)) at byte b (λ p. omega arith)) ∙ ap (λ k. sets (set (set l at b) k byte) (suc at) text) e
    ∙ last-first (set l at b) (suc at) text byte

module _ (l : List ℕ) (at n : ℕ) {to byte : ℕ} (e : suc to ≡ at + length (digits n)) where
  -- A number from 10 on: its last digit, and then its tenth's.
  pub stores-more : 10 ≤ n → byte ≡ 48 + n % 10 → sets (set l to byte) at (digits (n / 10)) ≡ sets l at (digits n)
  stores-more h b =
      let m = more-digits n h in
      let place : to ≡ at + length (digits (n / 10)) = omega arith in
      ap (λ k. sets (set l k byte) at (digits (n / 10))) place ∙ last-first l at (digits (n / 10)) byte ∙ ap (λ x. sets l at (digits (n / 10) ++ (x ∷ []))) b
      ∙ ap (sets l at) (sym (digits_more n h))

  -- A number below 10: its one digit.
  pub stores_one : n < 10 → byte ≡ 48 + n → set l to byte ≡ sets l at (digits n)
  stores_one h b =
      let m = one-digit n h in
      let place : to ≡ at = omega arith in
      ap (λ k. set l k byte) place ∙ ap (set l at) b ∙ ap (sets l at) (sym (digits-one n h))
