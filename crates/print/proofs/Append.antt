-- Text that is appended piece by piece: nothing, one byte, and one text after another. All from the definition.
use Prim.Native.Nat.{ℕ, suc, ◌+◌, ◌≤◌, ◌<◌}
use native.Mathlib.Omega.{arith}
use mathlib.Core.Path.{◌≡◌, refl, sym, ◌∙◌, ap, ap₂, subst}
use mathlib.Core.Bool.{Bool, true, false}
use mathlib.Core.List.{List, [], ◌++◌, append_assoc}
use lib.Dec.{leb}
use lib.ListN.{length, take, drop, length-append}
use lib.Seq.{sets, sets-eq, length-sets, drop-drop}
use borrow.Rule.Slice.PartMut.{put_mid}
use borrow.Author.Tests.{leb-true, leb-false}
use Rattle.basics.proofs.Lists.{sets_append}
use Rattle.print.specs.Append.{Appends}

pub appends_nothing : {at : ℕ} {out : List ℕ} → at ≤ suc (length out) → Appends at [] out out at
appends_nothing h = record { same_length = refl; written = λ b. (refl, omega arith); no_room = λ b. omega arith }

-- A text for which there is no room.
pub text-left : {at : ℕ} (out text : List ℕ) → length out < at + length text → Appends at text out out (length out + 1)
text-left out text h = record { same_length = refl; written = λ b. absurd (omega arith); no_room = λ b. omega arith }

-- A text that is stored whole, by whatever stores.
pub text-stored : {at : ℕ} {out out' text : List ℕ} {r : ℕ} → at + length text ≤ length out → out' ≡ sets out at text → r ≡ at + length text → Appends at text out out' r
text-stored {at} {out} {out'} {text} h e p =
    record { same_length = ap length e ∙ length-sets out at text; written = λ b. (e, p); no_room = λ b. absurd (omega arith) }

-- A text for which there is room, copied to its place.
pub text-copied : (out text : List ℕ) {at n : ℕ} {part : List ℕ} → n ≡ length text → part ≡ text → at + length text ≤ length out → Appends at text out (put_mid at n out part) (at + length text)
text-copied out text {at} s e h =
    text-stored h
    (ap₂ (λ k p. take at out ++ (p ++ drop k (drop at out))) s e ∙ ap (λ l. take at out ++ (text ++ l)) (drop-drop (length text) at out)
    ∙ sym (append_assoc (take at out) text (drop (at + length text) out)) ∙ sym (sets-eq text out at h))
    refl

module _ {at : ℕ} {a out out₁ : List ℕ} {r₁ : ℕ} (p : Appends at a out out₁ r₁) where
  -- The place after a text is at most one more than the length, so that the next text can follow.
  pub reached : r₁ ≤ suc (length out₁)
  reached = by (leb (at + length a) (length out)) refl
    where
      by : (t : Bool) → leb (at + length a) (length out) ≡ t → r₁ ≤ suc (length out₁)
      by true e = let h = leb-true (at + length a) (length out) e in let l = p.same_length in let w = (p.written h).1 in omega arith
      by false e = let l = p.same_length in let w = p.no_room (leb-false (at + length a) (length out) e) in omega arith

  -- One text and then another are both.
  pub appends_then : {b out₂ : List ℕ} {r₂ : ℕ} → Appends r₁ b out₁ out₂ r₂ → Appends at (a ++ b) out out₂ r₂
  appends_then {b} {out₂} {r₂} q =
      record {
        same_length = q.same_length ∙ p.same_length;
        written = both;
        no_room = λ h. by h (leb (at + length a) (length out)) refl;
      }
    where
      both : at + length (a ++ b) ≤ length out → (out₂ ≡ sets out at (a ++ b)) × (r₂ ≡ at + length (a ++ b))
      both h =
          let n = length-append a b in
          let l = p.same_length in
          let u : at + length a ≤ length out = omega arith in
          let v = p.written u in
          let x = v.1 in
          let w : r₁ + length b ≤ length out₁ = omega arith in
          let z = q.written w in
          let y = z.1 in
          (z.0 ∙ ap (λ s. sets s r₁ b) v.0 ∙ ap (λ k. sets (sets out at a) k b) x ∙ sets_append out at a b, omega arith)

      by : length out < at + length (a ++ b) → (t : Bool) → leb (at + length a) (length out) ≡ t → r₂ ≡ suc (length out)
      by h true e =
          let n = length-append a b in
          let l = p.same_length in
          let x = (p.written (leb-true (at + length a) (length out) e)).1 in
          let w : length out₁ < r₁ + length b = omega arith in
          let z = q.no_room w in
          omega arith
      by h false e =
          let l = p.same_length in
          let x = p.no_room (leb-false (at + length a) (length out) e) in
          let w : length out₁ < r₁ + length b = omega arith in
          let z = q.no_room w in
          omega arith

  -- The text by another name.
  pub appends_same : {b : List ℕ} → a ≡ b → Appends at b out out₁ r₁
  appends_same e = subst (λ t. Appends at t out out₁ r₁) e p
