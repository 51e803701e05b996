-- Tokens compared byte by byte, what is no name, and the place of a token among others. From the definitions.
use Prim.Native.Nat.{ℕ, zero, suc, ◌+◌, ◌<◌, ◌≤◌}
use mathlib.Core.Path.{◌≡◌, refl, sym, ap, ap₂, ◌∙◌}
use mathlib.Core.Bool.{Bool, true, false, cond, ◌&&◌, true≢false}
use mathlib.Core.List.{List, [], ◌∷◌}
use native.Mathlib.Omega.{arith}
use lib.Dec.{T, leb, leb→le}
use lib.ListN.{length, drop, get_or}
use borrow.Author.Tests.{eq-eqb, ne_eqb, le-leb}
use Rattle.std.proofs.Common.{rules, IsTrue, ◌↔◌}
use Rattle.basics.proofs.Reflects.{T-reflects, to_true}
use Rattle.basics.proofs.Tests.{and_left, and_right, and_both}
use Rattle.text.specs.Bytes.{Token}
use Rattle.text.specs.Token.{all_bytes, same_bytes, is_lowercase, is_name}
use Rattle.sheet.specs.Vocabulary.{name_place}
use Rattle.scan.proofs.Tokens.{drop_at}

-- Two texts compared byte by byte.
module _ (l m : List ℕ) (i : ℕ) (h : i < length l) (k : i < length m) where
  pub same_here : get_or l i 0 ≡ get_or m i 0 → same_bytes (drop i l) (drop i m) ≡ same_bytes (drop (i + 1) l) (drop (i + 1) m)
  same_here e = ap₂ same_bytes (drop_at l i h) (drop_at m i k) ∙ ap (λ b. b && same_bytes (drop (i + 1) l) (drop (i + 1) m)) (eq-eqb (get_or l i 0) (get_or m i 0) e)

  pub differ-here : (get_or l i 0 ≡ get_or m i 0 → ⊥) → same_bytes (drop i l) (drop i m) ≡ false
  differ-here n = ap₂ same_bytes (drop_at l i h) (drop_at m i k) ∙ ap (λ b. b && same_bytes (drop (i + 1) l) (drop (i + 1) m)) (ne_eqb (get_or l i 0) (get_or m i 0) n)

-- What is no name: too short or too long, or with another byte.
pub name-untold : (t : Token) → (leb 1 (length t) && leb (length t) 8) ≡ false → false ≡ is_name t
unfolding is_name
name-untold t h = sym (by (all_bytes is_lowercase t))
  where
    by : (m : Bool) → (m && leb 1 (length t) && leb (length t) 8) ≡ false
    by true = h
    by false = refl

pub name-other : (t : Token) → all_bytes is_lowercase t ≡ false → false ≡ is_name t
unfolding is_name
name-other t e = rw e

-- A test of all bytes is a test at each place.
pub all-each : (p : ℕ → Bool) (l : List ℕ) → ((k : ℕ) → k < length l → T (p (get_or l k 0))) → all_bytes p l ≡ true
all-each p [] h = refl
all-each p (b ∷ l) h = ap₂ ◌&&◌ (to_true (T-reflects (p b)) (h 0 (omega arith))) (all-each p l (λ k m. h (suc k) (omega arith)))

pub each-all : (p : ℕ → Bool) (l : List ℕ) → all_bytes p l ≡ true → (k : ℕ) → k < length l → T (p (get_or l k 0))
each-all p [] e k h = absurd (omega arith)
each-all p (b ∷ l) e zero h = and_left (p b) (all_bytes p l) (rw e tt)
each-all p (b ∷ l) e (suc k) h = each-all p l (to_true (T-reflects (all_bytes p l)) (and_right (p b) (all_bytes p l) (rw e tt))) k (omega arith)

-- What is told of a token of a name's length.
pub name-told : (t : Token) (b : Bool) → (leb 1 (length t) && leb (length t) 8) ≡ true → (IsTrue b ↔ ((k : ℕ) → k < length t → (97 ≤ get_or t k 0) × (get_or t k 0 ≤ 122))) → b ≡ is_name t
unfolding is_name
name-told t true h e = let fwd = e.0 (search rules) in sym (simp (all-each is_lowercase t (λ n m. let w = fwd n m in and_both (leb 97 (get_or t n 0)) (leb (get_or t n 0) 122) (rw (le-leb 97 (get_or t n 0) w.0) tt) (rw (le-leb (get_or t n 0) 122 w.1) tt)), h))
name-told t false h e = name-other t (by (all_bytes is_lowercase t) refl)
  where
    by : (m : Bool) → all_bytes is_lowercase t ≡ m → m ≡ false
    by true p = absurd (true≢false (sym (e.1 (λ n m. let w = each-all is_lowercase t p n m in (leb→le _ _ (and_left _ (leb (get_or t n 0) 122) w), leb→le _ _ (and_right (leb 97 (get_or t n 0)) _ w))))))
    by false p = refl

-- The place of a token among others, from the first on.
pub place_none : {ts : List Token} (t : Token) → ts ≡ [] → name_place ts t ≡ 0
unfolding name_place
place_none t e = ap (λ l. name_place l t) e

module _ {ts us : List Token} {w : Token} (t : Token) where
  pub place_here : ts ≡ w ∷ us → same_bytes w t ≡ true → name_place ts t ≡ 0
  unfolding name_place
  place_here e h = ap (λ l. name_place l t) e ∙ ap (λ m. cond m 0 (suc (name_place us t))) h

  pub place-later : ts ≡ w ∷ us → same_bytes w t ≡ false → name_place ts t ≡ suc (name_place us t)
  unfolding name_place
  place-later e h = ap (λ l. name_place l t) e ∙ ap (λ m. cond m 0 (suc (name_place us t))) h
