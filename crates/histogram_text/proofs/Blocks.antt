-- Texts by their places, in blocks of places: the text of all blocks is that of each, and places behind a block's lines have no text. From the laws of lines
-- by their numbers (pages), by induction over the places.
use Prim.Native.Nat.{ℕ, zero, suc, ◌+◌, ◌-◌, ◌*◌, ◌≤◌, ◌<◌}
use native.Mathlib.Omega.{arith}
use native.Mathlib.Nat.{suc-mul}
use mathlib.Core.Path.{◌≡◌, refl, sym, ◌∙◌, ap, ap₂}
use mathlib.Core.List.{List, [], ◌++◌, append-nil}
use Rattle.print.specs.Lines.{lines_from}
use Rattle.pages.proofs.Lines.{lines-append}

-- Texts that agree at each place.
pub lines_same : (f g : ℕ → List ℕ) (from to n : ℕ) → ((i : ℕ) → i < n → f (from + i) ≡ g (to + i)) → lines_from f from n ≡ lines_from g to n
unfolding lines_from
lines_same f g from to zero e = refl
lines_same f g from to (suc n) e = ap₂ ◌++◌ (lines_same f g from to n (λ i h. e i (omega arith))) (e n (omega arith))

lines_none : (f : ℕ → List ℕ) (from n : ℕ) → ((i : ℕ) → i < n → f (from + i) ≡ []) → lines_from f from n ≡ []
unfolding lines_from
lines_none f from zero e = refl
lines_none f from (suc n) e = ap₂ ◌++◌ (lines_none f from n (λ i h. e i (omega arith))) (e n (omega arith))

-- The places behind the first m have no text.
pub lines-front : (f : ℕ → List ℕ) (m n : ℕ) → m ≤ n → ((i : ℕ) → m ≤ i → i < n → f i ≡ []) → lines_from f 0 n ≡ lines_from f 0 m
lines-front f m n h e =
    let all : m + (n - m) ≡ n = omega arith in
    let none = lines_none f (0 + m) (n - m) (λ i b. e (0 + m + i) (omega arith) (omega arith)) in
    ap (lines_from f 0) (sym all) ∙ sym (lines-append f 0 m (n - m)) ∙ ap (lines_from f 0 m ++◌) none ∙ append-nil (lines_from f 0 m)

-- Blocks of m places.
pub lines_blocks : (f g : ℕ → List ℕ) (m n : ℕ) → ((k : ℕ) → k < n → lines_from f (k * m) m ≡ g k) → lines_from f 0 (n * m) ≡ lines_from g 0 n
unfolding lines_from
lines_blocks f g m zero e = let z : zero * m ≡ zero = omega arith in ap (lines_from f 0) z
lines_blocks f g m (suc n) e =
    let all : suc n * m ≡ n * m + m = suc-mul n m in
    let place : 0 + n * m ≡ n * m = omega arith in
    let last : 0 + n ≡ n = omega arith in
    ap (lines_from f 0) all ∙ sym (lines-append f 0 (n * m) m) ∙ ap₂ ◌++◌ (lines_blocks f g m n (λ k h. e k (omega arith))) (ap (λ k. lines_from f k m) place ∙ e n (omega arith) ∙ ap g (sym last))
