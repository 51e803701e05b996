-- Laws of endless words and records, from their definitions alone.
use mathlib.Core.Path.{◌≡◌, refl, ap, ◌∙◌, fun_ext}
use mathlib.Core.List.{List, [], ◌∷◌, ◌++◌}
use Prim.Native.Nat.{ℕ, zero, suc, ◌<◌, ◌≤◌}
use native.Mathlib.Nat.{not-suc-le-zero, le_of_suc-le-suc}
use lib.ListN.{length}
use Rattle.automaton.specs.Words.{Word, tail, cons, append, prefix, suffix, InRange, AllBelow}

-- parts of a word

pub cons_tail : (w : Word) → cons (w 0) (tail w) ≡ w
cons_tail w = fun_ext go
  where
    go : (t : ℕ) → cons (w 0) (tail w) t ≡ w t
    go zero = refl
    go (suc t) = refl

pub append-prefix-suffix : (w : Word) (t : ℕ) → append (prefix w t) (suffix w t) ≡ w
append-prefix-suffix w zero = refl
append-prefix-suffix w (suc t) = ap (cons (w 0)) (append-prefix-suffix (tail w) t) ∙ cons_tail w

pub append-append : (r s : List ℕ) (w : Word) → append (r ++ s) w ≡ append r (append s w)
append-append [] s w = refl
append-append (a ∷ r) s w = ap (cons a) (append-append r s w)

-- what w has in its first u letters, a word with the same u letters has too
pub append_at : (t u : ℕ) (w v : Word) → t < u → append (prefix w u) v t ≡ w t
append_at t zero w v h = absurd (not-suc-le-zero h)
append_at zero (suc u) w v h = refl
append_at (suc t) (suc u) w v h = append_at t u (tail w) v (le_of_suc-le-suc h)

pub prefix-append : (t u : ℕ) (w v : Word) → t ≤ u → prefix (append (prefix w u) v) t ≡ prefix w t
prefix-append zero u w v h = refl
prefix-append (suc t) zero w v h = absurd (not-suc-le-zero h)
prefix-append (suc t) (suc u) w v h = ap (w 0 ∷◌) (prefix-append t u (tail w) v (le_of_suc-le-suc h))

pub prefix_extend : (t : ℕ) (w : Word) → prefix w (suc t) ≡ prefix w t ++ (w t ∷ [])
prefix_extend zero w = refl
prefix_extend (suc t) w = ap (w 0 ∷◌) (prefix_extend t (tail w))

pub length-prefix : (t : ℕ) (w : Word) → length (prefix w t) ≡ t
length-prefix zero w = refl
length-prefix (suc t) w = ap suc (length-prefix t (tail w))

-- letters in range

module _ {k : ℕ} where
  pub in_range-cons : {a : ℕ} {w : Word} → a < k → InRange k w → InRange k (cons a w)
  in_range-cons h b zero = h
  in_range-cons h b (suc t) = b t

  pub in_range-append : (r : List ℕ) {w : Word} → AllBelow k r → InRange k w → InRange k (append r w)
  in_range-append [] h b = b
  in_range-append (a ∷ r) h b = in_range-cons h.0 (in_range-append r h.1 b)

  pub in_range-suffix : (t : ℕ) (w : Word) → InRange k w → InRange k (suffix w t)
  in_range-suffix zero w b = b
  in_range-suffix (suc t) w b = in_range-suffix t (tail w) λ i. b (suc i)

  pub all-below-prefix : (t : ℕ) (w : Word) → InRange k w → AllBelow k (prefix w t)
  all-below-prefix zero w b = tt
  all-below-prefix (suc t) w b = (b 0, all-below-prefix t (tail w) λ i. b (suc i))

pub all-below-append : (k : ℕ) (r s : List ℕ) → AllBelow k r → AllBelow k s → AllBelow k (r ++ s)
all-below-append k [] s h g = g
all-below-append k (a ∷ r) s h g = (h.0, all-below-append k r s h.1 g)
