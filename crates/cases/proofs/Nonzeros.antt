-- Counting the numbers of a list that are not 0, one after the other.
use Rattle.std.proofs.Common.{◌≡◌, ℕ, zero, suc, ◌+◌, ◌<◌, ◌≤◌, List, [], ◌∷◌, length, get_or, drop, refl, ap, add-one, arith, drop_of_length-le, drop-cons}
use Rattle.cases.specs.Cases.{nonzeros}

pub zero-not : (n : ℕ) → n ≡ 0 → 0 ≡ nonzeros (n ∷ [])
unfolding nonzeros
zero-not zero e = refl
zero-not (suc n) e = absurd (omega arith)

pub one-not : (n : ℕ) → (n ≡ 0 → ⊥) → 1 ≡ nonzeros (n ∷ [])
unfolding nonzeros
one-not zero e = absurd (e refl)
one-not (suc n) e = refl

first_and_rest : (n : ℕ) (ns : List ℕ) → nonzeros (n ∷ ns) ≡ nonzeros (n ∷ []) + nonzeros ns
unfolding nonzeros
first_and_rest zero ns = omega arith
first_and_rest (suc n) ns = omega arith

few : (ns : List ℕ) → nonzeros ns ≤ length ns
unfolding nonzeros
few [] = omega arith
few (zero ∷ ns) = omega (arith, few ns)
few (suc n ∷ ns) = omega (arith, few ns)

-- What is counted before a place, and what is left from there on.
abbrev pub CountedTo : List ℕ → ℕ → ℕ → Type 0
CountedTo ns i count = count + nonzeros (drop i ns) ≡ nonzeros ns

module _ (ns : List ℕ) (i count : ℕ) (so_far : CountedTo ns i count) where
  pub counted-all : length ns ≤ i → count ≡ nonzeros ns
  unfolding nonzeros
  counted-all h = let none : nonzeros (drop i ns) ≡ 0 = ap nonzeros (drop_of_length-le ns {i = i} h) in omega arith

  module _ (r : ℕ) (h : i < length ns) (one : r ≡ nonzeros (get_or ns i 0 ∷ [])) where
    next : nonzeros (drop i ns) ≡ r + nonzeros (drop (i + 1) ns)
    next = rw (add-one, drop-cons ns i 0) (omega (arith, first_and_rest (get_or ns i 0) (drop (suc i) ns)))

    pub counted_next : CountedTo ns (i + 1) (count + r)
    counted_next = omega (arith, next)

    pub count-within : count + r ≤ length ns
    count-within = omega (arith, next, few ns)
