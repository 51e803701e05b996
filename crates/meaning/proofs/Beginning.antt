-- Endless words over any type, as functions of the time: the list of their first members, and a list put before a word.
use Prim.Native.Nat.{ℕ, zero, suc, ◌+◌, ◌<◌}
use native.Mathlib.Nat.{zero-add, suc-add, le_of_suc-le-suc, not-suc-le-zero}
use mathlib.Core.Path.{◌≡◌, refl, ap}
use mathlib.Core.List.{List, [], ◌∷◌, ◌++◌, map}
use lib.ListN.{length, get_or}

-- The first n members of a word.
abbrev pub beginning : {X : Type 0} → (ℕ → X) → ℕ → List X
beginning x zero = []
beginning x (suc n) = x 0 ∷ beginning (λ i. x (suc i)) n

-- The list, and then the word.
abbrev pub append_word : {X : Type 0} → List X → (ℕ → X) → ℕ → X
append_word [] x i = x i
append_word (a ∷ r) x zero = a
append_word (a ∷ r) x (suc i) = append_word r x i

module _ {X : Type 0} where
  pub length-beginning : (x : ℕ → X) (n : ℕ) → length (beginning x n) ≡ n
  length-beginning x zero = refl
  length-beginning x (suc n) = ap suc (length-beginning (λ i. x (suc i)) n)

  pub get_or-beginning : (x : ℕ → X) (n i : ℕ) (d : X) → i < n → get_or (beginning x n) i d ≡ x i
  get_or-beginning x zero i d h = absurd (not-suc-le-zero h)
  get_or-beginning x (suc n) zero d h = refl
  get_or-beginning x (suc n) (suc i) d h = get_or-beginning (λ i. x (suc i)) n i d (le_of_suc-le-suc h)

  pub append_word-left : (r : List X) (x : ℕ → X) (i : ℕ) (d : X) → i < length r → append_word r x i ≡ get_or r i d
  append_word-left [] x i d h = absurd (not-suc-le-zero h)
  append_word-left (a ∷ r) x zero d h = refl
  append_word-left (a ∷ r) x (suc i) d h = append_word-left r x i d (le_of_suc-le-suc h)

  pub append_word-right : (r : List X) (x : ℕ → X) (i : ℕ) → append_word r x (length r + i) ≡ x i
  append_word-right [] x i = ap x (zero-add i)
  append_word-right (a ∷ r) x i = rw suc-add (append_word-right r x i)

  pub beginning-append_word : (r : List X) (x : ℕ → X) (n : ℕ) → beginning (append_word r x) (length r + n) ≡ r ++ beginning x n
  beginning-append_word [] x n = ap (beginning x) (zero-add n)
  beginning-append_word (a ∷ r) x n = rw suc-add (ap {B = List X} (λ l. a ∷ l) (beginning-append_word r x n))

module _ {X Y : Type 0} (f : X → Y) where
  pub map-beginning : (x : ℕ → X) (n : ℕ) → map f (beginning x n) ≡ beginning (λ i. f (x i)) n
  map-beginning x zero = refl
  map-beginning x (suc n) = ap {B = List Y} (λ l. f (x 0) ∷ l) (map-beginning (λ i. x (suc i)) n)

  pub map-append_word : (r : List X) (x : ℕ → X) (i : ℕ) → f (append_word r x i) ≡ append_word (map f r) (λ i. f (x i)) i
  map-append_word [] x i = refl
  map-append_word (a ∷ r) x zero = refl
  map-append_word (a ∷ r) x (suc i) = map-append_word r x i
