-- Parts of a list that follow each other. From the definitions, by induction over the list.
use Prim.Native.Nat.{ℕ, zero, suc, ◌+◌, ◌≤◌, ◌<◌}
use native.Mathlib.Omega.{arith}
use mathlib.Core.Path.{◌≡◌, refl, sym, ◌∙◌, ap}
use mathlib.Core.List.{List, [], ◌∷◌, ◌++◌}
use lib.ListN.{length, get_or}
use lib.Seq.{slice, slice_empty, slice-cons}

-- The part to a place, and then the part from there on.
pub slice_split : (f t u : ℕ) (l : List ℕ) → f ≤ t → t ≤ u → slice f t l ++ slice t u l ≡ slice f u l
slice_split zero zero u l h k = refl
slice_split zero (suc t) zero l h k = absurd (omega arith)
slice_split zero (suc t) (suc u) [] h k = refl
slice_split zero (suc t) (suc u) (b ∷ l) h k = ap (λ m. b ∷ m) (slice_split zero t u l (omega arith) (omega arith))
slice_split (suc f) zero u l h k = absurd (omega arith)
slice_split (suc f) (suc t) zero l h k = absurd (omega arith)
slice_split (suc f) (suc t) (suc u) [] h k = refl
slice_split (suc f) (suc t) (suc u) (b ∷ l) h k = slice_split f t u l (omega arith) (omega arith)

pub slice_one : (l : List ℕ) (t : ℕ) → t < length l → slice t (t + 1) l ≡ get_or l t 0 ∷ []
slice_one l t h = slice-cons t (t + 1) l 0 (omega arith) (omega arith) ∙ ap (λ m. get_or l t 0 ∷ m) (let e : t + 1 ≡ suc t = omega arith in ap (λ n. slice (suc t) n l) e ∙ slice_empty (suc t) l)

-- One element more.
pub slice_more : (f t : ℕ) (l : List ℕ) → f ≤ t → t < length l → slice f (t + 1) l ≡ slice f t l ++ (get_or l t 0 ∷ [])
slice_more f t l h k = sym (slice_split f t (t + 1) l h (omega arith)) ∙ ap (λ m. slice f t l ++ m) (slice_one l t k)

-- A part that is not empty begins with the element at its place.
pub slice_first : (f t : ℕ) (l : List ℕ) → f < t → t ≤ length l → slice f t l ≡ get_or l f 0 ∷ slice (suc f) t l
slice_first f t l h k = slice-cons f t l 0 h k
