-- The ends of ranges in a table: what the loop over rows leaves.
use Prim.Native.Nat.{ℕ, zero, suc, ◌+◌, ◌*◌}
use native.Mathlib.Omega.{arith}
use native.Mathlib.Numerals.{add-one}
use mathlib.Core.Path.{◌≡◌, refl, sym, ◌∙◌, ap}
use mathlib.Core.List.{List, [], ◌∷◌}
use lib.IntN.{ℤ}
use lib.ListN.{length, length-append}
use lib.Seq.{sets}
use Rattle.basics.proofs.Lists.{sets_append}
use Rattle.std.specs.Prelude.{Option}
use Rattle.nodes.specs.declared.Range.{Range}
use Rattle.normal.specs.Table.{source_at, range_or_zeros, ends_of, ends_up_to}

pub length-ends_up_to : (range : ℕ → Option Range) (numbers : List ℕ) (n : ℕ) → length (ends_up_to range numbers n) ≡ n * 2
unfolding ends_up_to
length-ends_up_to range numbers zero = refl
length-ends_up_to range numbers (suc n) =
    let h = length-ends_up_to range numbers n in
    length-append (ends_up_to range numbers n) (ends_of (range (source_at numbers n))) ∙ omega arith

pub no_ends : (range : ℕ → Option Range) (numbers : List ℕ) (t : List ℤ) → t ≡ sets t 0 (ends_up_to range numbers 0)
unfolding ends_up_to
no_ends range numbers t = refl

-- One range more.
pub more-ends : (range : ℕ → Option Range) (numbers : List ℕ) (t : List ℤ) {u v : List ℤ} (i : ℕ) {r : Range} → u ≡ sets t 0 (ends_up_to range numbers i) → r ≡ range_or_zeros (range (source_at numbers i))
    → v ≡ sets u (i * 2) (r.low ∷ r.high ∷ []) → v ≡ sets t 0 (ends_up_to range numbers (i + 1))
unfolding ends_up_to
more-ends range numbers t i p q e =
    let at : i * 2 ≡ 0 + length (ends_up_to range numbers i) = omega (arith, length-ends_up_to range numbers i) in
    e
    ∙ (λ j. sets (p j) (at j) ((q j).low ∷ (q j).high ∷ []))
    ∙ sets_append t 0 (ends_up_to range numbers i) (ends_of (range (source_at numbers i)))
    ∙ ap (λ k. sets t 0 (ends_up_to range numbers k)) (sym (add-one i))
