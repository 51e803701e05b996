-- Laws of the texts of values one after the other: those of two lists, one value more of a list, and values with a space behind each. From the definitions.
use Prim.Native.Nat.{ℕ, ◌+◌, ◌<◌}
use native.Mathlib.Numerals.{add-one}
use mathlib.Core.Path.{◌≡◌, refl, sym, ◌∙◌, ap}
use mathlib.Core.List.{List, [], ◌∷◌, ◌++◌, map, append_assoc, append-nil}
use lib.IntN.{ℤ}
use lib.ListN.{length, get_or, take}
use lib.Seq.{take-suc}
use Rattle.print.specs.Text.{decimal, spaced}
use Rattle.print.specs.Lines.{each}

module _ {X : Type 0} (before after : List ℕ) (text : X → List ℕ) where
  pub each_append : (xs ys : List X) → each before text xs after ++ each before text ys after ≡ each before text (xs ++ ys) after
  each_append [] ys = refl
  each_append (x ∷ xs) ys = append_assoc (before ++ (text x ++ after)) (each before text xs after) (each before text ys after) ∙ ap ((before ++ (text x ++ after)) ++◌) (each_append xs ys)

  -- One value more.
  pub each_more : (xs : List X) (x : X) → each before text xs after ++ (before ++ (text x ++ after)) ≡ each before text (xs ++ (x ∷ [])) after
  each_more xs x = ap (each before text xs after ++◌) (sym (append-nil (before ++ (text x ++ after)))) ∙ each_append xs (x ∷ [])

  pub each_next : (xs : List X) (d : X) (i : ℕ) → i < length xs → each before text (take i xs) after ++ (before ++ (text (get_or xs i d) ++ after)) ≡ each before text (take (i + 1) xs) after
  each_next xs d i h = each_more (take i xs) (get_or xs i d) ∙ ap (λ l. each before text l after) (sym (ap (λ k. take k xs) (add-one i) ∙ take-suc xs i d h))

-- Numbers with a space behind each.
pub each_spaced : (vs : List ℤ) → each [] decimal vs (32 ∷ []) ≡ spaced (map decimal vs)
each_spaced [] = refl
each_spaced (v ∷ vs) = append_assoc (decimal v) (32 ∷ []) (each [] decimal vs (32 ∷ [])) ∙ ap (λ l. decimal v ++ (32 ∷ l)) (each_spaced vs)
