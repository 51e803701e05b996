-- Laws of the tests on the names of line 1.
use Prim.Native.Nat.{ℕ, suc}
use mathlib.Core.Path.{◌≡◌, refl, sym, ap, ap₂, ◌∙◌}
use mathlib.Core.Bool.{Bool, true, false, not, cond, ◌&&◌, ◌||◌}
use mathlib.Core.List.{List, [], ◌∷◌}
use lib.Dec.{ltb, leb-suc-suc, leb-zero}
use lib.ListN.{length}
use Rattle.basics.proofs.Reflects.{ltb_suc}
use Rattle.basics.proofs.Tests.{or_true}
use Rattle.text.specs.Bytes.{Token}
use Rattle.text.specs.Token.{same_bytes, is_one_of, is_reserved}
use Rattle.sheet.specs.Vocabulary.{name_place}
use Rattle.sheet.specs.Reading.{any_of, are_distinct}
use Rattle.refusals.specs.Names.{names_refused}

ltb_zero : (n : ℕ) → ltb 0 (suc n) ≡ true
ltb_zero n = leb-suc-suc 0 n ∙ leb-zero n

-- A place below the number of tokens is a token's.
pub place_of-below : (ts : List Token) (t : Token) → ltb (name_place ts t) (length ts) ≡ is_one_of ts t
unfolding name_place
place_of-below [] t = refl
place_of-below (n ∷ ts) t = by (place_of-below ts t) (same_bytes n t) refl
  where
    by : ltb (name_place ts t) (length ts) ≡ is_one_of ts t → (b : Bool) → same_bytes n t ≡ b → ltb (cond (same_bytes n t) 0 (suc (name_place ts t))) (suc (length ts)) ≡ same_bytes n t || is_one_of ts t
    by h true e = ap (λ b. ltb (cond b 0 (suc (name_place ts t))) (suc (length ts))) e ∙ ltb_zero (length ts) ∙ sym (ap (λ b. b || is_one_of ts t) e)
    by h false e = ap (λ b. ltb (cond b 0 (suc (name_place ts t))) (suc (length ts))) e ∙ ltb_suc (name_place ts t) (length ts) ∙ h ∙ sym (ap (λ b. b || is_one_of ts t) e)

module _ (t : Token) (us : List Token) where
  pub names-none : {ts : List Token} → ts ≡ [] → false ≡ names_refused ts
  unfolding names_refused
  names-none e = sym (ap names_refused e)

  pub names_reserved : {ts : List Token} → ts ≡ t ∷ us → is_reserved t ≡ true → true ≡ names_refused ts
  unfolding names_refused
  names_reserved e h = sym (ap names_refused e ∙ ap (λ b. not (are_distinct (t ∷ us)) || (b || any_of is_reserved us)) h ∙ or_true (not (are_distinct (t ∷ us))))

  pub names_twice : {ts : List Token} → ts ≡ t ∷ us → is_one_of us t ≡ true → true ≡ names_refused ts
  unfolding names_refused
  names_twice e h = sym (ap names_refused e ∙ ap (λ b. not (not b && are_distinct us) || any_of is_reserved (t ∷ us)) h)

  pub names-later : {ts : List Token} → ts ≡ t ∷ us → is_reserved t ≡ false → is_one_of us t ≡ false → names_refused ts ≡ names_refused us
  unfolding names_refused
  names-later e h k = ap names_refused e ∙ ap₂ (λ b d. not (not d && are_distinct us) || (b || any_of is_reserved us)) h k
