-- There is one place for each first.
use Prim.Native.Nat.{ℕ, suc, ◌+◌}
use mathlib.Core.Path.{◌≡◌, refl, sym, ◌∙◌, ap, ap₂}
use mathlib.Core.List.{List, [], ◌∷◌, ◌++◌}
use lib.ListN.{length, length-append}
use Rattle.meaning.specs.Expression.{Expression, integer, name, first, next, negation, binary, conditional, fby, Constraint, left_side, right_side}
use Rattle.meaning.specs.Interval.{subexpressions}
use Rattle.meaning.specs.Window.{firsts, all_firsts}
use Rattle.nodes.specs.FirstPlaces.{first_places, all_first_places}

pub places-long : (n : ℕ) (e : Expression) → length (first_places n e) ≡ length (firsts e)
unfolding first_places firsts
places-long n (integer z) = refl
places-long n (name k) = refl
places-long n (first e) = ap suc (places-long n e)
places-long n (next e) = places-long n e
places-long n (negation e) = places-long n e
places-long n (binary o a b) = length-append (first_places n a) _ ∙ ap₂ ◌+◌ (places-long n a) (places-long (n + length (subexpressions a)) b) ∙ sym (length-append (firsts a) (firsts b))
places-long n (conditional c a b) =
    length-append (first_places n c) _ ∙ ap₂ ◌+◌ (places-long n c) (length-append (first_places (n + length (subexpressions c)) a) _ ∙ ap₂ ◌+◌ (places-long (n + length (subexpressions c)) a) (places-long (n + length (subexpressions c) + length (subexpressions a)) b) ∙ sym (length-append (firsts a) (firsts b)))
    ∙ sym (length-append (firsts c) (firsts a ++ firsts b))
places-long n (fby a b) = length-append (first_places n a) _ ∙ ap₂ ◌+◌ (places-long n a) (places-long (n + length (subexpressions a)) b) ∙ sym (length-append (firsts a) (firsts b))

pub all_places_long : (n : ℕ) (cs : List Constraint) → length (all_first_places n cs) ≡ length (all_firsts cs)
unfolding all_first_places
all_places_long n [] = refl
all_places_long n (c ∷ cs) =
    length-append (first_places n (left_side c) ++ _) _
    ∙ ap₂ ◌+◌ (length-append (first_places n (left_side c)) _ ∙ ap₂ ◌+◌ (places-long n (left_side c)) (places-long _ (right_side c)) ∙ sym (length-append (firsts (left_side c)) (firsts (right_side c)))) (all_places_long (n + length (subexpressions (left_side c)) + length (subexpressions (right_side c))) cs)
    ∙ sym (length-append (firsts (left_side c) ++ firsts (right_side c)) (all_firsts cs))
