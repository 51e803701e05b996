-- What a sheet of release 2 means has the shape of what its lines are read as: as many constraints and expressions, and the same sides but for the
-- operators (document 02, S-11).
use Prim.Native.Nat.{ℕ}
use mathlib.Core.Path.{◌≡◌, refl, sym, ap, ap₂, ◌∙◌}
use mathlib.Core.Bool.{Bool, true, false}
use mathlib.Core.List.{List, [], ◌∷◌, ◌++◌, map, map-append}
use lib.ListN.{length, length-map}
use Rattle.meaning.specs.Expression.{Expression, integer, name, first, next, negation, binary, conditional, fby, Constraint, always, until, left_side, right_side}
use Rattle.meaning.specs.Interval.{subexpressions}
use Rattle.sheet.specs.Release.{floored, floored_constraint, meant_constraints}
use Rattle.sheet.specs.Reading.{all_expressions}

pub floored-left : (c : Constraint) → left_side (floored_constraint c) ≡ floored (left_side c)
floored-left (always s a b) = refl
floored-left (until a b) = refl

pub floored-right : (c : Constraint) → right_side (floored_constraint c) ≡ floored (right_side c)
floored-right (always s a b) = refl
floored-right (until a b) = refl

-- A map over two lists one behind the other.
pub map-parts : {X : Type 0} (f : X → X) (xs ys : List X) {us vs : List X} → us ≡ map f xs → vs ≡ map f ys → us ++ vs ≡ map f (xs ++ ys)
map-parts f xs ys p q = ap₂ ◌++◌ p q ∙ sym (map-append f xs ys)

pub floored-subexpressions : (e : Expression) → subexpressions (floored e) ≡ map floored (subexpressions e)
unfolding subexpressions
floored-subexpressions (integer z) = refl
floored-subexpressions (name k) = refl
floored-subexpressions (first e) = ap (λ l. first (floored e) ∷ l) (floored-subexpressions e)
floored-subexpressions (next e) = ap (λ l. next (floored e) ∷ l) (floored-subexpressions e)
floored-subexpressions (negation e) = ap (λ l. negation (floored e) ∷ l) (floored-subexpressions e)
floored-subexpressions (binary o a b) = ap (λ l. floored (binary o a b) ∷ l) (map-parts floored (subexpressions a) (subexpressions b) (floored-subexpressions a) (floored-subexpressions b))
floored-subexpressions (conditional c a b) = ap (λ l. floored (conditional c a b) ∷ l) (map-parts floored (subexpressions c) (subexpressions a ++ subexpressions b) (floored-subexpressions c) (map-parts floored (subexpressions a) (subexpressions b) (floored-subexpressions a) (floored-subexpressions b)))
floored-subexpressions (fby a b) = ap (λ l. floored (fby a b) ∷ l) (map-parts floored (subexpressions a) (subexpressions b) (floored-subexpressions a) (floored-subexpressions b))

-- Every expression of the constraints, in its order.
pub floored_expressions : (cs : List Constraint) → all_expressions (map floored_constraint cs) ≡ map floored (all_expressions cs)
floored_expressions [] = refl
floored_expressions (c ∷ cs) =
    let left = ap subexpressions (floored-left c) ∙ floored-subexpressions (left_side c) in
    let right = ap subexpressions (floored-right c) ∙ floored-subexpressions (right_side c) in
    map-parts floored (subexpressions (left_side c) ++ subexpressions (right_side c)) (all_expressions cs) (map-parts floored (subexpressions (left_side c)) (subexpressions (right_side c)) left right) (floored_expressions cs)

-- As many constraints, and as many expressions.
pub meant-length : (floors : Bool) (cs : List Constraint) → length (meant_constraints floors cs) ≡ length cs
meant-length true cs = length-map cs floored_constraint
meant-length false cs = refl

pub meant_expressions : (floors : Bool) (cs : List Constraint) → length (all_expressions (meant_constraints floors cs)) ≡ length (all_expressions cs)
meant_expressions true cs = ap length (floored_expressions cs) ∙ length-map (all_expressions cs) floored
meant_expressions false cs = refl
