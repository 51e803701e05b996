-- Worked examples of reach, back, the firsts, D, B and truth, by computation. They fix the figures that the general laws leave open.
use mathlib.Core.Path.{◌≡◌, refl}
use mathlib.Core.Bool.{true}
use mathlib.Core.List.{[], ◌∷◌}
use lib.IntN.{pos, negsuc}
use Rattle.meaning.specs.Value.{nonzero, equal}
use Rattle.meaning.specs.Expression.{Expression, integer, name, first, next, fby, Constraint, always, until, comparison, value_from, value}
use Rattle.meaning.specs.Situation.{done}
use Rattle.meaning.specs.Window.{reach, back, firsts, B, D}

abbrev x : Expression
x = name 0

-- "`fby` is the larger of the left's reach and the right's less 1"
reach-fby : reach (fby (integer (pos 0)) (next (next x))) ≡ 1
unfolding reach
reach-fby = refl

reach-fby-left : reach (fby (next x) x) ≡ 1
unfolding reach
reach-fby-left = refl

-- "`next` takes 1 off, not below 0; `fby` is the right's plus 1"
back-next-fby : back (next (fby x (fby x x))) ≡ 1
unfolding back
back-next-fby = refl

back-next : back (next (next x)) ≡ 0
unfolding back
back-next = refl

-- "0 for a name, an integer and `first`"
back-first : back (first (fby x x)) ≡ 0
unfolding back
back-first = refl

-- The left of `fby` plays no part in back.
back-fby-left : back (fby (fby x (fby x x)) x) ≡ 1
unfolding back
back-fby-left = refl

-- Each `first` counts, one inside another too.
firsts_nested : firsts (first (fby (first x) x)) ≡ fby (first x) x ∷ x ∷ []
unfolding firsts
firsts_nested = refl

-- `x == 0 fby ( first next x )`: reach 0, but D is 1.
abbrev looks_ahead : Constraint
looks_ahead = always (comparison equal) x (fby (integer (pos 0)) (first (next x)))

D-first : D (looks_ahead ∷ []) ≡ 1
unfolding D reach firsts
D-first = refl

B-first : B (looks_ahead ∷ []) ≡ 1
unfolding B back
B-first = refl

-- "any value but 0 is true"
nonzero_two : nonzero (pos 2) ≡ true
nonzero_two = refl

nonzero-minus-one : nonzero (negsuc 0) ≡ true
nonzero-minus-one = refl

-- An until is done where its right side is 2: any value but 0 counts.
done_two : done (λ k i. pos 2) (until (integer (pos 1)) x) 1 ≡ true
unfolding done value value_from
done_two = refl
