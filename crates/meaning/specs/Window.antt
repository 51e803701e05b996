-- How far an expression looks ahead and back, and the `first`s in it (document 01, "Letters, situations, table").
use Rattle.std.specs.Prelude.{ℕ, suc, ◌-◌, max, List, [], ◌∷◌, ◌++◌}
use Rattle.meaning.specs.Expression.{Expression, integer, name, first, next, negation, binary, conditional, fby, Constraint, always, until, left_side, right_side}

-- "Reach: 0 for a name or integer; `next` adds 1; `fby` is the larger of the left's reach and the right's less 1; otherwise the largest of the parts."
unfoldable pub reach : Expression → ℕ
reach (integer z) = 0
reach (name k) = 0
reach (first e) = reach e
reach (next e) = suc (reach e)
reach (negation e) = reach e
reach (binary o a b) = max (reach a) (reach b)
reach (conditional c a b) = max (reach c) (max (reach a) (reach b))
reach (fby a b) = max (reach a) (reach b - 1)

-- "Back: 0 for a name, an integer and `first`; `next` takes 1 off, not below 0; `fby` is the right's plus 1; otherwise the largest."
unfoldable pub back : Expression → ℕ
back (integer z) = 0
back (name k) = 0
back (first e) = 0
back (next e) = back e - 1
back (negation e) = back e
back (binary o a b) = max (back a) (back b)
back (conditional c a b) = max (back c) (max (back a) (back b))
back (fby a b) = suc (back b)

-- What each `first` of the expression stands before, in the order of the words `first` in the text; one inside another counts too.
unfoldable pub firsts : Expression → List Expression
firsts (integer z) = []
firsts (name k) = []
firsts (first e) = e ∷ firsts e
firsts (next e) = firsts e
firsts (negation e) = firsts e
firsts (binary o a b) = firsts a ++ firsts b
firsts (conditional c a b) = firsts c ++ (firsts a ++ firsts b)
firsts (fby a b) = firsts a ++ firsts b

abbrev pub largest_over : {X : Type 0} → (X → ℕ) → List X → ℕ
largest_over f [] = 0
largest_over f (x ∷ xs) = max (f x) (largest_over f xs)

abbrev pub side_firsts : Constraint → List Expression
side_firsts c = firsts (left_side c) ++ firsts (right_side c)

abbrev pub join_over : {X Y : Type 0} → (X → List Y) → List X → List Y
join_over f [] = []
join_over f (x ∷ xs) = f x ++ join_over f xs

-- What each `first` of the sheet stands before.
abbrev pub all_firsts : List Constraint → List Expression
all_firsts cs = join_over side_firsts cs

-- "B is the largest back of a whole side of a constraint." "Without constraints both are 0."
unfoldable pub B : List Constraint → ℕ
B cs = largest_over (λ c. max (back (left_side c)) (back (right_side c))) cs

-- "D is the largest reach of such a side or of what any `first` stands before."
unfoldable pub D : List Constraint → ℕ
D cs = max (largest_over (λ c. max (reach (left_side c)) (reach (right_side c))) cs) (largest_over reach (all_firsts cs))

-- The until lines, one mark each.
abbrev pub untils_of : Constraint → List Constraint
untils_of (always s a b) = []
untils_of (until a b) = until a b ∷ []

abbrev pub all_untils : List Constraint → List Constraint
all_untils cs = join_over untils_of cs
