-- The entries of the normal form as rows of numbers, in their order (document 01, "Intervals and the normal form"): expressions are named by the
-- places of their nodes among the sheet's stored nodes, added streams by their numbers.
use Rattle.std.specs.Prelude.{ℕ, suc, ◌+◌, ◌-◌, cond, List, [], ◌∷◌, ◌++◌, eqb}
use Rattle.meaning.specs.Expression.{Expression, integer, name, first, next, negation, binary, conditional, fby, Constraint, left_side, right_side}
use Rattle.nodes.specs.Code.{relation_code}
use Rattle.spans.specs.Postfix.{node_count}
use Rattle.normal_entries.specs.Row.{Row}

-- Kind 1: a rewritten constraint with one of the signs; its sides end before the places l and r, and add streams from m and from n on.
abbrev pub constraint_row : ℕ → ℕ → ℕ → ℕ → ℕ → Row
constraint_row relation l m r n =
    record { kind = 1; relation = relation; left = l - 1; left_added = m; right = r - 1; right_added = n; source = 0 }

-- Kind 2: x₁ until x₂. Stream x stands for the expression that ends before the place e.
abbrev pub until_row : ℕ → ℕ → Row
until_row x e = record { kind = 2; relation = 7; left = x; left_added = 0; right = suc x; right_added = 0; source = e }

-- Kind 3: x == the rewritten expression that ends before the place e and adds streams from n on.
abbrev pub equation_row : ℕ → ℕ → ℕ → Row
equation_row x e n = record { kind = 3; relation = 2; left = x; left_added = 0; right = e - 1; right_added = n; source = e }

-- Kind 4: x == next y, and kind 5: first x == first y. Stream x stands for the expression that ends before the place e.
abbrev pub next_row : ℕ → ℕ → ℕ → Row
next_row x y e = record { kind = 4; relation = 2; left = x; left_added = 0; right = y; right_added = 0; source = e }

abbrev pub first_row : ℕ → ℕ → ℕ → Row
first_row x y e = record { kind = 5; relation = 2; left = x; left_added = 0; right = y; right_added = 0; source = e }

-- What an expression adds: how many streams, and the entries where the streams are numbered from a number on.
pub record Rewriting : Type 0 where
  pub added : ℕ
  pub rows : ℕ → List Row

abbrev pub nothing_added : Rewriting
nothing_added = record { added = 0; rows = λ n. [] }

-- Those of two parts, one after the other.
abbrev pub both_rewritings : Rewriting → Rewriting → Rewriting
both_rewritings a b = record { added = a.added + b.added; rows = λ n. a.rows n ++ b.rows (n + a.added) }

-- "`next` adds two streams and two entries": x₂ == expr and x₁ == next x₂, of an expression that ends before the place e.
abbrev pub next_entries : ℕ → ℕ → List Row
next_entries e n = equation_row (suc n) e (suc (suc n)) ∷ next_row n (suc n) (suc e) ∷ []

abbrev pub next_rewriting : ℕ → Rewriting → Rewriting
next_rewriting e a = record { added = suc (suc a.added); rows = λ n. next_entries e n ++ a.rows (suc (suc n)) }

-- "`fby` three streams and four entries": x₂ == expr₁, x₃ == expr₂, first x₁ == first x₂ and x₃ == next x₁, where x₁ has the number x. The
-- expressions end before the places l and r, and add streams from n on and from behind x₃ on.
abbrev pub fby_entries : ℕ → ℕ → ℕ → ℕ → List Row
fby_entries l r n x =
    equation_row (suc x) l n
    ∷ equation_row (suc (suc x)) r (suc (suc (suc x)))
    ∷ first_row x (suc x) (suc r)
    ∷ next_row (suc (suc x)) x r
    ∷ []

abbrev pub fby_rewriting : ℕ → ℕ → Rewriting → Rewriting → Rewriting
fby_rewriting l r a b =
    record {
      added = a.added + suc (suc (suc b.added));
      rows = λ n. a.rows n ++ (fby_entries l r n (n + a.added) ++ b.rows (suc (suc (suc (n + a.added)))));
    }

-- ---- expressions

-- What an expression adds whose nodes stand from the place p on.
unfoldable pub rewriting : ℕ → Expression → Rewriting
rewriting p (integer z) = nothing_added
rewriting p (name k) = nothing_added
rewriting p (first e) = rewriting p e
rewriting p (next e) = next_rewriting (p + node_count e) (rewriting p e)
rewriting p (negation e) = rewriting p e
rewriting p (binary o a b) = both_rewritings (rewriting p a) (rewriting (p + node_count a) b)
rewriting p (conditional c a b) =
    both_rewritings (rewriting p c) (both_rewritings (rewriting (p + node_count c) a) (rewriting (p + node_count c + node_count a) b))
rewriting p (fby a b) =
    fby_rewriting (p + node_count a) (p + node_count a + node_count b) (rewriting p a) (rewriting (p + node_count a) b)

-- ---- constraints

-- What a constraint line gives: its own rewritten entry, where its added streams are numbered from a number on, and what it adds.
pub record Line : Type 0 where
  pub own : ℕ → Row
  pub adds : Rewriting

-- "an `until` line two streams and two entries": x₁ == expr₁ and x₂ == expr₂, where x₁ has the number x.
abbrev pub until_entries : ℕ → ℕ → ℕ → ℕ → List Row
until_entries l r n x = equation_row x l n ∷ equation_row (suc x) r (suc (suc x)) ∷ []

abbrev pub until_rewriting : ℕ → ℕ → Rewriting → Rewriting → Rewriting
until_rewriting l r a b =
    record {
      added = a.added + suc (suc b.added);
      rows = λ n. a.rows n ++ (until_entries l r n (n + a.added) ++ b.rows (suc (suc (n + a.added))));
    }

-- The line with a relation whose sides end before the places l and r and add a and b.
abbrev pub until_line : ℕ → ℕ → Rewriting → Rewriting → Line
until_line l r a b = record { own = λ n. until_row (n + a.added) l; adds = until_rewriting l r a b }

abbrev pub always_line : ℕ → ℕ → ℕ → Rewriting → Rewriting → Line
always_line relation l r a b = record { own = λ n. constraint_row relation l n r (n + a.added); adds = both_rewritings a b }

abbrev pub relation_line : ℕ → ℕ → ℕ → Rewriting → Rewriting → Line
relation_line relation l r a b = cond (eqb relation 7) (until_line l r a b) (always_line relation l r a b)

-- The line of a constraint whose nodes stand from the place p on, and the lines of constraints.
abbrev pub line_at : ℕ → Constraint → Line
line_at p c =
    let l = p + node_count (left_side c) in
    relation_line (relation_code c) l (l + node_count (right_side c)) (rewriting p (left_side c)) (rewriting l (right_side c))

unfoldable pub rewriting_lines : ℕ → List Constraint → List Line
rewriting_lines p [] = []
rewriting_lines p (c ∷ cs) = line_at p c ∷ rewriting_lines (p + node_count (left_side c) + node_count (right_side c)) cs

-- ---- all entries

unfoldable pub own_rows : ℕ → List Line → List Row
own_rows n [] = []
own_rows n (l ∷ ls) = l.own n ∷ own_rows (n + l.adds.added) ls

unfoldable pub added_rows : ℕ → List Line → List Row
added_rows n [] = []
added_rows n (l ∷ ls) = l.adds.rows n ++ added_rows (n + l.adds.added) ls

-- "The rewritten constraints stand first, in sheet order, then the added entries by operator".
abbrev pub all_rows : ℕ → List Line → List Row
all_rows n ls = own_rows n ls ++ added_rows n ls

-- The number behind that of the last added stream.
unfoldable pub streams_after : ℕ → List Line → ℕ
streams_after n [] = n
streams_after n (l ∷ ls) = streams_after (n + l.adds.added) ls
