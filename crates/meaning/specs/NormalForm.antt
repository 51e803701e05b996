-- The normal form (000, section 3.1; document 01, "Intervals and the normal form").
use Rattle.std.specs.Prelude.{ℕ, suc, ◌+◌, ◌<◌, T, length}
use mathlib.Core.List.{List, [], ◌∷◌, ◌++◌, map, Memᴰ}
use Rattle.meaning.specs.Value.{equal, same_value, Streams, ValueStreams, numbers}
use Rattle.meaning.specs.Arithmetic.{NumberWithin, AnyWithin}
use Rattle.meaning.specs.Expression.{Expression, integer, name, first, next, negation, binary, conditional, fby, comparison, Constraint, always, until, left_side, right_side, set_kind, Sheet, range_of, value_from, MeetsFrom, Solution}
use Rattle.meaning.specs.Interval.{interval}
use Rattle.meaning.specs.Scope.{AgreeBelow}

-- What each added stream stands for: "`next` adds two streams [..], `fby` three streams"; "Added streams are numbered as their operators
-- stand in the sheet, those of one operator as 000 numbers them." The left operand's operators stand before an infix `fby`.
unfoldable pub added : Expression → List Expression
added (integer z) = []
added (name k) = []
added (first e) = added e
added (next e) = next e ∷ e ∷ added e
added (negation e) = added e
added (binary o a b) = added a ++ added b
added (conditional c a b) = added c ++ (added a ++ added b)
added (fby a b) = added a ++ (fby a b ∷ a ∷ b ∷ added b)

abbrev pub added_count : Expression → ℕ
added_count e = length (added e)

-- The expression rewritten, its added streams numbered from n on: 000's context c[x₁] in place of c[next expr] and c[expr₁ fby expr₂].
unfoldable pub rewritten : ℕ → Expression → Expression
rewritten n (integer z) = integer z
rewritten n (name k) = name k
rewritten n (first e) = first (rewritten n e)
rewritten n (next e) = name n
rewritten n (negation e) = negation (rewritten n e)
rewritten n (binary o a b) = binary o (rewritten n a) (rewritten (n + added_count a) b)
rewritten n (conditional c a b) = conditional (rewritten n c) (rewritten (n + added_count c) a) (rewritten (n + added_count c + added_count a) b)
rewritten n (fby a b) = name (n + added_count a)

-- 000's entry x₂ == expr.
abbrev pub equation : ℕ → Expression → Constraint
equation k e = always (comparison equal) (name k) e

-- The added entries "by operator, each in 000's order": for `next`, x₂ == expr and x₁ == next x₂;
-- for `fby`, x₂ == expr₁, x₃ == expr₂, first x₁ == first x₂ and x₃ == next x₁.
unfoldable pub added_entries : ℕ → Expression → List Constraint
added_entries n (integer z) = []
added_entries n (name k) = []
added_entries n (first e) = added_entries n e
added_entries n (next e) = equation (suc n) (rewritten (suc (suc n)) e) ∷ equation n (next (name (suc n))) ∷ added_entries (suc (suc n)) e
added_entries n (negation e) = added_entries n e
added_entries n (binary o a b) = added_entries n a ++ added_entries (n + added_count a) b
added_entries n (conditional c a b) = added_entries n c ++ (added_entries (n + added_count c) a ++ added_entries (n + added_count c + added_count a) b)
added_entries n (fby a b) =
    let x = n + added_count a in
    added_entries n a
    ++ (equation (suc x) (rewritten n a)
    ∷ equation (suc (suc x)) (rewritten (suc (suc (suc x))) b)
    ∷ always (comparison equal) (first (name x)) (first (name (suc x)))
    ∷ equation (suc (suc x)) (next (name x))
    ∷ added_entries (suc (suc (suc x))) b)

-- The same for a constraint: "an `until` line two streams and two entries", x₁ == expr₁ and x₂ == expr₂, and x₁ until x₂ in its own place.
unfoldable pub added_by : Constraint → List Expression
added_by (always s a b) = added a ++ added b
added_by (until a b) = added a ++ (a ∷ b ∷ added b)

unfoldable pub rewritten_constraint : ℕ → Constraint → Constraint
rewritten_constraint n (always s a b) = always s (rewritten n a) (rewritten (n + added_count a) b)
rewritten_constraint n (until a b) = until (name (n + added_count a)) (name (suc (n + added_count a)))

unfoldable pub entries_by : ℕ → Constraint → List Constraint
entries_by n (always s a b) = added_entries n a ++ added_entries (n + added_count a) b
entries_by n (until a b) =
    let x = n + added_count a in
    added_entries n a ++ (equation x (rewritten n a) ∷ equation (suc x) (rewritten (suc (suc x)) b) ∷ added_entries (suc (suc x)) b)

unfoldable pub all_added : List Constraint → List Expression
all_added [] = []
all_added (c ∷ cs) = added_by c ++ all_added cs

unfoldable pub all_rewritten : ℕ → List Constraint → List Constraint
all_rewritten n [] = []
all_rewritten n (c ∷ cs) = rewritten_constraint n c ∷ all_rewritten (n + length (added_by c)) cs

unfoldable pub all_entries : ℕ → List Constraint → List Constraint
all_entries n [] = []
all_entries n (c ∷ cs) = entries_by n c ++ all_entries (n + length (added_by c)) cs

-- "The rewritten constraints stand first, in sheet order, then the added entries by operator".
-- "An added stream ranges over the interval of the expression it stands for (of the whole `fby` for its result)."
unfoldable pub normal_form : Sheet → Sheet
normal_form s =
    let n = length s.streams in
    record {
      streams = s.streams ++ map (λ e. record { name = []; kind = set_kind; range = interval s.streams e }) (all_added s.constraints);
      constraints = all_rewritten n s.constraints ++ all_entries n s.constraints;
    }

-- How often the words `next` and `fby` stand in an expression.
unfoldable pub nexts_in : Expression → ℕ
nexts_in (integer z) = 0
nexts_in (name k) = 0
nexts_in (first e) = nexts_in e
nexts_in (next e) = suc (nexts_in e)
nexts_in (negation e) = nexts_in e
nexts_in (binary o a b) = nexts_in a + nexts_in b
nexts_in (conditional c a b) = nexts_in c + nexts_in a + nexts_in b
nexts_in (fby a b) = nexts_in a + nexts_in b

unfoldable pub fbys_in : Expression → ℕ
fbys_in (integer z) = 0
fbys_in (name k) = 0
fbys_in (first e) = fbys_in e
fbys_in (next e) = fbys_in e
fbys_in (negation e) = fbys_in e
fbys_in (binary o a b) = fbys_in a + fbys_in b
fbys_in (conditional c a b) = fbys_in c + fbys_in a + fbys_in b
fbys_in (fby a b) = suc (fbys_in a + fbys_in b)

-- What an added entry, an `==` over the added streams, asks: "in the added entries none equals none and no number" (document 02, S-5).
unfoldable pub MeetsEntry : ValueStreams → Constraint → Type 0
MeetsEntry v c = (i : ℕ) → T (same_value (value_from v (left_side c) i) (value_from v (right_side c) i))

-- A solution of the normal form: the sheet's streams have numbers, every stream stays in its range, where "added streams may carry none"
-- (document 02, S-5), the rewritten lines are met by the sheet's own rule, and the added entries by theirs.
pub record NormalSolution (s : Sheet) (v : ValueStreams) : Type 0 where
  pub numbered : (k i : ℕ) → k < length s.streams → NumberWithin (range_of s.streams k) (v k i)
  pub ranged : (k i : ℕ) → k < length (normal_form s).streams → AnyWithin (range_of (normal_form s).streams k) (v k i)
  pub lines : (c : Constraint) → Memᴰ c (all_rewritten (length s.streams) s.constraints) → MeetsFrom v c
  pub entries : (c : Constraint) → Memᴰ c (all_entries (length s.streams) s.constraints) → MeetsEntry v c

-- "Each solution extends to the normal form in one way only" (demand 2): exactly one solution of the normal form agrees with w on the
-- sheet's streams.
pub record ExtendsUniquely (s : Sheet) (w : Streams) : Type 0 where
  pub extension : ValueStreams
  pub agrees : AgreeBelow (length s.streams) extension (numbers w)
  pub solves : NormalSolution s extension
  pub only : (v : ValueStreams) → AgreeBelow (length s.streams) v (numbers w) → NormalSolution s v → AgreeBelow (length (normal_form s).streams) v extension

-- Each solution of the normal form, cut back to the sheet's streams, solves the sheet (demand 2): v has a number at every time on each of the
-- sheet's streams, and these numbers are a solution.
pub record CutsBack (s : Sheet) (v : ValueStreams) : Type 0 where
  pub cut : Streams
  pub agrees : AgreeBelow (length s.streams) v (numbers cut)
  pub solves : Solution s cut
