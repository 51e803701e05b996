-- How many entries and streams the normal form has (document 01, "Intervals and the normal form").
use Prim.Native.Nat.{ℕ, suc, ◌+◌, ◌*◌}
use native.Mathlib.Omega.{arith}
use mathlib.Core.Path.{◌≡◌, refl, ap}
use mathlib.Core.List.{List, [], ◌∷◌}
use lib.ListN.{length, length-append}
use Rattle.meaning.specs.Expression.{Expression, integer, name, first, next, negation, binary, conditional, fby, Constraint, always, until, left_side, right_side, Sheet}
use Rattle.meaning.specs.Window.{untils_of, all_untils}
use Rattle.meaning.specs.NormalForm.{added, added_count, added_entries, added_by, entries_by, all_added, all_rewritten, all_entries, normal_form, nexts_in, fbys_in}
use Rattle.meaning.proofs.NormalForm.Names.{streams-length}

abbrev pub sum_over : {X : Type 0} → (X → ℕ) → List X → ℕ
sum_over f [] = 0
sum_over f (x ∷ xs) = f x + sum_over f xs

-- How often a word stands in both sides of all constraints, counted by how often it stands in an expression.
abbrev pub over_sides : (Expression → ℕ) → List Constraint → ℕ
over_sides f cs = sum_over (λ c. f (left_side c) + f (right_side c)) cs

-- "`next` adds two streams [..], `fby` three streams"
added-length : (e : Expression) → length (added e) ≡ 2 * nexts_in e + 3 * fbys_in e
unfolding added nexts_in fbys_in
added-length (integer z) = refl
added-length (name k) = refl
added-length (first e) = added-length e
added-length (next e) = omega (arith, added-length e)
added-length (negation e) = added-length e
added-length (binary o a b) = simp length-append (omega (arith, added-length a, added-length b))
added-length (conditional c a b) = simp length-append (omega (arith, added-length c, added-length a, added-length b))
added-length (fby a b) = simp length-append (omega (arith, added-length a, added-length b))

-- "`next` adds [..] two entries, `fby` [..] four entries"
added_entries-length : (n : ℕ) (e : Expression) → length (added_entries n e) ≡ 2 * nexts_in e + 4 * fbys_in e
unfolding added_entries nexts_in fbys_in
added_entries-length n (integer z) = refl
added_entries-length n (name k) = refl
added_entries-length n (first e) = added_entries-length n e
added_entries-length n (next e) = omega (arith, added_entries-length (suc (suc n)) e)
added_entries-length n (negation e) = added_entries-length n e
added_entries-length n (binary o a b) = simp length-append (omega (arith, added_entries-length n a, added_entries-length (n + added_count a) b))
added_entries-length n (conditional c a b) =
    simp length-append (omega (arith, added_entries-length n c, added_entries-length (n + added_count c) a, added_entries-length (n + added_count c + added_count a) b))
added_entries-length n (fby a b) = simp length-append (omega (arith, added_entries-length n a, added_entries-length (suc (suc (suc (n + added_count a)))) b))

-- "an `until` line two streams and two entries"
added_by-length : (c : Constraint)
    → length (added_by c) ≡ 2 * (nexts_in (left_side c) + nexts_in (right_side c)) + 3 * (fbys_in (left_side c) + fbys_in (right_side c)) + 2 * length (untils_of c)
unfolding added_by
added_by-length (always s a b) = simp length-append (omega (arith, added-length a, added-length b))
added_by-length (until a b) = simp length-append (omega (arith, added-length a, added-length b))

entries_by-length : (n : ℕ) (c : Constraint)
    → length (entries_by n c) ≡ 2 * (nexts_in (left_side c) + nexts_in (right_side c)) + 4 * (fbys_in (left_side c) + fbys_in (right_side c)) + 2 * length (untils_of c)
unfolding entries_by
entries_by-length n (always s a b) = simp length-append (omega (arith, added_entries-length n a, added_entries-length (n + added_count a) b))
entries_by-length n (until a b) = simp length-append (omega (arith, added_entries-length n a, added_entries-length (suc (suc (n + added_count a))) b))

all_added-length : (cs : List Constraint) → length (all_added cs) ≡ 2 * over_sides nexts_in cs + 3 * over_sides fbys_in cs + 2 * length (all_untils cs)
unfolding all_added
all_added-length [] = refl
all_added-length (c ∷ cs) = simp length-append (omega (arith, added_by-length c, all_added-length cs))

all_entries-length : (n : ℕ) (cs : List Constraint) → length (all_entries n cs) ≡ 2 * over_sides nexts_in cs + 4 * over_sides fbys_in cs + 2 * length (all_untils cs)
unfolding all_entries
all_entries-length n [] = refl
all_entries-length n (c ∷ cs) = simp length-append (omega (arith, entries_by-length n c, all_entries-length (n + length (added_by c)) cs))

all_rewritten-length : (n : ℕ) (cs : List Constraint) → length (all_rewritten n cs) ≡ length cs
unfolding all_rewritten
all_rewritten-length n [] = refl
all_rewritten-length n (c ∷ cs) = ap suc (all_rewritten-length (n + length (added_by c)) cs)

module _ (s : Sheet) where
  -- "So it has constraints + 2 × nexts + 4 × fbys + 2 × untils entries."
  pub entry-count : length (normal_form s).constraints
      ≡ length s.constraints + 2 * over_sides nexts_in s.constraints + 4 * over_sides fbys_in s.constraints + 2 * length (all_untils s.constraints)
  unfolding normal_form
  entry-count =
      let n = length s.streams in
      simp length-append (omega (arith, all_rewritten-length n s.constraints, all_entries-length n s.constraints))

  -- The added streams: two for each `next`, three for each `fby`, two for each `until`.
  pub stream-count : length (normal_form s).streams
      ≡ length s.streams + 2 * over_sides nexts_in s.constraints + 3 * over_sides fbys_in s.constraints + 2 * length (all_untils s.constraints)
  stream-count = omega (arith, streams-length s, all_added-length s.constraints)
