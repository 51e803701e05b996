-- What is counted of constraint lines that are read one after the other, and how much they are at most. From the state after all constraints.
use Prim.Native.Nat.{ℕ, suc, ◌+◌, ◌≤◌}
use mathlib.Core.Path.{◌≡◌, refl, sym, ap, subst, ◌∙◌}
use mathlib.Core.Bool.{Bool, true, false, cond, ◌||◌}
use mathlib.Core.List.{List, [], ◌∷◌, ◌++◌, map}
use mathlib.Core.Option.{some, some-injective}
use native.Mathlib.Omega.{arith}
use lib.Dec.{eqb}
use lib.ListN.{length, length-append}
use Rattle.text.specs.Bytes.{tokens}
use Rattle.meaning.specs.Value.{less, at_most, equal, at_least, greater, different}
use Rattle.meaning.specs.Expression.{Sign, comparison, implies, Constraint, always, until, left_side, right_side}
use Rattle.meaning.specs.Interval.{subexpressions}
use Rattle.meaning.specs.Window.{side_firsts, all_firsts, untils_of, all_untils}
use Rattle.nodes.specs.Code.{sign_code, relation_code}
use Rattle.nodes.specs.Postfix.{side_nodes, all_nodes}
use Rattle.sheet.specs.Refusal.{token_count}
use Rattle.sheet.specs.Parser.{parse_constraint}
use Rattle.sheet.specs.Reading.{any_of, is_integer_beyond, all_expressions, constraints_of}
use Rattle.sheet.proofs.Parser.{and_then-some}
use Rattle.parse.specs.Bounded.{bounded_constraint, constraint_beyond}
use Rattle.parse.proofs.Outcome.{constraint-few}
use Rattle.parse.proofs.Trees.{any_of-append}
use Rattle.reader.specs.Constraints.{State, counts, with_constraint}
use Rattle.reader.specs.declared.ConstraintsRead.{ConstraintsRead}
use Rattle.reader.proofs.Stored.{with_all}

sign_no_until : (s : Sign) → ◌≡◌ {A = ℕ} (cond (eqb (sign_code s) 7) 1 0) 0
sign_no_until (comparison less) = refl
sign_no_until (comparison at_most) = refl
sign_no_until (comparison equal) = refl
sign_no_until (comparison at_least) = refl
sign_no_until (comparison greater) = refl
sign_no_until (comparison different) = refl
sign_no_until implies = refl

until-one : (c : Constraint) → cond (eqb (relation_code c) 7) 1 0 ≡ length (untils_of c)
until-one (always s a b) = sign_no_until s
until-one (until a b) = refl

or_assoc : (a b c : Bool) → (a || b) || c ≡ a || (b || c)
or_assoc true b c = refl
or_assoc false b c = refl

or_none : (a : Bool) → a || false ≡ a
or_none true = refl
or_none false = refl

-- What is counted after these constraints, from what was counted before them.
abbrev pub counts_after : ConstraintsRead → List Constraint → ConstraintsRead
counts_after k cs =
    let bs = map bounded_constraint cs in
    counts
    (k.count + length cs)
    (k.nodes + length (all_nodes k.nodes k.firsts bs))
    (k.firsts + length (all_firsts bs))
    (k.untils + length (all_untils bs))
    (k.beyond || any_of is_integer_beyond (all_expressions cs))

pub with_all_counts : (s : State) (cs : List Constraint) → s.counts.ok ≡ true → (with_all s cs).counts ≡ counts_after s.counts cs
unfolding with_all with_constraint all_nodes
with_all_counts s [] e = λ i.
    record {
      ok = e i;
      count = (let z : s.counts.count ≡ s.counts.count + 0 = omega arith in z) i;
      nodes = (let z : s.counts.nodes ≡ s.counts.nodes + 0 = omega arith in z) i;
      firsts = (let z : s.counts.firsts ≡ s.counts.firsts + 0 = omega arith in z) i;
      untils = (let z : s.counts.untils ≡ s.counts.untils + 0 = omega arith in z) i;
      beyond = sym (or_none s.counts.beyond) i;
    }
with_all_counts s (c ∷ cs) e =
    let k = s.counts in
    let b = bounded_constraint c in
    let bs = map bounded_constraint cs in
    let l = side_nodes k.nodes k.firsts b in
    let more = all_nodes (k.nodes + length l) (k.firsts + length (side_firsts b)) bs in
    let u = until-one b in
    let nodes : k.nodes + length l + length more ≡ k.nodes + length (l ++ more) = omega (arith, length-append l more) in
    let firsts : k.firsts + length (side_firsts b) + length (all_firsts bs) ≡ k.firsts + length (side_firsts b ++ all_firsts bs) = omega (arith, length-append (side_firsts b) (all_firsts bs)) in
    let untils : k.untils + cond (eqb (relation_code b) 7) 1 0 + length (all_untils bs) ≡ k.untils + length (untils_of b ++ all_untils bs) = omega (arith, length-append (untils_of b) (all_untils bs)) in
    let count : k.count + 1 + length cs ≡ k.count + suc (length cs) = omega arith in
    let beyond : (k.beyond || constraint_beyond c) || any_of is_integer_beyond (all_expressions cs) ≡ k.beyond || any_of is_integer_beyond (all_expressions (c ∷ cs)) =
    or_assoc k.beyond (constraint_beyond c) (any_of is_integer_beyond (all_expressions cs))
    ∙ ap (λ t. k.beyond || t) (sym (any_of-append is_integer_beyond (subexpressions (left_side c) ++ subexpressions (right_side c)) (all_expressions cs))) in
    with_all_counts (with_constraint s c) cs refl ∙ (λ i. counts (count i) (nodes i) (firsts i) (untils i) (beyond i))

-- ---- how much the lines give at most

pub record FewConstraints (ls : List (List ℕ)) (n f : ℕ) (cs : List Constraint) : Type 0 where
  pub count : length cs ≡ length ls
  pub nodes : length (all_nodes n f (map bounded_constraint cs)) ≤ token_count ls

pub constraints-few : (names : List ℕ) (ls : List (List ℕ)) (n f : ℕ) {cs : List Constraint} → constraints_of (tokens names) ls ≡ some cs → FewConstraints ls n f cs
unfolding constraints_of all_nodes
constraints-few names [] n f {cs} e = subst (FewConstraints [] n f) (some-injective [] cs e) (record { count = refl; nodes = omega arith })
constraints-few names (l ∷ ls) n f {cs} e =
    let (c, read, rest) = and_then-some (parse_constraint (tokens names) (tokens l)) _ e in
    let (ds, others, done) = and_then-some (constraints_of (tokens names) ls) _ rest in
    let k = side_nodes n f (bounded_constraint c) in
    let m = n + length k in
    let g = f + length (side_firsts (bounded_constraint c)) in
    let few = constraint-few names l n f read in
    let more = constraints-few names ls m g others in
    let a = few.nodes in
    let b = more.nodes in
    let z = length-append k (all_nodes m g (map bounded_constraint ds)) in
    subst (FewConstraints (l ∷ ls) n f) (some-injective (c ∷ ds) cs done) (record { count = ap suc more.count; nodes = omega arith })
