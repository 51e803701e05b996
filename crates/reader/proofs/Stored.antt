-- What the lines give when they are read one after the other is what the form's definition gives: the constraints' nodes, stored constraints and
-- counts.
use Prim.Native.Nat.{ℕ, suc, ◌+◌}
use mathlib.Core.Path.{◌≡◌, refl, sym, ap₂, ◌∙◌}
use mathlib.Core.List.{List, [], ◌∷◌, map}
use mathlib.Core.Option.{Option, some, none}
use native.Mathlib.Omega.{arith}
use lib.ListN.{length, set}
use lib.Seq.{sets}
use Rattle.text.specs.Bytes.{Token, tokens}
use Rattle.meaning.specs.Expression.{Constraint}
use Rattle.meaning.specs.Window.{side_firsts}
use Rattle.nodes.specs.Postfix.{side_nodes, all_nodes, StoredConstraint, stored_constraint, stored_constraints}
use Rattle.sheet.specs.Parser.{and_then, parse_constraint}
use Rattle.sheet.specs.Reading.{constraints_of}
use Rattle.parse.specs.Stored.{store}
use Rattle.parse.specs.Bounded.{bounded_constraint}
use Rattle.parse.proofs.Store.{store-append}
use Rattle.reader.specs.Constraints.{State, with_constraint, read_all}

-- The state after these constraints.
unfoldable pub with_all : State → List Constraint → State
with_all s [] = s
with_all s (c ∷ cs) = with_all (with_constraint s c) cs

then_same : {X Y Z : Type 0} (o : Option X) (f : X → Option Y) (g : Y → Option Z) → and_then (and_then o f) g ≡ and_then o (λ x. and_then (f x) g)
then_same none f g = refl
then_same (some x) f g = refl

-- The lines are read exactly where they have the form of constraints, and what is stored is theirs.
pub read_all-constraints : (names : List Token) (s : State) (ls : List (List ℕ)) → read_all names s ls ≡ and_then (constraints_of names ls) (λ cs. some (with_all s cs))
unfolding read_all constraints_of with_all
read_all-constraints names s [] = refl
read_all-constraints names s (l ∷ ls) = by (parse_constraint names (tokens l)) (λ c. read_all-constraints names (with_constraint s c) ls)
  where
    by : (o : Option Constraint) → ((c : Constraint) → read_all names (with_constraint s c) ls ≡ and_then (constraints_of names ls) (λ cs. some (with_all (with_constraint s c) cs)))
        → and_then o (λ c. read_all names (with_constraint s c) ls) ≡ and_then (and_then o (λ c. and_then (constraints_of names ls) (λ cs. some (c ∷ cs)))) (λ cs. some (with_all s cs))
    by none h = refl
    by (some c) h = h c ∙ sym (then_same (constraints_of names ls) (λ cs. some (c ∷ cs)) (λ cs. some (with_all s cs)))

-- ---- the nodes after all constraints

pub with_all_nodes : (s : State) (cs : List Constraint)
    → (with_all s cs).nodes ≡ store s.nodes s.counts.nodes (all_nodes s.counts.nodes s.counts.firsts (map bounded_constraint cs))
unfolding with_all with_constraint all_nodes store
with_all_nodes s [] = refl
with_all_nodes s (c ∷ cs) =
    let n = s.counts.nodes in
    let f = s.counts.firsts in
    let l = side_nodes n f (bounded_constraint c) in
    with_all_nodes (with_constraint s c) cs
    ∙ store-append s.nodes n l (all_nodes (n + length l) (f + length (side_firsts (bounded_constraint c))) (map bounded_constraint cs))

-- ---- the relations and the places of the sides after all constraints

-- What a constraint is stored as after a state.
abbrev pub stored_after : State → Constraint → StoredConstraint
stored_after s c = stored_constraint s.counts.nodes s.counts.firsts (bounded_constraint c)

abbrev pub all_stored_after : State → List Constraint → List StoredConstraint
all_stored_after s cs = stored_constraints s.counts.nodes s.counts.firsts (map bounded_constraint cs)

-- One table, to which each constraint adds a part of what it is stored as.
module _ (table : State → List ℕ) (part : StoredConstraint → ℕ) (one : (s : State) (c : Constraint) → table (with_constraint s c) ≡ set (table s) s.counts.count (part (stored_after s c))) where
  table-all : (s : State) (cs : List Constraint) → table (with_all s cs) ≡ sets (table s) s.counts.count (map part (all_stored_after s cs))
  unfolding with_all with_constraint stored_constraints
  table-all s [] = refl
  table-all s (c ∷ cs) =
      let next : s.counts.count + 1 ≡ suc s.counts.count = omega arith in
      let more = map part (all_stored_after (with_constraint s c) cs) in
      table-all (with_constraint s c) cs ∙ ap₂ (λ l k. sets l k more) (one s c) next

pub with_all_relations : (s : State) (cs : List Constraint) → (with_all s cs).relations ≡ sets s.relations s.counts.count (map (λ t. t.relation) (all_stored_after s cs))
unfolding with_constraint
with_all_relations s cs = table-all (λ x. x.relations) (λ t. t.relation) (λ x c. refl) s cs

pub with_all_lefts : (s : State) (cs : List Constraint) → (with_all s cs).lefts ≡ sets s.lefts s.counts.count (map (λ t. t.left) (all_stored_after s cs))
unfolding with_constraint
with_all_lefts s cs = table-all (λ x. x.lefts) (λ t. t.left) (λ x c. refl) s cs

pub with_all_rights : (s : State) (cs : List Constraint) → (with_all s cs).rights ≡ sets s.rights s.counts.count (map (λ t. t.right) (all_stored_after s cs))
unfolding with_constraint
with_all_rights s cs = table-all (λ x. x.rights) (λ t. t.right) (λ x c. refl) s cs
