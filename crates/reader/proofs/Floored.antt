-- What is stored of the constraints of a sheet of release 2: what was read of its lines, with other kinds of nodes (document 02, S-11). From the laws of
-- stored nodes (nodes Floored), since integers beyond the bound, firsts, untils and places are the same in both releases.
use Prim.Native.Nat.{ℕ, zero, suc, ◌-◌, ◌≤◌}
use native.Mathlib.Omega.{arith}
use mathlib.Core.Path.{◌≡◌, refl, sym, ap, ap₂, ◌∙◌}
use mathlib.Core.Bool.{Bool, true, false, ◌||◌}
use mathlib.Core.List.{List, [], ◌∷◌, ◌++◌, map, map-append}
use lib.IntN.{pos}
use lib.ListN.{length, get_or, set, replicate, length-map, length-append, length-replicate}
use Rattle.meaning.specs.Expression.{Expression, integer, name, first, next, negation, binary, conditional, fby, Constraint, always, until}
use Rattle.meaning.specs.Window.{all_firsts, all_untils}
use Rattle.sheet.specs.Release.{floored_operator, floored, floored_constraint, meant_constraints}
use Rattle.sheet.specs.Reading.{any_of, is_integer_beyond, all_expressions}
use Rattle.sheet.proofs.Release.{floored_expressions}
use Rattle.nodes.specs.Code.{floored_kind, meant_kinds}
use Rattle.nodes.specs.Evaluate.{stored}
use Rattle.nodes.specs.Postfix.{all_nodes, stored_constraints, kinds_of, values_of, starts_of}
use Rattle.nodes.proofs.Floored.{floored-first-count, floored-until-count, floored-kinds, floored-values, floored-starts, floored-node-count, floored-stored_constraints}
use Rattle.parse.specs.Bounded.{bounded_expression, bounded_constraint}
use Rattle.reader.specs.Constraints.{State, state, counts}
use Rattle.header.specs.Streams.{padded}
use Rattle.reader.specs.Stored.{relations_of, lefts_of, rights_of}
use Rattle.reader.specs.Held.{constraint_tables}

-- ---- the loop over the kinds

-- The first k numbers as floored_kind makes them, and the others as they were.
unfoldable pub floored_up_to : ℕ → List ℕ → List ℕ
floored_up_to zero l = l
floored_up_to (suc k) [] = []
floored_up_to (suc k) (x ∷ l) = floored_kind x ∷ floored_up_to k l

pub up_to-none : (l : List ℕ) → l ≡ floored_up_to 0 l
unfolding floored_up_to
up_to-none l = refl

pub up_to-more : (k : ℕ) (l : List ℕ) → set (floored_up_to k l) k (floored_kind (get_or (floored_up_to k l) k 0)) ≡ floored_up_to (suc k) l
unfolding floored_up_to
up_to-more zero [] = refl
up_to-more (suc k) [] = refl
up_to-more zero (x ∷ l) = refl
up_to-more (suc k) (x ∷ l) = ap (λ m. floored_kind x ∷ m) (up_to-more k l)

pub up_to-all : (k : ℕ) (l : List ℕ) → length l ≤ k → floored_up_to k l ≡ map floored_kind l
unfolding floored_up_to
up_to-all zero [] h = refl
up_to-all zero (x ∷ l) h = absurd (omega arith)
up_to-all (suc k) [] h = refl
up_to-all (suc k) (x ∷ l) h = ap (λ m. floored_kind x ∷ m) (up_to-all k l (omega arith))

-- ---- integers beyond the bound

bounded-floored : (e : Expression) → bounded_expression (floored e) ≡ floored (bounded_expression e)
unfolding bounded_expression
bounded-floored (integer z) = refl
bounded-floored (name k) = refl
bounded-floored (first e) = ap first (bounded-floored e)
bounded-floored (next e) = ap next (bounded-floored e)
bounded-floored (negation e) = ap negation (bounded-floored e)
bounded-floored (binary o a b) = ap₂ (binary (floored_operator o)) (bounded-floored a) (bounded-floored b)
bounded-floored (conditional c a b) = λ i. conditional (bounded-floored c i) (bounded-floored a i) (bounded-floored b i)
bounded-floored (fby a b) = ap₂ fby (bounded-floored a) (bounded-floored b)

constraint-floored : (c : Constraint) → bounded_constraint (floored_constraint c) ≡ floored_constraint (bounded_constraint c)
constraint-floored (always s a b) = ap₂ (always s) (bounded-floored a) (bounded-floored b)
constraint-floored (until a b) = ap₂ until (bounded-floored a) (bounded-floored b)

constraints-floored : (cs : List Constraint) → map bounded_constraint (map floored_constraint cs) ≡ map floored_constraint (map bounded_constraint cs)
constraints-floored [] = refl
constraints-floored (c ∷ cs) = ap₂ ◌∷◌ (constraint-floored c) (constraints-floored cs)

beyond-floored : (e : Expression) → is_integer_beyond (floored e) ≡ is_integer_beyond e
beyond-floored (integer z) = refl
beyond-floored (name k) = refl
beyond-floored (first e) = refl
beyond-floored (next e) = refl
beyond-floored (negation e) = refl
beyond-floored (binary o a b) = refl
beyond-floored (conditional c a b) = refl
beyond-floored (fby a b) = refl

any_beyond : (es : List Expression) → any_of is_integer_beyond (map floored es) ≡ any_of is_integer_beyond es
any_beyond [] = refl
any_beyond (e ∷ es) = ap₂ ◌||◌ (beyond-floored e) (any_beyond es)

-- ---- what is stored

replicate-floored : (n : ℕ) → map floored_kind (replicate n 0) ≡ replicate n 0
replicate-floored zero = refl
replicate-floored (suc n) = ap (λ l. 0 ∷ l) (replicate-floored n)

padded-floored : (n : ℕ) (l : List ℕ) → map floored_kind (padded n 0 l) ≡ padded n 0 (map floored_kind l)
padded-floored n l =
    map-append floored_kind l (replicate (n - length l) 0)
    ∙ ap (λ m. map floored_kind l ++ m) (replicate-floored (n - length l) ∙ ap (λ k. replicate (n - k) 0) (sym (length-map l floored_kind)))

-- The tables and counts with other kinds of nodes.
abbrev pub with_node_kinds : List ℕ → State → State
with_node_kinds ks s = state (stored ks s.nodes.values s.nodes.starts) s.relations s.lefts s.rights s.counts

pub restated_tables : (floors : Bool) (cs : List Constraint) → with_node_kinds (meant_kinds floors (constraint_tables cs).nodes.kinds) (constraint_tables cs) ≡ constraint_tables (meant_constraints floors cs)
unfolding constraint_tables
restated_tables false cs = refl
restated_tables true cs =
    let bounded = map bounded_constraint cs in
    let e = constraints-floored cs in
    let kinds = padded-floored 1024 (kinds_of (all_nodes 0 0 bounded)) ∙ ap (padded 1024 0) (sym (ap (λ b. kinds_of (all_nodes 0 0 b)) e ∙ floored-kinds bounded)) in
    let values = ap (padded 1024 (pos 0)) (sym (ap (λ b. values_of (all_nodes 0 0 b)) e ∙ floored-values bounded)) in
    let starts = ap (padded 1024 0) (sym (ap (λ b. starts_of (all_nodes 0 0 b)) e ∙ floored-starts bounded)) in
    let rows = sym (ap (stored_constraints 0 0) e ∙ floored-stored_constraints 0 0 bounded) in
    let count = sym (length-map cs floored_constraint) in
    let total = sym (ap (λ b. length (all_nodes 0 0 b)) e ∙ floored-node-count bounded) in
    let firsts = sym (ap (λ b. length (all_firsts b)) e ∙ floored-first-count bounded) in
    let untils = sym (ap (λ b. length (all_untils b)) e ∙ floored-until-count bounded) in
    let beyond = sym (ap (any_of is_integer_beyond) (floored_expressions cs) ∙ any_beyond (all_expressions cs)) in
    λ i. state (stored (kinds i) (values i) (starts i)) (padded 32 0 (relations_of (rows i))) (padded 32 0 (lefts_of (rows i))) (padded 32 0 (rights_of (rows i))) (counts (count i) (total i) (firsts i) (untils i) (beyond i))

-- The kinds that are stored fill their room.
pub kinds-room : (cs : List Constraint) → length (all_nodes 0 0 (map bounded_constraint cs)) ≤ 1024 → length (constraint_tables cs).nodes.kinds ≤ 1024
unfolding constraint_tables
kinds-room cs h =
    let l = kinds_of (all_nodes 0 0 (map bounded_constraint cs)) in
    omega (arith, length-append l (replicate (1024 - length l) 0), length-replicate {A = ℕ} (1024 - length l) 0, length-map (all_nodes 0 0 (map bounded_constraint cs)) (λ x. x.kind))

pub meant-nodes : (floors : Bool) (cs : List Constraint) → length (all_nodes 0 0 (map bounded_constraint (meant_constraints floors cs))) ≡ length (all_nodes 0 0 (map bounded_constraint cs))
meant-nodes true cs = ap (λ b. length (all_nodes 0 0 b)) (constraints-floored cs) ∙ floored-node-count (map bounded_constraint cs)
meant-nodes false cs = refl
