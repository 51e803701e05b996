-- The computed pairs of nodes are those that a record tells apart, so nodes of which it tells no pair apart are the same.
use mathlib.Core.Path.{◌≡◌, refl, ap, ◌∙◌}
use mathlib.Core.Logic.{◌⊎◌, inl, inr}
use mathlib.Core.Bool.{Bool, true, false, not, ◌||◌}
use mathlib.Core.List.{List}
use Prim.Native.Nat.{ℕ, ◌+◌, ◌*◌, ◌/◌, ◌%◌, ◌<◌}
use native.Mathlib.Nat.{mul-le-mul_right, add-zero, mul-add-div_right, div-eq_of_lt, mul-add-mod_self_right, mod-eq_of_lt}
use native.Mathlib.Omega.{arith}
use lib.Dec.{T, T_not, not_T}
use Rattle.basics.proofs.Tests.{by_contradiction, T-or}
use Rattle.automaton.specs.Graph.{Graph, Member}
use Rattle.automaton.specs.Fixpoints.{Distinguished, swap, by_final, by_edge, by_letter, SameStep, IsPartition}
use Rattle.automaton.specs.Closure.{any_below, contains}
use Rattle.automaton.specs.Construction.{differs, pair, letter_differs, distinguished_rule, distinguished_set}
use Rattle.automaton.proofs.Closure.{any_below↔, closure-closed, closure-sound}

-- numbers of pairs

module _ (n : ℕ) where
  pair-below : (s t : ℕ) → s < n → t < n → s * n + t < n * n
  pair-below s t hs ht = omega (arith, mul-le-mul_right n hs)

  pair-first : (s t : ℕ) → t < n → (s * n + t) / n ≡ s
  pair-first s t h = mul-add-div_right (omega arith) s t ∙ (ap (s +◌) (div-eq_of_lt h) ∙ add-zero s)

  pair-second : (s t : ℕ) → t < n → (s * n + t) % n ≡ t
  pair-second s t h = mul-add-mod_self_right s n t ∙ mod-eq_of_lt h

-- the three ways to differ

data Differs (x y z : Bool) : Type 0 where
  left : T x → T (not y) → Differs x y z
  right : T (not x) → T y → Differs x y z
  after : T x → T y → T z → Differs x y z

differs-test : (x y z : Bool) → Differs x y z → T (differs x y z)
differs-test true true z (left a b) = absurd b
differs-test true true z (right a b) = absurd a
differs-test true true z (after a b c) = c
differs-test true false z d = tt
differs-test false true z d = tt
differs-test false false z (left a b) = absurd a
differs-test false false z (right a b) = absurd b
differs-test false false z (after a b c) = absurd a

differs-cases : (x y z : Bool) → T (differs x y z) → Differs x y z
differs-cases true true z h = after tt tt h
differs-cases true false z h = left tt tt
differs-cases false true z h = right tt tt
differs-cases false false z h = absurd h

module _ (G : Graph) (live final : List Bool) (below : (s : ℕ) → T (contains live s) → s < G.nodes) where
  -- the rule at s and t

  data Rule (set : ℕ → Bool) (s t : ℕ) : Type 0 where
    at_final : Differs (contains final s) (contains final t) false → Rule set s t
    at_letter : (a : ℕ) → a < G.letters
        → Differs (contains live (G.successor s a)) (contains live (G.successor t a)) (set (pair G (G.successor s a) (G.successor t a)))
        → Rule set s t

  final-test : ℕ → ℕ → Bool
  final-test s t = differs (contains final s) (contains final t) false

  letter-test : (ℕ → Bool) → ℕ → ℕ → ℕ → Bool
  letter-test set s t a = letter_differs G live set (G.successor s a) (G.successor t a)

  rule_test : (set : ℕ → Bool) (s t : ℕ) → Rule set s t → T (final-test s t || any_below G.letters (letter-test set s t))
  unfolding final-test letter-test
  rule_test set s t r = (T-or (final-test s t) (any_below G.letters (letter-test set s t))).1 (go r)
    where
      go : Rule set s t → T (final-test s t) ⊎ T (any_below G.letters (letter-test set s t))
      go (at_final d) = inl (differs-test _ _ _ d)
      go (at_letter a ha d) = inr ((any_below↔ G.letters (letter-test set s t)).1 (a, ha, differs-test _ _ _ d))

  rule_cases : (set : ℕ → Bool) (s t : ℕ) → T (final-test s t || any_below G.letters (letter-test set s t)) → Rule set s t
  unfolding final-test letter-test
  rule_cases set s t h = go ((T-or (final-test s t) (any_below G.letters (letter-test set s t))).0 h)
    where
      go : T (final-test s t) ⊎ T (any_below G.letters (letter-test set s t)) → Rule set s t
      go (inl x) = at_final (differs-cases _ _ _ x)
      go (inr x) = let p = (any_below↔ G.letters (letter-test set s t)).0 x in at_letter p.0 p.1 (differs-cases _ _ _ p.2)

  -- the pairs of the closure are those that a record tells apart

  abbrev Live : ℕ → Type 0
  Live s = Member G (contains live) s

  live-node : (s : ℕ) → T (contains live s) → Live s
  live-node s h = record { inside = below s h; holds = h }

  abbrev Apart : ℕ → ℕ → Type 0
  Apart s t = Distinguished G (contains live) (contains final) s t

  -- the closure holds the pair of s and t
  abbrev separated : ℕ → ℕ → Bool
  separated s t = contains (distinguished_set G live final) (pair G s t)

  rule_apart : (set : ℕ → Bool) → ((j : ℕ) → T (set j) → Apart (j / G.nodes) (j % G.nodes)) → (s t : ℕ) → Rule set s t → Apart s t
  rule_apart set all s t (at_final (left x y)) = by_final x y
  rule_apart set all s t (at_final (right x y)) = swap (by_final y x)
  rule_apart set all s t (at_final (after x y z)) = absurd z
  rule_apart set all s t (at_letter a ha (left x y)) =
      by_edge a ha (live-node (G.successor s a) x) λ m. T_not (contains live (G.successor t a)) y m.holds
  rule_apart set all s t (at_letter a ha (right x y)) =
      swap (by_edge a ha (live-node (G.successor t a) y) λ m. T_not (contains live (G.successor s a)) x m.holds)
  rule_apart set all s t (at_letter a ha (after x y z)) =
      let u = G.successor s a in
      let v = G.successor t a in
      let hv = below v y in
      by_letter a ha (live-node u x) (live-node v y) (rw (pair-first G.nodes u v hv, pair-second G.nodes u v hv) at (all (pair G u v) z))

  separated-apart : (s t : ℕ) → t < G.nodes → T (separated s t) → Apart s t
  unfolding final-test letter-test
  separated-apart s t ht h = rw (pair-first G.nodes s t ht, pair-second G.nodes s t ht) at
      (closure-sound (G.nodes * G.nodes) (distinguished_rule G live final) (λ i. Apart (i / G.nodes) (i % G.nodes))
      (λ set all i hi x. rule_apart set all (i / G.nodes) (i % G.nodes) (rule_cases set (i / G.nodes) (i % G.nodes) x)) (pair G s t) h)

  rule_separated : (s t : ℕ) → s < G.nodes → t < G.nodes → Rule (contains (distinguished_set G live final)) s t → T (separated s t)
  unfolding final-test letter-test
  rule_separated s t hs ht r =
      closure-closed (G.nodes * G.nodes) (distinguished_rule G live final) (pair G s t) (pair-below G.nodes s t hs ht)
      (rw (pair-first G.nodes s t ht, pair-second G.nodes s t ht) (rule_test (contains (distinguished_set G live final)) s t r))

  -- in both orders
  apart-separated : {s t : ℕ} → Distinguished G (contains live) (contains final) s t → s < G.nodes → t < G.nodes
      → T (separated s t) × T (separated t s)
  apart-separated (swap d) hs ht = let p = apart-separated d ht hs in (p.1, p.0)
  apart-separated {s} {t} (by_final x y) hs ht = (rule_separated s t hs ht (at_final (left x y)), rule_separated t s ht hs (at_final (right y x)))
  apart-separated {s} {t} (by_edge a ha m n) hs ht =
      let y = not_T (contains live (G.successor t a)) λ h. n (live-node (G.successor t a) h) in
      (rule_separated s t hs ht (at_letter a ha (left m.holds y)), rule_separated t s ht hs (at_letter a ha (right y m.holds)))
  apart-separated {s} {t} (by_letter a ha m n d) hs ht =
      let p = apart-separated d m.inside n.inside in
      let st = rule_separated s t hs ht (at_letter a ha (after m.holds n.holds p.0)) in
      let ts = rule_separated t s ht hs (at_letter a ha (after n.holds m.holds p.1)) in
      (st, ts)

  pub distinguished_partition :
      IsPartition G (contains live) (contains final) (λ s t. T (not (contains (distinguished_set G live final) (pair G s t))))
  distinguished_partition = record { reason = reason; symmetric = symmetric; finals = finals; steps = steps }
    where
      reason : (s t : ℕ) → Live s → Live t → T (not (separated s t)) ⊎ Apart s t
      reason s t ms mt = go (separated s t) refl
        where
          go : (b : Bool) → separated s t ≡ b → T (not (separated s t)) ⊎ Apart s t
          go true e = inr (separated-apart s t mt.inside (rw e tt))
          go false e = inl (rw e tt)

      symmetric : (s t : ℕ) → Live s → Live t → T (not (separated s t)) → T (not (separated t s))
      symmetric s t ms mt h = not_T (separated t s) λ x.
          T_not (separated s t) h (apart-separated (separated-apart t s ms.inside x) mt.inside ms.inside).1

      -- no part of the rule applies to nodes that are the same
      no_rule : (s t : ℕ) → Live s → Live t → T (not (separated s t)) → ¬ Rule (contains (distinguished_set G live final)) s t
      no_rule s t ms mt h r = T_not (separated s t) h (rule_separated s t ms.inside mt.inside r)

      finals : (s t : ℕ) → Live s → Live t → T (not (separated s t)) → T (contains final s) → T (contains final t)
      finals s t ms mt h x = by_contradiction (contains final t) λ n. no_rule s t ms mt h (at_final (left x n))

      steps : (s t a : ℕ) → Live s → Live t → T (not (separated s t)) → a < G.letters
          → SameStep G (contains live) (λ u v. T (not (separated u v))) s t a
      steps s t a ms mt h ha = record {
        to = to;
        from = λ m. live-node u (by_contradiction (contains live u) λ n. no_rule s t ms mt h (at_letter a ha (right n m.holds)));
        step = λ m. not_T (separated u v) λ x. no_rule s t ms mt h (at_letter a ha (after m.holds (to m).holds x));
      }
        where
          u : ℕ
          u = G.successor s a

          v : ℕ
          v = G.successor t a

          to : Live u → Live v
          to m = live-node v (by_contradiction (contains live v) λ n. no_rule s t ms mt h (at_letter a ha (left m.holds n)))
