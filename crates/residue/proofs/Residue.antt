-- The value of a part's residue at the letter is the part's value in the window with the letter, whatever nodes are stored: by induction on the
-- nodes, kind by kind.
use Prim.Native.Nat.{ℕ, zero, suc, ◌+◌, ◌*◌, ◌≤◌, ◌<◌}
use native.Mathlib.Omega.{arith}
use native.Mathlib.Nat.{zero-mul, zero-add, suc-mul, mul-le-mul_right, div-eq_of_eq-mul_left}
use native.Mathlib.Decide.{dec_lt}
use mathlib.Core.Path.{◌≡◌, refl, sym, ◌∙◌, ap, ap₂, fun_ext}
use mathlib.Core.Bool.{Bool, true, false, cond, ◌&&◌}
use mathlib.Core.List.{List, ◌++◌}
use lib.Dec.{ltb, eqb}
use lib.IntN.{ℤ, pos, negsuc}
use lib.ListN.{length, get_or, length-append, get_or-append}
use lib.Seq.{get_or-append-add}
use borrow.Author.Tests.{lt-ltb, le-ltb, ltb-true}
use Rattle.meaning.specs.Value.{nonzero}
use Rattle.nodes.specs.Bounded.{no_value, some_value, bounded}
use Rattle.nodes.specs.Evaluate.{Nodes, has_node, View, places, Kind, integer_node, name_node, first_node, next_node, negation_node, conditional_node, fby_node, operator_node, kind_of, left_end, answer_up_to, lookup, numbered, stream_evaluated, negated_result, chosen_result, operated, value_by_kind, value_step, part_value, node_value}
use Rattle.nodes.specs.declared.Evaluated.{Evaluated}
use Rattle.nodes.proofs.Parts.{left_within, answer-step}
use Rattle.residue.specs.Residue.{Tree, constant_tree, name_tree, negation_tree, operator_tree, conditional_tree, tree_value, Residue, known, varying, tree_of, negated_residue, chosen_residue, is_known, known_value, operated_residue, residue_by_kind, residue_step, residue_before, node_residue, with_letter, number_level, tree_level}

pub chosen_cong : {c c' a a' b b' : Evaluated} → c ≡ c' → a ≡ a' → b ≡ b' → chosen_result c a b ≡ chosen_result c' a' b'
chosen_cong {c} {c'} {a} {a'} {b} {b'} p q r = ap (λ x. chosen_result x a b) p ∙ ap₂ (chosen_result c') q r

-- What a stored number leads to depends on the numbers that there are.
lookup_cong : (n : ℕ) (f g : ℕ → ℤ) (z : ℤ) → ((k : ℕ) → k < n → f k ≡ g k) → lookup n f z ≡ lookup n g z
lookup_cong n f g (pos k) h = by (ltb k n) refl
  where
    by : (b : Bool) → ltb k n ≡ b → cond b (bounded (f k)) no_value ≡ cond b (bounded (g k)) no_value
    by true e = ap bounded (h k (ltb-true k n e))
    by false e = refl
lookup_cong n f g (negsuc k) h = refl

-- ---- the residue of a node

module _ (N : Nodes) (U : View) (last : ℕ) where
  module _ (f g : ℕ → ℕ → Residue) (i : ℕ) (same : (e : ℕ) → e ≤ i → f e ≡ g e) where
    same_at : (e : ℕ) → e ≤ i → (p : ℕ) → f e p ≡ g e p
    same_at e h p = ap (λ u. u p) (same e h)

    residue_by_kind_local : (k : Kind) (p : ℕ) → residue_by_kind N U last k f i p ≡ residue_by_kind N U last k g i p
    residue_by_kind_local integer_node p = refl
    residue_by_kind_local name_node p = refl
    residue_by_kind_local first_node p = ap (λ x. cond U.whole x (known (numbered U.firsts (get_or N.values i (pos 0))))) (same_at i (omega arith) 0)
    residue_by_kind_local next_node p = ap (λ x. cond (ltb p last) x (known no_value)) (same_at i (omega arith) (suc p))
    residue_by_kind_local negation_node p = ap negated_residue (same_at i (omega arith) p)
    residue_by_kind_local conditional_node p =
        let m = left_within N.starts i i (omega arith) in
        ap₂ (λ c a. chosen_residue c a (f i p)) (same_at _ (left_within N.starts i _ m) p) (same_at _ m p) ∙ ap (chosen_residue _ _) (same_at i (omega arith) p)
    residue_by_kind_local fby_node zero = ap (λ x. cond U.whole x (known (some_value (pos 0)))) (same_at _ (left_within N.starts i i (omega arith)) 0)
    residue_by_kind_local fby_node (suc p) = same_at i (omega arith) p
    residue_by_kind_local operator_node p = ap₂ (operated_residue (get_or N.kinds i 0)) (same_at _ (left_within N.starts i i (omega arith)) p) (same_at i (omega arith) p)

  -- The residue of the part of node i.
  pub residue_before-node : (i p : ℕ) → residue_before N U last (suc i) p ≡ residue_by_kind N U last (kind_of (get_or N.kinds i 0)) (residue_before N U last) i p
  unfolding residue_before residue_step
  residue_before-node i p =
      ap (λ u. u p) (answer-step (λ p. known no_value) (residue_step N U last) i (λ f g h. fun_ext (residue_by_kind_local f g i h (kind_of (get_or N.kinds i 0)))))

  pub residue_before-none : (p : ℕ) → residue_before N U last 0 p ≡ known no_value
  unfolding residue_before answer_up_to
  residue_before-none p = refl

-- ---- the values of residues

module _ (streams : ℕ) (letter : List ℤ) where
  abbrev pub value_of_residue : Residue → Evaluated
  value_of_residue r = tree_value streams letter (tree_of r)

  residue_value-known : (x : Evaluated) → value_of_residue (known x) ≡ x
  unfolding tree_value tree_of
  residue_value-known x = refl

  residue_value-name_tree : (z : ℤ) → value_of_residue (varying (name_tree z)) ≡ stream_evaluated letter streams 0 z
  unfolding tree_value tree_of
  residue_value-name_tree z = refl

  residue_value_cond : (b : Bool) (r s : Residue) → value_of_residue (cond b r s) ≡ cond b (value_of_residue r) (value_of_residue s)
  residue_value_cond true r s = refl
  residue_value_cond false r s = refl

  negate_value : (r : Residue) → value_of_residue (negated_residue r) ≡ negated_result (value_of_residue r)
  unfolding tree_value tree_of negated_residue
  negate_value (known x) = refl
  negate_value (varying t) = refl

  operate_value : (k : ℕ) (r s : Residue) → value_of_residue (operated_residue k r s) ≡ operated k (value_of_residue r) (value_of_residue s)
  unfolding tree_value tree_of is_known known_value operated_residue
  operate_value k (known x) (known y) = refl
  operate_value k (known x) (varying b) = refl
  operate_value k (varying a) (known y) = refl
  operate_value k (varying a) (varying b) = refl

  choose-value : (c r s : Residue) → value_of_residue (chosen_residue c r s) ≡ chosen_result (value_of_residue c) (value_of_residue r) (value_of_residue s)
  unfolding tree_value tree_of chosen_residue
  choose-value (known x) r s =
      residue_value_cond x.ok (cond (nonzero x.value) r s) (known no_value) ∙ ap (λ y. cond x.ok y no_value) (residue_value_cond (nonzero x.value) r s)
  choose-value (varying c) r s = refl

-- ---- the law

-- The window has `last` letters, and the letter has a value for each stream.
pub record Awaits (U : View) (last : ℕ) (letter : List ℤ) : Type 0 where
  pub some_stream : 0 < U.streams
  pub window_long : length U.window ≡ last * U.streams
  pub letter_long : length letter ≡ U.streams

module _ (N : Nodes) (U : View) (last : ℕ) (letter : List ℤ) (awaits : Awaits U last letter) where
  abbrev W : View
  W = with_letter U letter

  abbrev R : Residue → Evaluated
  R r = value_of_residue U.streams letter r

  pub letter_places : places W ≡ suc last
  letter_places =
      let s = suc-mul last U.streams in
      let a = length-append U.window letter in
      div-eq_of_eq-mul_left awaits.some_stream (omega (arith, awaits.window_long, awaits.letter_long))

  -- A name at a place before the letter's, and at the letter's.
  older_name : (p : ℕ) (z : ℤ) → p < last → stream_evaluated W.window U.streams p z ≡ stream_evaluated U.window U.streams p z
  older_name p z h =
      lookup_cong U.streams _ _ z λ k b.
      let s = suc-mul p U.streams in
      let m = mul-le-mul_right U.streams h in
      get_or-append U.window letter (pos 0) (p * U.streams + k) (omega (arith, awaits.window_long))

  newest_name : (z : ℤ) → stream_evaluated W.window U.streams last z ≡ stream_evaluated letter U.streams 0 z
  newest_name z =
      lookup_cong U.streams _ _ z λ k b.
      ap (λ j. get_or (U.window ++ letter) (j + k) (pos 0)) (sym awaits.window_long)
      ∙ get_or-append-add U.window letter k (pos 0)
      ∙ ap (λ j. get_or letter j (pos 0)) (sym (ap (λ j. j + k) (zero-mul U.streams) ∙ zero-add k))

  module _ (f : ℕ → ℕ → Evaluated) (g : ℕ → ℕ → Residue) (same : (e p : ℕ) → p ≤ last → f e p ≡ R (g e p)) (i : ℕ) where
    by_kind : (k : Kind) (p : ℕ) → p ≤ last → value_by_kind N W k f i p ≡ R (residue_by_kind N U last k g i p)
    by_kind integer_node p h = sym (residue_value-known U.streams letter _)
    by_kind name_node p h = go (dec_lt p last)
      where
        go : Dec (p < last) → stream_evaluated W.window U.streams p (get_or N.values i (pos 0)) ≡ R (residue_by_kind N U last name_node g i p)
        go (yes b) = simp (lt-ltb p last b) (older_name p (get_or N.values i (pos 0)) b ∙ sym (residue_value-known U.streams letter _))
        go (no b) =
            let e : p ≡ last = omega arith in
            simp (le-ltb p last (omega arith))
            (ap (λ q. stream_evaluated W.window U.streams q (get_or N.values i (pos 0))) e ∙ newest_name (get_or N.values i (pos 0)) ∙ sym (residue_value-name_tree U.streams letter _))
    by_kind first_node p h =
        ap (λ x. cond U.whole x (numbered U.firsts (get_or N.values i (pos 0)))) (same i 0 (omega arith))
        ∙ ap (cond U.whole (R (g i 0))) (sym (residue_value-known U.streams letter _))
        ∙ sym (residue_value_cond U.streams letter U.whole (g i 0) _)
    by_kind next_node p h = go (dec_lt p last)
      where
        go : Dec (p < last) → cond (ltb (suc p) (places W)) (f i (suc p)) no_value ≡ R (residue_by_kind N U last next_node g i p)
        go (yes b) = simp (lt-ltb (suc p) (places W) (omega (arith, letter_places)), lt-ltb p last b) (same i (suc p) b)
        go (no b) =
            simp (le-ltb (suc p) (places W) (omega (arith, letter_places)), le-ltb p last (omega arith)) (sym (residue_value-known U.streams letter no_value))
    by_kind negation_node p h = ap negated_result (same i p h) ∙ sym (negate_value U.streams letter (g i p))
    by_kind conditional_node p h =
        let m = left_end N.starts i in
        let l = left_end N.starts m in
        chosen_cong (same l p h) (same m p h) (same i p h) ∙ sym (choose-value U.streams letter (g l p) (g m p) (g i p))
    by_kind fby_node zero h =
        let l = left_end N.starts i in
        ap (λ x. cond U.whole x (some_value (pos 0))) (same l 0 h)
        ∙ ap (cond U.whole (R (g l 0))) (sym (residue_value-known U.streams letter _))
        ∙ sym (residue_value_cond U.streams letter U.whole (g l 0) _)
    by_kind fby_node (suc p) h = same i p (omega arith)
    by_kind operator_node p h =
        let l = left_end N.starts i in
        ap₂ (operated (get_or N.kinds i 0)) (same l p h) (same i p h) ∙ sym (operate_value U.streams letter (get_or N.kinds i 0) (g l p) (g i p))

  up_to : (n e p : ℕ) → p ≤ last → answer_up_to (λ p. no_value) (value_step N W) n e p ≡ R (answer_up_to (λ p. known no_value) (residue_step N U last) n e p)
  unfolding answer_up_to value_step residue_step
  up_to zero e p h = sym (residue_value-known U.streams letter no_value)
  up_to (suc n) e p h = by (eqb e (suc n)) (up_to n)
    where
      by : (b : Bool)
          → ((e p : ℕ) → p ≤ last → answer_up_to (λ p. no_value) (value_step N W) n e p ≡ R (answer_up_to (λ p. known no_value) (residue_step N U last) n e p))
          → cond b (value_step N W (answer_up_to (λ p. no_value) (value_step N W) n) n) (answer_up_to (λ p. no_value) (value_step N W) n e) p
          ≡ R (cond b (residue_step N U last (answer_up_to (λ p. known no_value) (residue_step N U last) n) n) (answer_up_to (λ p. known no_value) (residue_step N U last) n e) p)
      by true r = by_kind _ _ r n (kind_of (get_or N.kinds n 0)) p h
      by false r = r e p h

  -- The law: at every place of the window.
  pub residue_value : (e p : ℕ) → p ≤ last → part_value N W e p ≡ R (residue_before N U last e p)
  unfolding part_value residue_before
  residue_value e p h = up_to e e p h

  -- The same of the node itself.
  pub node_residue_value : (root p : ℕ) → p ≤ last → node_value N W root p ≡ R (node_residue N U last root p)
  unfolding node_value node_residue
  node_residue_value root p h =
      simp (lt-ltb p (places W) (omega (arith, letter_places))) (by (has_node N root))
    where
      by : (b : Bool) → cond (b && true) (part_value N W (suc root) p) no_value ≡ R (cond b (residue_before N U last (suc root) p) (known no_value))
      by true = residue_value (suc root) p h
      by false = sym (residue_value-known U.streams letter no_value)

-- ---- the streams that a tree reads

-- Two letters that agree on the streams below n give a tree that reads only those the same value.
module _ (streams n : ℕ) (l m : List ℤ) (same : (k : ℕ) → k < n → get_or l k (pos 0) ≡ get_or m k (pos 0)) where
  name_tree_agree : (z : ℤ) → number_level z ≤ n → stream_evaluated l streams 0 z ≡ stream_evaluated m streams 0 z
  name_tree_agree (pos k) h = ap (λ x. cond (ltb k streams) (bounded x) no_value) (ap (λ j. get_or l j (pos 0)) e ∙ same k h ∙ sym (ap (λ j. get_or m j (pos 0)) e))
    where
      e : 0 * streams + k ≡ k
      e = ap (λ j. j + k) (zero-mul streams) ∙ zero-add k
  name_tree_agree (negsuc k) h = refl

  pub tree_agree : (t : Tree) → tree_level t ≤ n → tree_value streams l t ≡ tree_value streams m t
  unfolding tree_value tree_level
  tree_agree (constant_tree x) h = refl
  tree_agree (name_tree z) h = name_tree_agree z h
  tree_agree (negation_tree t) h = ap negated_result (tree_agree t h)
  tree_agree (operator_tree k a b) h = ap₂ (operated k) (tree_agree a (omega arith)) (tree_agree b (omega arith))
  tree_agree (conditional_tree c a b) h = chosen_cong (tree_agree c (omega arith)) (tree_agree a (omega arith)) (tree_agree b (omega arith))
