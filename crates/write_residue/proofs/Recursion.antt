-- The residue of the part that ends at e, from its last node and the residues of the parts before: what each arm of the recursion writes.
use Prim.Native.Nat.{ℕ, zero, suc, ◌+◌, ◌-◌, ◌≤◌, ◌<◌}
use native.Mathlib.Omega.{arith}
use native.Mathlib.Numerals.{add-one}
use mathlib.Core.Path.{◌≡◌, refl, sym, ◌∙◌, ap}
use mathlib.Core.Bool.{true, false, not}
use mathlib.Core.List.{List}
use lib.IntN.{pos}
use lib.ListN.{length, get_or}
use borrow.Author.Tests.{lt-ltb, le-ltb}
use Rattle.meaning.specs.Value.{nonzero}
use Rattle.nodes.specs.Bounded.{no_value, some_value, bounded}
use Rattle.nodes.specs.Evaluate.{Nodes, View, Kind, operator_node, kind_of, left_end, numbered, stream_evaluated, places, value_by_kind, part_value, node_value}
use Rattle.nodes.proofs.Parts.{kind_of-operator}
use Rattle.nodes.proofs.ByKind.{part-by-kind}
use Rattle.nodes.proofs.Evaluate.{value_before-node}
use Rattle.arithmetic.proofs.Coded.{Decodes, decodes_none, decodes_bit, decodes_cond}
use Rattle.evaluate.proofs.Recursion.{HasArrays, root_value}
use Rattle.residue.specs.Residue.{Residue, known, varying, name_tree, known_value, negated_residue, chosen_residue, operated_residue, residue_by_kind, followed_residue, residue_before, node_residue}
use Rattle.residue.proofs.Residue.{residue_before-node, residue_before-none}
use Rattle.write_residue.specs.Wrote.{negated_times, PassesNegations}

module _ (N : Nodes) (U : View) (last p : ℕ) where
  abbrev before : ℕ → ℕ → Residue
  before = residue_before N U last

  pub none_arm : {e : ℕ} → e ≡ 0 → known no_value ≡ before e p
  none_arm {e} z = sym (ap (λ d. before d p) z ∙ residue_before-none N U last p)

  module _ (e : ℕ) (h : e ≡ 0 → ⊥) where
    by_kind : (k : Kind) → kind_of (get_or N.kinds (e - 1) 0) ≡ k → residue_by_kind N U last k before (e - 1) p ≡ before e p
    by_kind k q = part-by-kind N.kinds (λ d. before d p) (λ j i. residue_by_kind N U last j before i p) (λ i. residue_before-node N U last i p) e h k q

    by_number : (k : ℕ) → get_or N.kinds (e - 1) 0 ≡ k → residue_by_kind N U last (kind_of k) before (e - 1) p ≡ before e p
    by_number k q = by_kind (kind_of k) (ap kind_of q)

    pub integer_arm : get_or N.kinds (e - 1) 0 ≡ 0 → known (bounded (get_or N.values (e - 1) (pos 0))) ≡ before e p
    integer_arm q = by_number 0 q

    pub older_arm : get_or N.kinds (e - 1) 0 ≡ 1 → p < last → known (stream_evaluated U.window U.streams p (get_or N.values (e - 1) (pos 0))) ≡ before e p
    older_arm q l = sym (simp (lt-ltb p last l)) ∙ by_number 1 q

    pub newest_arm : get_or N.kinds (e - 1) 0 ≡ 1 → last ≤ p → varying (name_tree (get_or N.values (e - 1) (pos 0))) ≡ before e p
    newest_arm q l = sym (simp (le-ltb p last l)) ∙ by_number 1 q

    pub first_arm : get_or N.kinds (e - 1) 0 ≡ 2 → U.whole ≡ true → before (e - 1) 0 ≡ before e p
    first_arm q w = sym (simp w) ∙ by_number 2 q

    pub stored_arm : get_or N.kinds (e - 1) 0 ≡ 2 → U.whole ≡ false → known (numbered U.firsts (get_or N.values (e - 1) (pos 0))) ≡ before e p
    stored_arm q w = sym (simp w) ∙ by_number 2 q

    pub next_arm : get_or N.kinds (e - 1) 0 ≡ 3 → p < last → before (e - 1) (p + 1) ≡ before e p
    next_arm q l = ap (before (e - 1)) (add-one p) ∙ sym (simp (lt-ltb p last l)) ∙ by_number 3 q

    pub next-none_arm : get_or N.kinds (e - 1) 0 ≡ 3 → last ≤ p → known no_value ≡ before e p
    next-none_arm q l = sym (simp (le-ltb p last l)) ∙ by_number 3 q

    pub negation_arm : get_or N.kinds (e - 1) 0 ≡ 4 → negated_residue (before (e - 1) p) ≡ before e p
    negation_arm q = by_number 4 q

    pub conditional_arm : get_or N.kinds (e - 1) 0 ≡ 5 → {m l : ℕ} → m ≡ left_end N.starts (e - 1) → l ≡ left_end N.starts m
        → chosen_residue (before l p) (before m p) (before (e - 1) p) ≡ before e p
    conditional_arm q {m} em el =
        ap (λ d. chosen_residue (before d p) (before m p) (before (e - 1) p)) (el ∙ ap (left_end N.starts) em)
        ∙ ap (λ d. chosen_residue (before (left_end N.starts (left_end N.starts (e - 1))) p) (before d p) (before (e - 1) p)) em
        ∙ by_number 5 q

    module _ (q : get_or N.kinds (e - 1) 0 ≡ 6) where
      pub fby-left_arm : p ≡ 0 → U.whole ≡ true → {l : ℕ} → l ≡ left_end N.starts (e - 1) → before l 0 ≡ before e p
      fby-left_arm z w el =
          ap (λ d. before d 0) el ∙ sym (ap (followed_residue N U last before (left_end N.starts (e - 1)) (e - 1)) z ∙ simp w) ∙ by_number 6 q

      pub fby-window_arm : p ≡ 0 → U.whole ≡ false → known (some_value (pos 0)) ≡ before e p
      fby-window_arm z w = sym (ap (followed_residue N U last before (left_end N.starts (e - 1)) (e - 1)) z ∙ simp w) ∙ by_number 6 q

      pub fby-right_arm : (p ≡ 0 → ⊥) → before (e - 1) (p - 1) ≡ before e p
      fby-right_arm z =
          let s : p ≡ suc (p - 1) = omega arith in
          sym (ap (followed_residue N U last before (left_end N.starts (e - 1)) (e - 1)) s) ∙ by_number 6 q

    pub operator_arm : 7 ≤ get_or N.kinds (e - 1) 0 → {l : ℕ} → l ≡ left_end N.starts (e - 1)
        → operated_residue (get_or N.kinds (e - 1) 0) (before l p) (before (e - 1) p) ≡ before e p
    operator_arm k el =
        ap (λ d. operated_residue (get_or N.kinds (e - 1) 0) (before d p) (before (e - 1) p)) el
        ∙ by_kind operator_node (kind_of-operator (get_or N.kinds (e - 1) 0) k)

-- ---- a name that is read from an older letter

-- The value of a name's node is what its stream has.
pub name-value : (N : Nodes) (U : View) (i p : ℕ) → HasArrays N → i < 1024 → p < places U → get_or N.kinds i 0 ≡ 1
    → node_value N U i p ≡ stream_evaluated U.window U.streams p (get_or N.values i (pos 0))
name-value N U i p a l h q =
    sym (root_value a U i p l refl h) ∙ ap (λ e. part_value N U e p) (add-one i) ∙ value_before-node N U i p ∙ ap (λ k. value_by_kind N U (kind_of k) (part_value N U) i p) q

-- ---- the residue of a node

module _ {N : Nodes} (a : HasArrays N) (U : View) (last root p : ℕ) where
  pub no_node : 1024 ≤ root → known no_value ≡ node_residue N U last root p
  unfolding node_residue
  no_node h = sym (simp (le-ltb root (length N.kinds) (omega (arith, a.kinds))))

  pub root_residue : root < 1024 → residue_before N U last (root + 1) p ≡ node_residue N U last root p
  unfolding node_residue
  root_residue h =
      ap (λ e. residue_before N U last e p) (add-one root)
      ∙ sym (simp (lt-ltb root (length N.kinds) (omega (arith, a.kinds)), lt-ltb root (length N.values) (omega (arith, a.values)), lt-ltb root (length N.starts) (omega (arith, a.starts))))

-- ---- `not`s one before the other

times-inner : (n : ℕ) (r : Residue) → negated_times n (negated_residue r) ≡ negated_residue (negated_times n r)
unfolding negated_times
times-inner zero r = refl
times-inner (suc n) r = ap negated_residue (times-inner n r)

pub times_none : (r : Residue) → negated_times 0 r ≡ r
unfolding negated_times
times_none r = refl

pub times_more : (n : ℕ) (r : Residue) → negated_residue (negated_times n r) ≡ negated_times (suc n) r
unfolding negated_times
times_more n r = refl

pub passes_none : {kinds : List ℕ} {e : ℕ} → PassesNegations kinds e e
passes_none {e = e} =
    let z : e - e ≡ 0 = omega arith in
    record { ends_within = omega arith; same = λ N U letters p q. ap (λ n. negated_times n (residue_before N U letters e p)) z ∙ times_none (residue_before N U letters e p) }

pub passes-more : {kinds : List ℕ} {e d : ℕ} → PassesNegations kinds e d → (d ≡ 0 → ⊥) → get_or kinds (d - 1) 0 ≡ 4 → PassesNegations kinds e (d - 1)
passes-more {kinds} {e} {d} m h k =
    let s : e - (d - 1) ≡ suc (e - d) = omega (arith, m.ends_within) in
    record {
      ends_within = omega (arith, m.ends_within);
      same = λ N U letters p q.
          ap (λ n. negated_times n (residue_before N U letters (d - 1) p)) s
          ∙ sym (times_more (e - d) (residue_before N U letters (d - 1) p))
          ∙ sym (times-inner (e - d) (residue_before N U letters (d - 1) p))
          ∙ ap (negated_times (e - d)) (negation_arm N U letters p d h (ap (λ (x : List ℕ). get_or x (d - 1) 0) q ∙ k))
          ∙ m.same N U letters p q;
    }

-- The `not` behind those that are passed is one more.
pub all-negated : {kinds : List ℕ} {e d : ℕ} → PassesNegations kinds (e - 1) d → (e ≡ 0 → ⊥) → (N : Nodes) (U : View) (letters p : ℕ) → N.kinds ≡ kinds → get_or kinds (e - 1) 0 ≡ 4
    → negated_times (e - d) (residue_before N U letters d p) ≡ residue_before N U letters e p
all-negated {kinds} {e} {d} m h N U letters p q k =
    let s : e - d ≡ suc (e - 1 - d) = omega (arith, m.ends_within) in
    ap (λ n. negated_times n (residue_before N U letters d p)) s
    ∙ sym (times_more (e - 1 - d) (residue_before N U letters d p))
    ∙ ap negated_residue (m.same N U letters p q)
    ∙ negation_arm N U letters p e h (ap (λ (x : List ℕ). get_or x (e - 1) 0) q ∙ k)

-- Values that are known stay such that can be read back.
negated_decodes : (r : Residue) → Decodes (known_value r) → Decodes (known_value (negated_residue r))
unfolding negated_residue known_value
negated_decodes (known x) d = decodes_cond x.ok (decodes_bit (not (nonzero x.value))) decodes_none
negated_decodes (varying t) d = decodes_none

pub times_decodes : (n : ℕ) (r : Residue) → Decodes (known_value r) → Decodes (known_value (negated_times n r))
unfolding negated_times
times_decodes zero r d = d
times_decodes (suc n) r d = negated_decodes (negated_times n r) (times_decodes n r d)
