-- What is answered where nodes are written one behind the other: the place behind them, and that a residue was written. What was written of the parts
-- makes, with one node behind it, what is written of the whole; a value that is known takes the place of its parts.
use Prim.Native.Nat.{ℕ, suc, ◌+◌, ◌-◌, ◌≤◌, ◌<◌, min}
use native.Mathlib.Omega.{arith}
use native.Mathlib.Decide.{dec_lt}
use mathlib.Core.Path.{◌≡◌, refl, sym, ◌∙◌, ap, ap₂, subst}
use mathlib.Core.Bool.{Bool, true, false, cond, ◌&&◌}
use mathlib.Core.List.{List, [], ◌∷◌, ◌++◌}
use lib.IntN.{ℤ, pos}
use lib.ListN.{length, take, length-append}
use lib.Seq.{take_all}
use borrow.Author.Tests.{le-leb, lt-leb}
use Rattle.meaning.specs.Value.{nonzero}
use Rattle.nodes.specs.Bounded.{no_value, some_value, bounded, applied_by_kind}
use Rattle.nodes.specs.Postfix.{Node, node}
use Rattle.nodes.specs.Evaluate.{Nodes, View, view, negated_result, operated}
use Rattle.nodes.specs.declared.Evaluated.{Evaluated}
use Rattle.arithmetic.specs.Coded.{coded}
use Rattle.arithmetic.proofs.Coded.{Decodes}
use Rattle.evaluate.proofs.Recursion.{HasArrays}
use Rattle.evaluate.proofs.Decoding.{applied_coded}
use Rattle.residue.specs.Residue.{Tree, name_tree, negation_tree, operator_tree, conditional_tree, Residue, known, varying, tree_of, is_known, known_value, negated_residue, chosen_residue, operated_residue, residue_before}
use Rattle.residue.specs.Written.{written, tree_size, SameBelow, Writes}
use Rattle.residue.proofs.Size.{length-written}
use Rattle.residue.proofs.Writing.{below_trans, writes_join, writes_after}
use Rattle.write_residue.specs.Wrote.{end_of, Appended, known_at, varying_at, Wrote, WroteKnown, negated_times, NegatesLast, IsAsked, MovesToKnown}
use Rattle.write_residue.specs.declared.WrittenResidue.{WrittenResidue}
use Rattle.write_residue.proofs.Recursion.{times_none, times_more, times_decodes}

-- ---- the place behind nodes

pub end-room : (at n : ℕ) → at + n ≤ 1024 → end_of at n ≡ at + n
end-room at n h = simp (le-leb (at + n) 1024 h)

pub end-full : (at n : ℕ) → 1024 < at + n → end_of at n ≡ 1025
end-full at n h = simp (lt-leb (at + n) 1024 h)

pub end-behind : (at n : ℕ) → at ≤ 1025 → at ≤ end_of at n
end-behind at n h = by (dec_lt 1024 (at + n))
  where
    by : Dec (1024 < at + n) → at ≤ end_of at n
    by (yes l) = omega (arith, end-full at n l)
    by (no l) = omega (arith, end-room at n (omega arith))

pub end_within : (at n : ℕ) → end_of at n ≤ 1025
end_within at n = by (dec_lt 1024 (at + n))
  where
    by : Dec (1024 < at + n) → end_of at n ≤ 1025
    by (yes l) = omega (arith, end-full at n l)
    by (no l) = omega (arith, end-room at n (omega arith))

pub end_join : (at n m : ℕ) → end_of (end_of at n) m ≡ end_of at (n + m)
end_join at n m = by (dec_lt 1024 (at + n)) (dec_lt 1024 (at + (n + m)))
  where
    by : Dec (1024 < at + n) → Dec (1024 < at + (n + m)) → end_of (end_of at n) m ≡ end_of at (n + m)
    by (yes k) d = ap (λ j. end_of j m) (end-full at n k) ∙ end-full 1025 m (omega arith) ∙ sym (end-full at (n + m) (omega arith))
    by (no k) (yes l) = ap (λ j. end_of j m) (end-room at n (omega arith)) ∙ end-full (at + n) m (omega arith) ∙ sym (end-full at (n + m) l)
    by (no k) (no l) =
        let s : at + n + m ≡ at + (n + m) = omega arith in
        ap (λ j. end_of j m) (end-room at n (omega arith)) ∙ end-room (at + n) m (omega arith) ∙ s ∙ sym (end-room at (n + m) (omega arith))

-- ---- nodes one behind the other

-- From the place `at` on n nodes were written, which depend on that place, if there was room.
record Front (old new : Nodes) (at n : ℕ) (xs : ℕ → List Node) (end : ℕ) : Type 0 where
  size : (j : ℕ) → length (xs j) ≡ n
  next : end ≡ end_of at n
  kept : SameBelow at new old
  nodes : at + n ≤ 1024 → Writes old new at (xs at)

front-node : {old new : Nodes} {at : ℕ} {x : Node} {e : ℕ} → Appended old new at x e → Front old new at 1 (λ j. x ∷ []) e
front-node a = record { size = λ j. refl; next = a.next; kept = a.kept; nodes = λ h. a.nodes (omega arith) }

front-tree : {old new : Nodes} {at : ℕ} {r : Residue} {a : WrittenResidue} → Wrote old new at r a → Front old new at (tree_size (tree_of r)) (λ j. written j (tree_of r)) a.end
front-tree {r = r} w = record { size = λ j. length-written j (tree_of r); next = w.end; kept = w.kept; nodes = w.nodes }

front_join : {old mid new : Nodes} {at n m k l : ℕ} {xs ys : ℕ → List Node} → at ≤ 1025 → Front old mid at n xs k → Front mid new k m ys l
    → Front old new at (n + m) (λ j. xs j ++ ys (j + length (xs j))) l
front_join {mid = mid} {new = new} {at = at} {n = n} {m = m} {k = k} {xs = xs} {ys = ys} h p q =
    record {
      size = λ j. length-append (xs j) (ys (j + length (xs j))) ∙ ap₂ (λ a b. a + b) (p.size j) (q.size (j + length (xs j)));
      next = q.next ∙ ap (λ j. end_of j m) p.next ∙ end_join at n m;
      kept = below_trans (let b = end-behind at n h in let e = p.next in omega arith) q.kept p.kept;
      nodes = λ f.
          let e : k ≡ at + length (xs at) = p.next ∙ end-room at n (omega arith) ∙ sym (ap (λ j. at + j) (p.size at)) in
          let s = p.size at in
          writes_join at (xs at) (ys (at + length (xs at))) (p.nodes (omega arith)) (subst (λ j. Writes mid new j (ys j)) e (q.nodes (omega arith)));
    }

-- ---- what was written

pub known_wrote : {old new : Nodes} {at e : ℕ} {v : ℤ} → Appended old new at (node 0 v at) e → WroteKnown old new at v (known_at v e)
unfolding tree_of is_known known_value tree_size written
known_wrote {old} {new} {at} {e} {v} a =
    record {
      wrote = λ x q.
          record {
            known = refl;
            value = q;
            end = a.next;
            kept = a.kept;
            nodes = λ h. subst (λ z. Writes old new at (node 0 z at ∷ [])) q (a.nodes (omega arith));
            arrays = a.arrays;
          };
    }

front-wrote : {old new : Nodes} {at n e : ℕ} {xs : ℕ → List Node} (t : Tree) → n ≡ tree_size t → xs at ≡ written at t → Front old new at n xs e → HasArrays new
    → Wrote old new at (varying t) (varying_at e)
unfolding tree_of is_known known_value
front-wrote {old} {new} {at} {n} t s x f a =
    record {
      known = refl;
      value = refl;
      end = f.next ∙ ap (end_of at) s;
      kept = f.kept;
      nodes = λ h. subst (Writes old new at) x (f.nodes (omega arith));
      arrays = a;
    }

pub name-wrote : {old new : Nodes} {at e : ℕ} {z : ℤ} → Appended old new at (node 1 z at) e → Wrote old new at (varying (name_tree z)) (varying_at e)
unfolding tree_size written
name-wrote {z = z} a = front-wrote (name_tree z) refl refl (front-node a) a.arrays

-- What is written from `at` on, after something else was written there.
pub wrote_after : {old mid new : Nodes} {at : ℕ} {r : Residue} {a : WrittenResidue} → SameBelow at mid old → Wrote mid new at r a → Wrote old new at r a
wrote_after {at = at} {r = r} s w =
    record {
      known = w.known;
      value = w.value;
      end = w.end;
      kept = below_trans (omega arith) w.kept s;
      nodes = λ h. writes_after at (written at (tree_of r)) s (w.nodes h);
      arrays = w.arrays;
    }

-- The place may be any beyond the arrays.
pub wrote-beyond : {old new : Nodes} {r : Residue} {a : WrittenResidue} (at : ℕ) → HasArrays old → 1025 < at → Wrote old new 1025 r a → Wrote old new at r a
wrote-beyond {old} {new} {r} at o h w =
    record {
      known = w.known;
      value = w.value;
      end = w.end ∙ end-full 1025 (tree_size (tree_of r)) (omega arith) ∙ sym (end-full at (tree_size (tree_of r)) (omega arith));
      kept =
          record {
            kinds = more new.kinds old.kinds (omega (arith, w.arrays.kinds)) (omega (arith, o.kinds)) w.kept.kinds;
            values = more new.values old.values (omega (arith, w.arrays.values)) (omega (arith, o.values)) w.kept.values;
            starts = more new.starts old.starts (omega (arith, w.arrays.starts)) (omega (arith, o.starts)) w.kept.starts;
          };
      nodes = λ f. absurd (omega arith);
      arrays = w.arrays;
    }
  where
    more : {X : Type 0} (x y : List X) → length x ≤ 1025 → length y ≤ 1025 → take 1025 x ≡ take 1025 y → take at x ≡ take at y
    more x y p q e = take_all at x (omega arith) ∙ sym (take_all 1025 x p) ∙ e ∙ take_all 1025 y q ∙ sym (take_all at y (omega arith))

-- So the place may be cut to 1025.
pub wrote-cut : {old new : Nodes} {r : Residue} {a : WrittenResidue} {at from : ℕ} → from ≡ min at 1025 → HasArrays old → Wrote old new from r a → Wrote old new at r a
wrote-cut {old} {new} {r} {a} {at} {from} e o w = by (dec_lt 1025 at)
  where
    by : Dec (1025 < at) → Wrote old new at r a
    by (yes h) = let m : from ≡ 1025 = omega arith in wrote-beyond at o h (subst (λ k. Wrote old new k r a) m w)
    by (no h) = let m : from ≡ at = omega arith in subst (λ k. Wrote old new k r a) m w

-- ---- residues that are known, or not

pub known_is : (r : Residue) → is_known r ≡ true → r ≡ known (known_value r)
unfolding is_known known_value
known_is (known x) h = refl
known_is (varying t) h = let z : ◌≡◌ {A = ℕ} 0 1 = cc in absurd (omega arith)

varying-is : (r : Residue) → is_known r ≡ false → r ≡ varying (tree_of r)
unfolding is_known tree_of
varying-is (known x) h = let z : ◌≡◌ {A = ℕ} 0 1 = cc in absurd (omega arith)
varying-is (varying t) h = refl

-- ---- a `not`

negated-known : (x : Evaluated) → negated_residue (known x) ≡ known (negated_result x)
unfolding negated_residue
negated-known x = refl

negated-varying : (t : Tree) → negated_residue (varying t) ≡ varying (negation_tree t)
unfolding negated_residue
negated-varying t = refl

module _ {old mid new : Nodes} {at : ℕ} {r : Residue} {inner : WrittenResidue} (w : Wrote old mid at r inner) where
  pub negate_known : {a : WrittenResidue} {v : ℤ} → inner.known ≡ true → Decodes (known_value r) → v ≡ coded (negated_result (bounded inner.value)) → WroteKnown mid new at v a
      → Wrote old new at (negated_residue r) a
  negate_known {a} {v} k d q n =
      subst (λ s. Wrote old new at s a) (sym (ap negated_residue (known_is r (sym w.known ∙ k)) ∙ negated-known (known_value r)))
      (wrote_after w.kept (n.wrote (negated_result (known_value r)) (q ∙ ap (λ x. coded (negated_result x)) (ap bounded w.value ∙ d))))

  pub negate_varying : {e : ℕ} → at ≤ 1025 → inner.known ≡ false → Appended mid new inner.end (node 4 (pos 0) at) e → Wrote old new at (negated_residue r) (varying_at e)
  unfolding tree_size written
  negate_varying {e} b k n =
      subst (λ s. Wrote old new at s (varying_at e)) (sym (ap negated_residue (varying-is r (sym w.known ∙ k)) ∙ negated-varying (tree_of r)))
      (front-wrote (negation_tree (tree_of r)) (omega arith) refl (front_join b (front-tree w) (front-node n)) n.arrays)

-- ---- an operator

module _ (k : ℕ) (r s : Residue) where
  operated-known : (is_known r && is_known s) ≡ true → operated_residue k r s ≡ known (operated k (known_value r) (known_value s))
  unfolding operated_residue
  operated-known h = simp h

  operated-varying : (is_known r && is_known s) ≡ false → operated_residue k r s ≡ varying (operator_tree k (tree_of r) (tree_of s))
  unfolding operated_residue
  operated-varying h = simp h

module _ (k : ℕ) {old between mid : Nodes} {at : ℕ} {r s : Residue} {left right : WrittenResidue} (u : Wrote old between at r left) (w : Wrote between mid left.end s right) (b : at ≤ 1025) where
  both-known : (is_known r && is_known s) ≡ (left.known && right.known)
  both-known = sym (ap₂ (λ x y. x && y) u.known w.known)

  left_behind : at ≤ left.end
  left_behind = omega (arith, end-behind at (tree_size (tree_of r)) b, u.end)

  left_within : left.end ≤ 1025
  left_within = omega (arith, end_within at (tree_size (tree_of r)), u.end)

  pub operate_known : {new : Nodes} {a : WrittenResidue} {v : ℤ} → (left.known && right.known) ≡ true → v ≡ coded (applied_by_kind k left.value right.value) → WroteKnown mid new at v a
      → Wrote old new at (operated_residue k r s) a
  operate_known {new} {a} {v} h q n =
      subst (λ x. Wrote old new at x a) (sym (operated-known k r s (both-known ∙ h)))
      (wrote_after (below_trans left_behind w.kept u.kept)
      (n.wrote (operated k (known_value r) (known_value s)) (q ∙ ap coded (ap₂ (applied_by_kind k) u.value w.value ∙ applied_coded k (known_value r) (known_value s)))))

  pub operate_varying : {new : Nodes} {e : ℕ} → (left.known && right.known) ≡ false → Appended mid new right.end (node k (pos 0) at) e → Wrote old new at (operated_residue k r s) (varying_at e)
  unfolding tree_size written
  operate_varying {new} {e} h n =
      subst (λ x. Wrote old new at x (varying_at e)) (sym (operated-varying k r s (both-known ∙ h)))
      (front-wrote (operator_tree k (tree_of r) (tree_of s)) (omega arith) refl (front_join b (front-tree u) (front_join left_within (front-tree w) (front-node n))) n.arrays)

-- ---- an `if`

module _ (q r s : Residue) where
  pub chosen_none : is_known q ≡ true → known_value q ≡ no_value → q ≡ chosen_residue q r s
  unfolding chosen_residue
  chosen_none h e = known_is q h ∙ ap known e ∙ sym (ap (λ x. chosen_residue x r s) (known_is q h ∙ ap known e))

  pub chosen_branch : {z : ℤ} → is_known q ≡ true → some_value z ≡ known_value q → cond (nonzero z) r s ≡ chosen_residue q r s
  unfolding chosen_residue
  chosen_branch {z} h e = sym (ap (λ x. chosen_residue x r s) (known_is q h ∙ ap known (sym e)))

  chosen-varying : is_known q ≡ false → chosen_residue q r s ≡ varying (conditional_tree (tree_of q) (tree_of r) (tree_of s))
  unfolding chosen_residue tree_of
  chosen-varying h = ap (λ x. chosen_residue x r s) (varying-is q h)

module _ {old m₁ m₂ mid new : Nodes} {at : ℕ} {q r s : Residue} {test then other : WrittenResidue} (t : Wrote old m₁ at q test) (u : Wrote m₁ m₂ test.end r then) (w : Wrote m₂ mid then.end s other) (b : at ≤ 1025) where
  pub choose-varying : {e : ℕ} → test.known ≡ false → Appended mid new other.end (node 5 (pos 0) at) e → Wrote old new at (chosen_residue q r s) (varying_at e)
  unfolding tree_size written
  choose-varying {e} h n =
      let i : test.end ≤ 1025 = omega (arith, end_within at (tree_size (tree_of q)), t.end) in
      let j : then.end ≤ 1025 = omega (arith, end_within test.end (tree_size (tree_of r)), u.end) in
      subst (λ x. Wrote old new at x (varying_at e)) (sym (chosen-varying q r s (sym t.known ∙ h)))
      (front-wrote (conditional_tree (tree_of q) (tree_of r) (tree_of s)) (omega arith) refl
      (front_join b (front-tree t) (front_join i (front-tree u) (front_join j (front-tree w) (front-node n)))) n.arrays)

-- ---- where a node leads

module _ {N : Nodes} {streams : ℕ} {firsts : List ℤ} {whole : Bool} {letters e p : ℕ} where
  pub moves-known : {z : ℤ} {x : Evaluated} → z ≡ coded x → Decodes x → ((window : List ℤ) → residue_before N (view window streams firsts whole) letters e p ≡ known x) → MovesToKnown N streams firsts whole letters e p z
  moves-known {z} {x} q d h =
      let b : bounded z ≡ x = ap bounded q ∙ d in
      record { number = q ∙ sym (ap coded b); known = λ window. h window ∙ ap known (sym b) }

-- A known residue, from what was written.
pub wrote-known : {old new : Nodes} {at : ℕ} {v : ℤ} {a : WrittenResidue} {x : Evaluated} {r : Residue} → WroteKnown old new at v a → v ≡ coded x → known x ≡ r → Wrote old new at r a
wrote-known {old} {new} {at} {a = a} {x = x} w q e = subst (λ r. Wrote old new at r a) e (w.wrote x q)

-- ---- between calls

module _ {old new : Nodes} {at : ℕ} {r : Residue} {a : WrittenResidue} (w : Wrote old new at r a) where
  pub wrote_as : {s : Residue} → r ≡ s → Wrote old new at s a
  wrote_as e = subst (λ x. Wrote old new at x a) e w

  pub answer_as : {b : WrittenResidue} → b ≡ a → Wrote old new at r b
  answer_as e = subst (Wrote old new at r) (sym e) w

  pub wrote-behind : at ≤ 1025 → at ≤ a.end
  wrote-behind h = omega (arith, end-behind at (tree_size (tree_of r)) h, w.end)

  pub wrote-within : a.end ≤ 1025
  wrote-within = omega (arith, end_within at (tree_size (tree_of r)), w.end)

-- A part that ends up to e may be asked for where the part that ends at e may.
pub asked_part : {U : View} {letters e at : ℕ} (d b : ℕ) → IsAsked U letters e at → d ≤ e → b ≤ 1025 → IsAsked U letters d b
asked_part d b i h k = record { end_within = omega (arith, i.end_within); at_within = k; letters_places = i.letters_places }

-- The branch that a condition takes.
pub branch_within : (b : Bool) {r n : ℕ} (m i : ℕ) → r ≡ cond b m i → m ≤ n → i ≤ n → r ≤ n
branch_within true m i e h k = omega arith
branch_within false m i e h k = omega arith

pub branch_residue : (b : Bool) (before : ℕ → Residue) {r : ℕ} (m i : ℕ) → r ≡ cond b m i → before r ≡ cond b (before m) (before i)
branch_residue true before m i e = ap before e
branch_residue false before m i e = ap before e

-- ---- `not`s one before the other

-- What was written first, and negated once for each `not` that is passed; `left` of `count` are left.
pub record NegatedUpTo (start now : Nodes) (at : ℕ) (first last : WrittenResidue) (count left : ℕ) : Type 0 where
  pub within : left ≤ count
  pub wrote : (old : Nodes) (r : Residue) → Decodes (known_value r) → Wrote old start at r first → Wrote old now at (negated_times (count - left) r) last

pub negated-none : {start : Nodes} {at : ℕ} {first : WrittenResidue} {count : ℕ} → NegatedUpTo start start at first first count count
negated-none {count = count} =
    let z : 0 ≡ count - count = omega arith in
    record { within = omega arith; wrote = λ old r d w. wrote_as w (sym (times_none r) ∙ ap (λ n. negated_times n r) z) }

pub negated-more : {start mid now : Nodes} {at : ℕ} {first last next : WrittenResidue} {count left : ℕ} → NegatedUpTo start mid at first last count left → (left ≡ 0 → ⊥) → NegatesLast mid now at last next
    → NegatedUpTo start now at first next count (left - 1)
negated-more {count = count} {left = left} u h n =
    let s : suc (count - left) ≡ count - (left - 1) = omega (arith, u.within) in
    record {
      within = omega (arith, u.within);
      wrote = λ old r d w.
          wrote_as (n.wrote old (negated_times (count - left) r) (times_decodes (count - left) r d) (u.wrote old r d w)) (times_more (count - left) r ∙ ap (λ k. negated_times k r) s);
    }
