-- Nodes stored one after the other: stores in a row are one store, and what stands below the first stays. By induction over the nodes.
use Prim.Native.Nat.{ℕ, suc, ◌+◌, ◌≤◌}
use mathlib.Core.Path.{◌≡◌, refl, sym, ap, ◌∙◌}
use mathlib.Core.List.{List, [], ◌∷◌, ◌++◌, map, map-append}
use native.Mathlib.Omega.{arith}
use lib.ListN.{length, take, set, length-map}
use lib.Seq.{sets, take-set-le, take-take}
use Rattle.nodes.specs.Evaluate.{Nodes}
use Rattle.basics.proofs.Lists.{sets_append}
use Rattle.nodes.specs.Postfix.{Node, kinds_of, values_of, starts_of}
use Rattle.parse.specs.Stored.{store, SameBelow}

-- What is stored of nodes in two pieces is stored in one.
sets_map : {A : Type 0} (g : Node → A) (x : List A) (n : ℕ) (l m : List Node) → sets (sets x n (map g l)) (n + length l) (map g m) ≡ sets x n (map g (l ++ m))
sets_map g x n l m =
    ap (λ k. sets (sets x n (map g l)) (n + k) (map g m)) (sym (length-map l g)) ∙ sets_append x n (map g l) (map g m) ∙ ap (sets x n) (sym (map-append g l m))

pub store-append : (a : Nodes) (n : ℕ) (l m : List Node) → store (store a n l) (n + length l) m ≡ store a n (l ++ m)
unfolding store
store-append a n l m =
    λ i. record {
      kinds = sets_map (λ x. x.kind) a.kinds n l m i;
      values = sets_map (λ x. x.value) a.values n l m i;
      starts = sets_map (λ x. x.start) a.starts n l m i;
    }

-- One more node after nodes that were stored.
pub store-more : (a : Nodes) {b c : Nodes} (n : ℕ) {k : ℕ} (l m : List Node) → b ≡ store a n l → k ≡ n + length l → c ≡ store b k m → c ≡ store a n (l ++ m)
store-more a n l m p q r = r ∙ (λ i. store (p i) (q i) m) ∙ store-append a n l m

sets_below : {A : Type 0} (k : ℕ) (x : List A) (n : ℕ) (vs : List A) → k ≤ n → take k (sets x n vs) ≡ take k x
sets_below k x n [] h = refl
sets_below k x n (v ∷ vs) h = sets_below k (set x n v) (suc n) vs (omega arith) ∙ take-set-le k x n v h

pub below_refl : (n : ℕ) (a : Nodes) → SameBelow n a a
below_refl n a = record { kinds = refl; values = refl; starts = refl }

pub below-store : (a : Nodes) {b : Nodes} (n : ℕ) (l : List Node) → b ≡ store a n l → SameBelow n b a
unfolding store
below-store a n l e =
    record {
      kinds = ap (λ x. take n x.kinds) e ∙ sets_below n a.kinds n (kinds_of l) (omega arith);
      values = ap (λ x. take n x.values) e ∙ sets_below n a.values n (values_of l) (omega arith);
      starts = ap (λ x. take n x.starts) e ∙ sets_below n a.starts n (starts_of l) (omega arith);
    }

take_less : {A : Type 0} {k n : ℕ} (x y : List A) → k ≤ n → take n x ≡ take n y → take k x ≡ take k y
take_less {k = k} {n = n} x y h e = sym (take-take k n x h) ∙ ap (take k) e ∙ take-take k n y h

pub below_trans : {a b c : Nodes} {k n : ℕ} → k ≤ n → SameBelow n c b → SameBelow k b a → SameBelow k c a
below_trans {b = b} {c = c} h p q =
    record {
      kinds = take_less c.kinds b.kinds h p.kinds ∙ q.kinds;
      values = take_less c.values b.values h p.values ∙ q.values;
      starts = take_less c.starts b.starts h p.starts ∙ q.starts;
    }
