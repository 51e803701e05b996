-- What code that writes nodes keeps: what stands below a place stays while nodes are written from there on, what is written one behind the other is
-- one list, and lists that hold what was written store its nodes.
use Prim.Native.Nat.{ℕ, suc, ◌+◌, ◌≤◌, ◌<◌}
use native.Mathlib.Omega.{arith}
use native.Mathlib.Numerals.{add-one}
use mathlib.Core.Path.{◌≡◌, refl, sym, ◌∙◌, ap}
use mathlib.Core.List.{List, [], ◌∷◌, ◌++◌, map, map-append, append_assoc}
use lib.IntN.{ℤ, pos}
use lib.ListN.{length, get_or, take, set, length-append, length-set}
use lib.Seq.{take-take, take-suc-set, take-set-le, get_or-take, get_or_at, length-take-le}
use Rattle.nodes.specs.Postfix.{Node, kinds_of, values_of, starts_of}
use Rattle.nodes.specs.Evaluate.{Nodes, stored}
use Rattle.nodes.proofs.Postfix.{Holds}
use Rattle.evaluate.proofs.Recursion.{HasArrays}
use Rattle.residue.specs.Written.{SameBelow, Writes}

-- ---- what stays

pub below_refl : (n : ℕ) (a : Nodes) → SameBelow n a a
below_refl n a = record { kinds = refl; values = refl; starts = refl }

take_less : {A : Type 0} {k n : ℕ} (x y : List A) → k ≤ n → take n x ≡ take n y → take k x ≡ take k y
take_less {k = k} {n = n} x y h e = sym (take-take k n x h) ∙ ap (take k) e ∙ take-take k n y h

pub below_trans : {a b c : Nodes} {k n : ℕ} → k ≤ n → SameBelow n c b → SameBelow k b a → SameBelow k c a
below_trans {b = b} {c = c} h p q =
    record {
      kinds = take_less c.kinds b.kinds h p.kinds ∙ q.kinds;
      values = take_less c.values b.values h p.values ∙ q.values;
      starts = take_less c.starts b.starts h p.starts ∙ q.starts;
    }

-- ---- one behind the other

module _ {X : Type 0} (g : Node → X) (old mid new : List X) (n : ℕ) (xs ys : List Node) where
  list_join : take (n + length xs) mid ≡ take n old ++ map g xs → take (n + length xs + length ys) new ≡ take (n + length xs) mid ++ map g ys
      → take (n + length (xs ++ ys)) new ≡ take n old ++ map g (xs ++ ys)
  list_join p q =
      let e : n + length (xs ++ ys) ≡ n + length xs + length ys = omega (arith, length-append xs ys) in
      ap (λ k. take k new) e ∙ q ∙ ap (λ l. l ++ map g ys) p ∙ append_assoc (take n old) (map g xs) (map g ys) ∙ ap (λ l. take n old ++ l) (sym (map-append g xs ys))

-- What is written behind what was written.
pub writes_join : {old mid new : Nodes} (n : ℕ) (xs ys : List Node) → Writes old mid n xs → Writes mid new (n + length xs) ys → Writes old new n (xs ++ ys)
writes_join {old} {mid} {new} n xs ys p q =
    record {
      kinds = list_join (λ x. x.kind) old.kinds mid.kinds new.kinds n xs ys p.kinds q.kinds;
      values = list_join (λ x. x.value) old.values mid.values new.values n xs ys p.values q.values;
      starts = list_join (λ x. x.start) old.starts mid.starts new.starts n xs ys p.starts q.starts;
    }

-- What is written from n on after what stands below n stayed.
pub writes_after : {old mid new : Nodes} (n : ℕ) (xs : List Node) → SameBelow n mid old → Writes mid new n xs → Writes old new n xs
writes_after n xs p q =
    record {
      kinds = q.kinds ∙ ap (λ l. l ++ kinds_of xs) p.kinds;
      values = q.values ∙ ap (λ l. l ++ values_of xs) p.values;
      starts = q.starts ∙ ap (λ l. l ++ starts_of xs) p.starts;
    }

-- ---- one node

-- The lists with this node at the place i.
abbrev pub with_node : Nodes → ℕ → Node → Nodes
with_node N i x = stored (set N.kinds i x.kind) (set N.values i x.value) (set N.starts i x.start)

module _ (N : Nodes) (arrays : HasArrays N) (i : ℕ) (x : Node) where
  pub node-arrays : HasArrays (with_node N i x)
  node-arrays =
      record {
        kinds = length-set N.kinds i x.kind ∙ arrays.kinds;
        values = length-set N.values i x.value ∙ arrays.values;
        starts = length-set N.starts i x.start ∙ arrays.starts;
      }

  pub node-below : (n : ℕ) → n ≤ i → SameBelow n (with_node N i x) N
  node-below n h =
      record {
        kinds = take-set-le n N.kinds i x.kind h;
        values = take-set-le n N.values i x.value h;
        starts = take-set-le n N.starts i x.start h;
      }

  pub node_writes : i < 1024 → Writes N (with_node N i x) i (x ∷ [])
  node_writes h =
      record {
        kinds = ap (λ k. take k (set N.kinds i x.kind)) (add-one i) ∙ take-suc-set N.kinds i x.kind (omega (arith, arrays.kinds));
        values = ap (λ k. take k (set N.values i x.value)) (add-one i) ∙ take-suc-set N.values i x.value (omega (arith, arrays.values));
        starts = ap (λ k. take k (set N.starts i x.start)) (add-one i) ∙ take-suc-set N.starts i x.start (omega (arith, arrays.starts));
      }

-- ---- what was written is stored

-- A front part that is `front` and then one more element x, and what follows.
module _ {X : Type 0} (g : Node → X) (l front : List X) (d : X) (n : ℕ) (long : length front ≡ n) (x : Node) (xs : List Node) (e : take (n + suc (length xs)) l ≡ front ++ map g (x ∷ xs)) where
  list-here : get_or l n d ≡ g x
  list-here = sym (get_or-take (n + suc (length xs)) l n d (omega arith)) ∙ ap (λ m. get_or m n d) e ∙ get_or_at front (g x) (map g xs) d n long

  list-more : take (suc n + length xs) l ≡ (front ++ (g x ∷ [])) ++ map g xs
  list-more =
      let k : suc n + length xs ≡ n + suc (length xs) = omega arith in
      ap (λ j. take j l) k ∙ e ∙ sym (append_assoc front (g x ∷ []) (map g xs))

  list-longer : length (front ++ (g x ∷ [])) ≡ suc n
  list-longer = length-append front (g x ∷ []) ∙ omega arith

fronts_hold : (N : Nodes) (n : ℕ) (ks : List ℕ) (vs : List ℤ) (ss : List ℕ) (xs : List Node) → length ks ≡ n → length vs ≡ n → length ss ≡ n
    → take (n + length xs) N.kinds ≡ ks ++ kinds_of xs → take (n + length xs) N.values ≡ vs ++ values_of xs → take (n + length xs) N.starts ≡ ss ++ starts_of xs → Holds N n xs
fronts_hold N n ks vs ss [] hk hv hs p q r = tt
fronts_hold N n ks vs ss (x ∷ xs) hk hv hs p q r = (
  record {
    kind = list-here (λ y. y.kind) N.kinds ks 0 n hk x xs p;
    value = list-here (λ y. y.value) N.values vs (pos 0) n hv x xs q;
    start = list-here (λ y. y.start) N.starts ss 0 n hs x xs r;
  },
  fronts_hold N (suc n) (ks ++ (x.kind ∷ [])) (vs ++ (x.value ∷ [])) (ss ++ (x.start ∷ [])) xs
      (list-longer (λ y. y.kind) N.kinds ks 0 n hk x xs p) (list-longer (λ y. y.value) N.values vs (pos 0) n hv x xs q) (list-longer (λ y. y.start) N.starts ss 0 n hs x xs r)
      (list-more (λ y. y.kind) N.kinds ks 0 n hk x xs p) (list-more (λ y. y.value) N.values vs (pos 0) n hv x xs q) (list-more (λ y. y.start) N.starts ss 0 n hs x xs r),
)

pub writes_hold : (old new : Nodes) (n : ℕ) (xs : List Node) → HasArrays old → n ≤ 1024 → Writes old new n xs → Holds new n xs
writes_hold old new n xs a h w =
    fronts_hold new n (take n old.kinds) (take n old.values) (take n old.starts) xs
    (length-take-le n old.kinds (omega (arith, a.kinds))) (length-take-le n old.values (omega (arith, a.values))) (length-take-le n old.starts (omega (arith, a.starts)))
    w.kinds w.values w.starts

-- Nodes that stand below m stay where what stands there stays.
list-stays : {X : Type 0} (x y : List X) (d : X) (m i : ℕ) → take m x ≡ take m y → i < m → get_or x i d ≡ get_or y i d
list-stays x y d m i e h = sym (get_or-take m x i d h) ∙ ap (λ l. get_or l i d) e ∙ get_or-take m y i d h

pub holds-stays : (old new : Nodes) (m n : ℕ) (xs : List Node) → SameBelow m new old → n + length xs ≤ m → Holds old n xs → Holds new n xs
holds-stays old new m n [] s b h = tt
holds-stays old new m n (x ∷ xs) s b h = (
  record {
    kind = list-stays new.kinds old.kinds 0 m n s.kinds (omega arith) ∙ h.0.kind;
    value = list-stays new.values old.values (pos 0) m n s.values (omega arith) ∙ h.0.value;
    start = list-stays new.starts old.starts 0 m n s.starts (omega arith) ∙ h.0.start;
  },
  holds-stays old new m (suc n) xs s (omega arith) h.1,
)
