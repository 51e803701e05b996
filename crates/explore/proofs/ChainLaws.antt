-- Chains of keys: what a step along a chain keeps, and what a new row makes of the chains. From the laws of chains (key_chains) and of lists.
use mathlib.Core.Path.{◌≡◌, sym, ap, ◌∙◌}
use mathlib.Core.List.{List, ◌++◌}
use Prim.Native.Nat.{ℕ, ◌+◌, ◌-◌, ◌*◌, ◌≤◌, ◌<◌}
use native.Mathlib.Nat.{mod-lt}
use native.Mathlib.Omega.{arith}
use lib.ListN.{length, get_or, set, take, drop, length-drop, length-set, get_or-append, replicate, length-replicate}
use lib.Seq.{get_or-take, get_or-drop, length-take-le, ext_get_or, paste, length-paste, get_or-append-add, take-paste}
use Rattle.basics.proofs.Clearing.{zeros}
use Rattle.prepare.proofs.Parts.{part-size}
use Rattle.sizes.specs.Room.{key_size}
use Rattle.key_chains.specs.Chains.{ChainLeft}
use Rattle.key_chains.proofs.Chains.{chain_first, chain_next, chain_more, chain_none}
use Rattle.explore.specs.Chains.{row_at, bucket_of, KeyTables, Inserts}

pub bucket_lt : (m : ℕ) (key : List ℕ) → 0 < m → bucket_of m key < m
unfolding bucket_of
bucket_lt m key h = mod-lt _ h

-- ---- a search along a chain

pub left-first : {heads links keys : List ℕ} {n : ℕ} → KeyTables heads links keys n → (key : List ℕ)
    → ChainLeft (bucket_of (length heads)) (row_at keys) n key (get_or heads (bucket_of (length heads) key) 0)
left-first {heads} {links} {keys} {n} t key = chain_first (bucket_of (length heads)) (row_at keys) heads links n t.chained key

pub left-next : {heads links keys : List ℕ} {n : ℕ} {key : List ℕ} {j : ℕ} → KeyTables heads links keys n → ChainLeft (bucket_of (length heads)) (row_at keys) n key j → 0 < j
    → (row_at keys (j - 1) ≡ key → ⊥) → ChainLeft (bucket_of (length heads)) (row_at keys) n key (get_or links (j - 1) 0)
left-next {heads} {links} {keys} {n} {key} t l pos no_row = chain_next (bucket_of (length heads)) (row_at keys) heads links n t.chained key l pos no_row

-- ---- rows

-- the part of the rows that is row i
pub row-part : (keys : List ℕ) (i : ℕ) → take (i * key_size + key_size - i * key_size) (drop (i * key_size) keys) ≡ row_at keys i
row-part keys i = ap (λ n. take n (drop (i * key_size) keys)) (part-size (i * key_size) key_size)

-- rows after a row was stored
paste-below : (d : List ℕ) (at : ℕ) (s : List ℕ) (n i : ℕ) → i < at → at + n ≤ length d → n ≤ length s → get_or (paste d at s n) i 0 ≡ get_or d i 0
paste-below d at s n i lt room k =
    sym (get_or-take (at + n) (paste d at s n) i 0 (omega arith)) ∙ ap (λ (l : List ℕ). get_or l i 0) (take-paste d at s n (omega arith) k)
    ∙ get_or-append (take at d) (take n s) 0 i (omega (arith, length-take-le at d (omega arith))) ∙ get_or-take at d i 0 lt

paste-at : (d : List ℕ) (at : ℕ) (s : List ℕ) (n i : ℕ) → i < n → at + n ≤ length d → n ≤ length s → get_or (paste d at s n) (at + i) 0 ≡ get_or s i 0
paste-at d at s n i lt room k =
    let long : length (take at d) ≡ at = length-take-le at d (omega arith) in
    sym (get_or-take (at + n) (paste d at s n) (at + i) 0 (omega arith)) ∙ ap (λ (l : List ℕ). get_or l (at + i) 0) (take-paste d at s n (omega arith) k)
    ∙ ap (λ (x : ℕ). get_or (take at d ++ take n s) (x + i) 0) (sym long) ∙ get_or-append-add (take at d) (take n s) i 0 ∙ get_or-take n s i 0 lt

pub row-long : (keys : List ℕ) (i : ℕ) → i * key_size + key_size ≤ length keys → length (row_at keys i) ≡ key_size
row-long keys i h = length-take-le key_size (drop (i * key_size) keys) (simp length-drop (omega arith))

row_get : (keys : List ℕ) (i k : ℕ) → k < key_size → get_or (row_at keys i) k 0 ≡ get_or keys (i * key_size + k) 0
row_get keys i k h = get_or-take key_size (drop (i * key_size) keys) k 0 h ∙ get_or-drop (i * key_size) keys k 0

pub stored : (keys : List ℕ) (n : ℕ) (key : List ℕ) → length key ≡ key_size → n * key_size + key_size ≤ length keys → Inserts keys (paste keys (n * key_size) key key_size) n key
stored keys n key long room =
    let same : length (paste keys (n * key_size) key key_size) ≡ length keys = length-paste keys (n * key_size) key key_size room (omega arith) in
    record {
      new = ext_get_or 0 _ _ (row-long _ n (omega arith) ∙ sym long) (λ k h.
          let lt : k < key_size = omega (arith, row-long (paste keys (n * key_size) key key_size) n (omega arith)) in
          row_get (paste keys (n * key_size) key key_size) n k lt ∙ paste-at keys (n * key_size) key key_size k lt room (omega arith));
      old = λ i h.
          ext_get_or 0 _ _ (row-long _ i (omega arith) ∙ sym (row-long keys i (omega arith))) (λ k l.
          let lt : k < key_size = omega (arith, row-long (paste keys (n * key_size) key key_size) i (omega arith)) in
          row_get (paste keys (n * key_size) key key_size) i k lt ∙ paste-below keys (n * key_size) key key_size (i * key_size + k) (omega arith) room (omega arith) ∙ sym (row_get keys i k lt));
    }

pub inserted : (heads links keys : List ℕ) (n : ℕ) (key keys' : List ℕ) (h : ℕ) → h ≡ bucket_of (length heads) key → h < length heads → n < length links → n * key_size + key_size ≤ length keys → length keys' ≡ length keys
    → Inserts keys keys' n key → KeyTables heads links keys n → KeyTables (set heads h (n + 1)) (set links n (get_or heads h 0)) keys' (n + 1)
inserted heads links keys n key keys' h e lt room fits long i t =
    record {
      buckets = simp length-set t.buckets;
      links_room = simp length-set (omega arith);
      keys_room = omega arith;
      chained = simp length-set (chain_more heads links (λ i. bucket_of (length heads) (row_at keys i)) (λ i. bucket_of (length heads) (row_at keys' i)) n h lt room (ap (bucket_of (length heads)) i.new ∙ sym e) (λ k l. ap (bucket_of (length heads)) (i.old k l)) t.chained);
    }

-- Chains that are all empty hold no row.
pub none-chained : (heads links keys : List ℕ) → 0 < length heads → ((k : ℕ) → get_or heads k 0 ≡ 0) → KeyTables heads links keys 0
none-chained heads links keys some empty =
    record {
      buckets = some;
      links_room = omega arith;
      keys_room = omega arith;
      chained = chain_none heads links (λ i. bucket_of (length heads) (row_at keys i)) empty;
    }

pub cleared-chained : (heads heads' links keys : List ℕ) → 0 < length heads → heads' ≡ replicate (length heads) 0 → KeyTables heads' links keys 0
cleared-chained heads heads' links keys some e =
    none-chained heads' links keys (omega (arith, ap length e, length-replicate {A = ℕ} (length heads) 0)) (λ k. ap (λ l. get_or l k 0) e ∙ zeros (length heads) k)
