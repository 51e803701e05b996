-- The keys of pairs of entries, and the row of a key: found, new, or without room. From the laws of chains.
use Prim.Native.Nat.{ℕ, ◌+◌, ◌*◌, ◌≤◌, ◌<◌}
use native.Mathlib.Omega.{arith}
use native.Mathlib.Nat.{mod-lt, not-suc-le-zero}
use mathlib.Core.Path.{◌≡◌, refl, sym, ◌∙◌, ap}
use mathlib.Core.Bool.{Bool, true, false, cond, ◌&&◌}
use mathlib.Core.Logic.{⊎_elim}
use mathlib.Core.List.{List}
use lib.Dec.{ltb}
use lib.ListN.{length, get_or, set, replicate, length-set, length-replicate}
use lib.Seq.{get_or-set_same, get_or-set_other}
use Rattle.basics.specs.Lists.{at}
use Rattle.basics.proofs.Clearing.{zeros}
use Rattle.automaton.specs.WellFormed.{most_rows}
use Rattle.key_chains.proofs.Chains.{chain_more, chain_none}
use Rattle.std.specs.Prelude.{Some, None}
use Rattle.std.proofs.lemmas.Option.{none-some, same_Some}
use Rattle.pairs.specs.Rows.{key_of_entries, pair_bucket, ChainedKeys, FindsKey, KeySettled}

-- ---- keys of entries

module _ (p q : ℕ) where
  -- where there is no key, an entry names no state, and else both do
  pub key-none : key_of_entries p q ≡ None → ltb p most_rows && ltb q most_rows ≡ false
  key-none e = by (ltb p most_rows && ltb q most_rows) refl e
    where
      by : (b : Bool) → ltb p most_rows && ltb q most_rows ≡ b → cond b (Some (p * most_rows + q)) None ≡ None → ltb p most_rows && ltb q most_rows ≡ false
      by true h e = absurd (none-some _ (sym e))
      by false h e = h

  pub key-some : {k : ℕ} → key_of_entries p q ≡ Some k → (ltb p most_rows && ltb q most_rows ≡ true) × (k ≡ p * most_rows + q)
  key-some {k} e = by (ltb p most_rows && ltb q most_rows) refl e
    where
      by : (b : Bool) → ltb p most_rows && ltb q most_rows ≡ b → cond b (Some (p * most_rows + q)) None ≡ Some k → (ltb p most_rows && ltb q most_rows ≡ true) × (k ≡ p * most_rows + q)
      by true h e = (h, sym (same_Some _ _ e))
      by false h e = absurd (none-some _ e)

-- ---- the row of a key

module _ (limit n key : ℕ) (keys heads links : List ℕ) where
  pub settled-found : (row : ℕ) → FindsKey keys n key (Some row) → ChainedKeys heads links keys n → KeySettled limit n key keys heads links keys row
  settled-found row f t =
      record {
        within = omega (arith, f.0);
        found = λ l. f.1;
        absent = λ e. absurd (not-suc-le-zero (let z : n < 0 = omega (arith, f.0) in z));
        added = λ e. absurd (not-suc-le-zero (let z : n < 0 = omega (arith, f.0) in z));
        kept = λ l. (t, refl);
      }

  pub settled-full : FindsKey keys n key None → limit ≤ n → ChainedKeys heads links keys n → KeySettled limit n key keys heads links keys n
  settled-full f h t =
      record {
        within = omega arith;
        found = λ l. absurd (not-suc-le-zero (let z : n < 0 = omega arith in z));
        absent = λ r. f;
        added = λ r l. absurd (not-suc-le-zero (let z : n < 0 = omega arith in z));
        kept = λ l. (t, refl);
      }

  -- A new key is the last row of its bucket's chain.
  pub settled-new : FindsKey keys n key None → n < limit → limit ≤ length links → limit ≤ length keys → (h : ℕ) → h ≡ pair_bucket (length heads) key → h < length heads → ChainedKeys heads links keys n
      → KeySettled limit n key keys (set heads h (n + 1)) (set links n (get_or heads h 0)) (set keys n key) n
  settled-new f space links_room keys_room h hb hl t =
      record {
        within = omega arith;
        found = λ l. absurd (not-suc-le-zero (let z : n < 0 = omega arith in z));
        absent = λ r. f;
        added = λ r l. (chained, refl);
        kept = λ l. absurd (not-suc-le-zero (⊎_elim (λ x. let z : n < 0 = omega arith in z) (λ x. let z : n < 0 = omega arith in z) l));
      }
    where
      chained : ChainedKeys (set heads h (n + 1)) (set links n (get_or heads h 0)) (set keys n key) (n + 1)
      chained =
          record {
            buckets = omega (arith, length-set heads h (n + 1), t.buckets);
            links_room = omega (arith, length-set links n (get_or heads h 0), t.links_room);
            keys_room = omega (arith, length-set keys n key, t.keys_room);
            chained = rw (length-set heads h (n + 1)) (chain_more heads links (λ i. pair_bucket (length heads) (at keys i)) (λ i. pair_bucket (length heads) (at (set keys n key) i)) n h hl (omega arith)
                (ap (pair_bucket (length heads)) (get_or-set_same keys n key 0 (omega arith)) ∙ sym hb) (λ i l. ap (pair_bucket (length heads)) (get_or-set_other keys n i key 0 (omega arith))) t.chained);
          }

-- Chains that are all empty hold no row.
pub none-chained : (heads heads' links keys : List ℕ) → 0 < length heads → heads' ≡ replicate (length heads) 0 → ChainedKeys heads' links keys 0
none-chained heads heads' links keys some e =
    record {
      buckets = omega (arith, ap length e, length-replicate {A = ℕ} (length heads) 0);
      links_room = omega arith;
      keys_room = omega arith;
      chained = chain_none heads' links (λ i. pair_bucket (length heads') (at keys i)) (λ k. ap (λ l. get_or l k 0) e ∙ zeros (length heads) k);
    }

-- ---- buckets

pub bucket_below : (m key : ℕ) → 0 < m → pair_bucket m key < m
unfolding pair_bucket
bucket_below m key h = mod-lt _ h
