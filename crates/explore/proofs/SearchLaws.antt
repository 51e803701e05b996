-- Where the search of the reachable keys stands, and what one more entry and one more row make of it. From the laws of chains and of keys.
use Prim.Native.Nat.{ℕ, suc, ◌+◌, ◌*◌, ◌^◌, ◌≤◌, ◌<◌}
use native.Mathlib.Omega.{arith}
use native.Mathlib.Numerals.{add-one}
use native.Mathlib.Nat.{not-suc-le-zero, pow-suc}
use native.Mathlib.Decide.{dec_lt}
use lib.Pow.{pow_mono}
use mathlib.Core.Path.{◌≡◌, refl, sym, ◌∙◌, ap, subst}
use mathlib.Core.Bool.{true, false, cond}
use mathlib.Core.Logic.{inl, inr, ⊎_elim}
use mathlib.Core.List.{List, []}
use lib.Dec.{eqb}
use lib.ListN.{length, get_or, drop, set, length-set, drop_of_length-le}
use lib.Seq.{get_or-set_same, get_or-set_other, drop-cons}
use borrow.Author.Tests.{eq-eqb, ne_eqb}
use Rattle.basics.proofs.Lists.{row_fits}
use Rattle.sheet.specs.Refusal.{window_bound, stream_bound}
use Rattle.automaton.specs.Table.{no_state}
use Rattle.automaton.specs.Stored.{entry_at, final_at}
use Rattle.automaton.specs.Numbering.{IsPut}
use Rattle.automaton.specs.Reachable
use Rattle.automaton.specs.Reachable.{System, Reach, Reach.start, Reach.step, IsRow, IsRow.no_row, IsRow.row, IsAdded}
use Rattle.automaton.proofs.Places.{put-set}
use Rattle.automaton.proofs.Reachable as Laws
use Rattle.automaton.proofs.Reachable.{known_start, turn_start, turn_old, turn_new, turn-full}
use Rattle.std.specs.Prelude.{Some, None}
use Rattle.explore.specs.Chains.{row_at, KeyTables, Finds, Inserts}
use Rattle.extend.specs.Step.{Store, key_after, HasValues, IsKey}
use Rattle.std.specs.Prelude.{Option, Some, None}
use Rattle.explore.specs.Search.{SearchFinds, start_key, every_mark, flag_of, key_system, Settled, LetterFollowed, Searched, Turn, Known, Kept, KeptBehind, IsLent}
use Rattle.prepare.proofs.PreparedLaws.{one_more}
use Rattle.extend.proofs.StepLaws.{key_after-key}

pub true_not_false : {P : Type 0} → true ≡ false → P
true_not_false e = let z : ◌≡◌ {A = ℕ} 0 1 = cc in absurd (omega arith)

-- ---- the marks of all untils

-- The relations from the place j on are still to be looked at.
pub record Counted (relations : List ℕ) (marks j : ℕ) : Type 0 where
  pub within : j ≤ length relations
  pub small : marks < 2 ^ j
  pub same : every_mark marks (drop j relations) ≡ every_mark 0 relations

pub counted_start : (relations : List ℕ) → Counted relations 0 0
counted_start relations = record { within = omega arith; small = omega arith; same = refl }

module _ (relations : List ℕ) (marks j : ℕ) (more : j < length relations) (c : Counted relations marks j) where
  next-mark : every_mark (cond (eqb (get_or relations j 0) 7) (marks * 2 + 1) marks) (drop (j + 1) relations) ≡ every_mark 0 relations
  unfolding every_mark
  next-mark =
      let e : every_mark marks (drop j relations) ≡ every_mark (cond (eqb (get_or relations j 0) 7) (marks * 2 + 1) marks) (drop (suc j) relations) = ap (every_mark marks) (drop-cons relations j 0 more) in
      ap (λ n. every_mark (cond (eqb (get_or relations j 0) 7) (marks * 2 + 1) marks) (drop n relations)) (add-one j) ∙ sym e ∙ c.same

  pub marks-small : length relations ≤ 32 → marks < 2147483648
  marks-small h = let p : 2 ^ j ≤ 2 ^ 31 = pow_mono {j = 31} (omega arith) in omega (arith, c.small)

  pub counted-until : get_or relations j 0 ≡ 7 → Counted relations (marks * 2 + 1) (j + 1)
  counted-until e =
      record {
        within = omega arith;
        small = rw (add-one j, pow-suc) (omega (arith, c.small));
        same = subst (λ b. every_mark (cond b (marks * 2 + 1) marks) (drop (j + 1) relations) ≡ every_mark 0 relations) (eq-eqb (get_or relations j 0) 7 e) next-mark;
      }

  pub counted-sign : (get_or relations j 0 ≡ 7 → ⊥) → Counted relations marks (j + 1)
  counted-sign e =
      record {
        within = omega arith;
        small = rw (add-one j, pow-suc) (omega (arith, c.small));
        same = subst (λ b. every_mark (cond b (marks * 2 + 1) marks) (drop (j + 1) relations) ≡ every_mark 0 relations) (ne_eqb (get_or relations j 0) 7 e) next-mark;
      }

pub counted-fits : (relations : List ℕ) (marks j : ℕ) → length relations ≤ 32 → Counted relations marks j → marks < 4294967296
counted-fits relations marks j h c = let p : 2 ^ j ≤ 2 ^ 32 = pow_mono {j = 32} (omega (arith, c.within)) in omega (arith, c.small)

pub counted-end : (relations : List ℕ) (marks j : ℕ) → length relations ≤ j → Counted relations marks j → marks ≡ every_mark 0 relations
unfolding every_mark
counted-end relations marks j h c = let none : drop j relations ≡ [] = drop_of_length-le relations {i = j} h in ap (every_mark marks) (sym none) ∙ c.same

-- ---- the row of a key

module _ (limit every n : ℕ) (key keys flags heads links : List ℕ) where
  pub settled-found : (i : ℕ) → Finds keys n key (Some i) → KeyTables heads links keys n → Settled limit every n key keys flags heads links keys flags i
  settled-found i f t =
      record {
        within = omega (arith, f.0);
        found = λ l. f.1;
        absent = λ e. absurd (not-suc-le-zero (let z : n < 0 = omega (arith, f.0) in z));
        added = λ e. absurd (not-suc-le-zero (let z : n < 0 = omega (arith, f.0) in z));
        kept = λ l. (t, refl, refl);
      }

  pub settled-full : Finds keys n key None → limit ≤ n → KeyTables heads links keys n → Settled limit every n key keys flags heads links keys flags n
  settled-full f h t =
      record {
        within = omega arith;
        found = λ l. absurd (not-suc-le-zero (let z : n < 0 = omega arith in z));
        absent = λ r. f;
        added = λ r l. absurd (not-suc-le-zero (let z : n < 0 = omega arith in z));
        kept = λ l. (t, refl, refl);
      }

  pub settled-new : Finds keys n key None → n < limit → {keys' : List ℕ} {v : ℕ} → KeyTables heads links keys' (n + 1) → Inserts keys keys' n key → v ≡ flag_of every key
      → Settled limit every n key keys flags heads links keys' (set flags n v) n
  settled-new f h {keys'} {v} t i g =
      record {
        within = omega arith;
        found = λ l. absurd (not-suc-le-zero (let z : n < 0 = omega arith in z));
        absent = λ r. f;
        added = λ r l. (t, i, ap (set flags n) g);
        kept = λ l. absurd (not-suc-le-zero (⊎_elim (λ x. let z : n < 0 = omega arith in z) (λ x. let z : n < 0 = omega arith in z) l));
      }

-- Equal keys have the same row.
pub settled-key : {limit every n : ℕ} {key key' keys flags heads' links' keys' flags' : List ℕ} {r : ℕ} → key ≡ key'
    → Settled limit every n key keys flags heads' links' keys' flags' r → Settled limit every n key' keys flags heads' links' keys' flags' r
settled-key {limit} {every} {n} {key} {key'} {keys} {flags} {heads'} {links'} {keys'} {flags'} {r} e h = subst (λ k. Settled limit every n k keys flags heads' links' keys' flags' r) e h

-- The rows before row n keep their keys.
pub settled-row : {limit every n : ℕ} {key keys flags heads' links' keys' flags' : List ℕ} {r : ℕ} → Settled limit every n key keys flags heads' links' keys' flags' r
    → (i : ℕ) → i < n → row_at keys' i ≡ row_at keys i
settled-row {limit} {every} {n} {key} {keys} {flags} {heads'} {links'} {keys'} {flags'} {r} t i h = by (dec_lt r n) (dec_lt n limit)
  where
    by : Dec (r < n) → Dec (n < limit) → row_at keys' i ≡ row_at keys i
    by (yes a) b = ap (λ k. row_at k i) (t.kept (inl a)).1
    by (no a) (yes b) = (t.added (omega (arith, t.within)) b).1.old i h
    by (no a) (no b) = ap (λ k. row_at k i) (t.kept (inr (omega arith))).1

-- ---- what stands behind the present place

pub kept_refl : (entries flags : List ℕ) (at n : ℕ) → Kept entries flags at n entries flags at n
kept_refl entries flags at n = record { at_le = omega arith; n_le = omega arith; entries_same = λ i h. refl; flags_same = λ i h. refl }

pub kept_trans : {entries₀ flags₀ entries flags entries' flags' : List ℕ} {at₀ n₀ at n at' n' : ℕ} → Kept entries₀ flags₀ at₀ n₀ entries flags at n → Kept entries flags at n entries' flags' at' n'
    → Kept entries₀ flags₀ at₀ n₀ entries' flags' at' n'
kept_trans x y =
    record {
      at_le = omega (arith, x.at_le, y.at_le);
      n_le = omega (arith, x.n_le, y.n_le);
      entries_same = λ i h. y.entries_same i h ∙ x.entries_same i (omega (arith, y.at_le));
      flags_same = λ i h. y.flags_same i h ∙ x.flags_same i (omega (arith, y.n_le));
    }

module _ {entries₀ flags₀ entries flags : List ℕ} {at₀ n₀ at n : ℕ} (v : ℕ) (k : Kept entries₀ flags₀ at₀ n₀ entries flags at n) where
  stored-behind : (i : ℕ) → at + 1 ≤ i → get_or (set entries at v) i 0 ≡ get_or entries₀ i 0
  stored-behind i h = get_or-set_other entries at i v 0 (omega arith) ∙ k.entries_same i (omega arith)

  -- An entry is stored, and no row is added.
  kept-stored : {flags' : List ℕ} → flags' ≡ flags → Kept entries₀ flags₀ at₀ n₀ (set entries at v) flags' (at + 1) n
  kept-stored e = record { at_le = omega (arith, k.at_le); n_le = k.n_le; entries_same = stored-behind; flags_same = λ i h. ap (λ l. get_or l i 0) e ∙ k.flags_same i h }

  -- An entry is stored, and a row is added with its flag.
  kept-added : {flags' : List ℕ} (flag : ℕ) → flags' ≡ set flags n flag → Kept entries₀ flags₀ at₀ n₀ (set entries at v) flags' (at + 1) (n + 1)
  kept-added flag e =
      record {
        at_le = omega (arith, k.at_le);
        n_le = omega (arith, k.n_le);
        entries_same = stored-behind;
        flags_same = λ i h. ap (λ l. get_or l i 0) e ∙ get_or-set_other flags n i flag 0 (omega arith) ∙ k.flags_same i (omega arith);
      }

-- The search is over at the end of the last row.
pub kept-end : {entries₀ flags₀ entries flags : List ℕ} {at₀ n₀ at n s letters : ℕ} → s ≤ n → n ≤ s → at ≡ s * letters + 0 → length entries ≡ length entries₀ → length flags ≡ length flags₀
    → Kept entries₀ flags₀ at₀ n₀ entries flags at n → KeptBehind letters n entries₀ flags₀ entries flags
kept-end {n = n} {s} {letters} a b here el fl k =
    let same : s ≡ n = omega arith in
    let rows : s * letters ≡ n * letters = ap (λ x. x * letters) same in
    record { entries_long = el; flags_long = fl; entries_same = λ i h. k.entries_same i (omega arith); flags_same = k.flags_same }

-- ---- the search

-- a new row in the tables
added-row : (K : Store) (letters every : ℕ) {keys keys' flags' : List ℕ} {n : ℕ} {key : List ℕ} (flags : List ℕ) → n < length flags → Inserts keys keys' n key → flags' ≡ set flags n (flag_of every key)
    → IsAdded (key_system K letters every) (row_at keys) (row_at keys') (final_at flags) (final_at flags') n key
added-row K letters every {n = n} {key} flags room i e =
    record {
      new = i.new;
      new_byte = ap (λ f. get_or f n 0) e ∙ get_or-set_same flags n (flag_of every key) 0 room;
      old = i.old;
      old_byte = λ j h. ap (λ f. get_or f j 0) e ∙ get_or-set_other flags n j (flag_of every key) 0 (omega arith);
    }

module _ (K : Store) (letters limit every : ℕ) where
  -- Every reached key is a key.
  start-key : IsKey K start_key
  start-key = record { long = refl; letters = λ p h. absurd (not-suc-le-zero (let z : p < 0 = omega arith in z)) }

  pub letter-values : letters * K.streams + stream_bound ≤ length K.letter_values → (a : ℕ) → a < letters → HasValues K a
  letter-values h a l = record { inside = omega (arith, row_fits a letters K.streams (letters * K.streams) l (omega arith)) }

  pub reach-key : K.width ≤ window_bound → letters * K.streams + stream_bound ≤ length K.letter_values → {key : List ℕ} → Reach (key_system K letters every) key → IsKey K key
  reach-key room h start = start-key
  reach-key room h (step {x = key} a l r e) = key_after-key K key a (reach-key room h r) room (letter-values h a l)

  abbrev S : System
  S = key_system K letters every

  -- A row is done.
  pub turn_row : {keys entries flags heads links : List ℕ} {n s a at : ℕ} → letters ≤ a → a ≤ letters → Turn K letters limit every keys entries flags heads links n s a at → Turn K letters limit every keys entries flags heads links n (s + 1) 0 at
  turn_row {s = s} h k t = record { tables = t.tables; here = omega (arith, t.here, one_more s letters); turn = Laws.turn_row S t.turn h }

  pub turn-begin : {keys entries flags heads links : List ℕ} → 0 < limit → KeyTables heads links keys 1 → Known K letters every keys flags 1 → Turn K letters limit every keys entries flags heads links 1 0 0 0
  turn-begin space t k = record { tables = t; here = omega arith; turn = turn_start S space k.known }

  -- The search is over.
  pub turn_end : {keys entries flags heads links : List ℕ} {n s at : ℕ} → n ≤ s → Turn K letters limit every keys entries flags heads links n s 0 at → Searched K letters limit every keys entries flags false n
  turn_end h t = record { searched = Laws.turn_end S t.turn h }

  -- What following one letter makes of the search.
  module _ {keys entries flags heads links : List ℕ} {n s a at : ℕ} (t : Turn K letters limit every keys entries flags heads links n s a at) (in_rows : s < n) (letter : a < letters) (room : at < length entries)
      (few : limit ≤ 4096) (flags_room : limit ≤ length flags) (r : ℕ) {keys' flags' heads' links' : List ℕ} (f : LetterFollowed K limit every n s a keys flags heads' links' keys' flags' r) where
    pub follow_fits : r < 65536
    follow_fits = ⊎_elim (λ x. omega (arith, x.0)) (λ x. omega (arith, x.1.within, t.turn.within)) f

    put : IsPut letters (entry_at letters entries) (entry_at letters (set entries at r)) s a r
    put = subst (λ i. IsPut letters (entry_at letters entries) (entry_at letters (set entries i r)) s a r) (sym t.here) (put-set letters entries s a r (omega (arith, t.here)))

    -- The tables stay, and the entry names an old row or none.
    pub follow_old : (r ≡ n → ⊥) → Turn K letters limit every keys' (set entries at r) flags' heads' links' n s (a + 1) (at + 1)
    follow_old other =
        ⊎_elim (λ x. moved x.2 x.3 x.4 (no_row x.0 x.1))
        (λ x.
        let l : r < n = omega (arith, x.1.within) in
        let k = x.1.kept (inl l) in
        moved k.0 k.1 k.2 (row l x.0 (x.1.found l))) f
      where
        moved : KeyTables heads' links' keys' n → keys' ≡ keys → flags' ≡ flags → IsRow S (row_at keys) n (row_at keys s) a r → Turn K letters limit every keys' (set entries at r) flags' heads' links' n s (a + 1) (at + 1)
        moved tables ek ef is =
            record {
              tables = tables;
              here = omega (arith, t.here);
              turn = subst (λ k. Reachable.SearchTurn S limit (row_at k) (entry_at letters (set entries at r)) (final_at flags') n s (a + 1)) (sym ek)
                  (subst (λ y. Reachable.SearchTurn S limit (row_at keys) (entry_at letters (set entries at r)) (final_at y) n s (a + 1)) (sym ef) (turn_old S t.turn in_rows letter put is));
            }

    pub kept-old : {entries₀ flags₀ : List ℕ} {at₀ n₀ : ℕ} → (r ≡ n → ⊥) → Kept entries₀ flags₀ at₀ n₀ entries flags at n → Kept entries₀ flags₀ at₀ n₀ (set entries at r) flags' (at + 1) n
    kept-old other k = kept-stored r k (⊎_elim (λ x. x.4) (λ x. (x.1.kept (inl (omega (arith, x.1.within)))).2) f)

    none-bound : r ≡ no_state → r ≡ n → ⊥
    none-bound e h = not-suc-le-zero (let z : n < 0 = omega (arith, t.turn.within) in z)

    -- A new row is added, and the entry names it.
    pub follow_new : r ≡ n → (n ≡ limit → ⊥) → Turn K letters limit every keys' (set entries at r) flags' heads' links' (n + 1) s (a + 1) (at + 1)
    follow_new e h =
        ⊎_elim (λ x. absurd (none-bound x.0 e))
        (λ x.
        let space : n < limit = omega (arith, t.turn.within) in
        let d = x.1.added e space in
        record {
          tables = d.0;
          here = omega (arith, t.here);
          turn = turn_new S t.turn in_rows letter x.0 (x.1.absent e) space (added-row K letters every flags (omega arith) d.1 d.2)
              (subst (IsPut letters (entry_at letters entries) (entry_at letters (set entries at r)) s a) e put);
        }) f

    pub kept_new : {entries₀ flags₀ : List ℕ} {at₀ n₀ : ℕ} → r ≡ n → (n ≡ limit → ⊥) → Kept entries₀ flags₀ at₀ n₀ entries flags at n → Kept entries₀ flags₀ at₀ n₀ (set entries at r) flags' (at + 1) (n + 1)
    kept_new e h k =
        kept-added r k (flag_of every (key_after K (row_at keys s) a))
        (⊎_elim (λ x. absurd (none-bound x.0 e)) (λ x. (x.1.added e (let space : n < limit = omega (arith, t.turn.within) in space)).2) f)

    -- There is no room for a new row.
    pub follow_full : r ≡ n → n ≡ limit → Searched K letters limit every keys' entries flags' true limit
    follow_full e h =
        subst (λ m. Searched K letters limit every keys' entries flags' true m) h
        (⊎_elim (λ x. absurd (none-bound x.0 e))
        (λ x.
        let k = x.1.kept (inr (omega arith)) in
        subst (λ z. Searched K letters limit every z entries flags' true n) (sym k.1)
        (subst (λ y. Searched K letters limit every keys entries y true n) (sym k.2) (record { searched = turn-full S t.turn in_rows letter x.0 (x.1.absent e) h }))) f)

-- ---- the sizes of the tables

pub record SameSizes (keys₀ heads₀ links₀ entries₀ flags₀ keys heads links entries flags : List ℕ) : Type 0 where
  pub keys_long : length keys ≡ length keys₀
  pub heads_long : length heads ≡ length heads₀
  pub links_long : length links ≡ length links₀
  pub entries_long : length entries ≡ length entries₀
  pub flags_long : length flags ≡ length flags₀

pub sizes_trans : {keys₀ heads₀ links₀ entries₀ flags₀ keys heads links entries flags keys' heads' links' entries' flags' : List ℕ}
    → SameSizes keys₀ heads₀ links₀ entries₀ flags₀ keys heads links entries flags → SameSizes keys heads links entries flags keys' heads' links' entries' flags'
    → SameSizes keys₀ heads₀ links₀ entries₀ flags₀ keys' heads' links' entries' flags'
sizes_trans x y =
    record {
      keys_long = y.keys_long ∙ x.keys_long;
      heads_long = y.heads_long ∙ x.heads_long;
      links_long = y.links_long ∙ x.links_long;
      entries_long = y.entries_long ∙ x.entries_long;
      flags_long = y.flags_long ∙ x.flags_long;
    }

pub sizes_refl : {keys heads links entries flags : List ℕ} → SameSizes keys heads links entries flags keys heads links entries flags
sizes_refl = record { keys_long = refl; heads_long = refl; links_long = refl; entries_long = refl; flags_long = refl }

pub sizes-stored : {keys₀ heads₀ links₀ entries₀ flags₀ keys heads links entries flags : List ℕ} (at v : ℕ) → SameSizes keys₀ heads₀ links₀ entries₀ flags₀ keys heads links entries flags
    → SameSizes keys₀ heads₀ links₀ entries₀ flags₀ keys heads links (set entries at v) flags
sizes-stored {entries = entries} at v x =
    record {
      keys_long = x.keys_long;
      heads_long = x.heads_long;
      links_long = x.links_long;
      entries_long = length-set entries at v ∙ x.entries_long;
      flags_long = x.flags_long;
    }

pub sizes-lent : {K : Store} {letters limit : ℕ} {keys₀ heads₀ links₀ entries₀ flags₀ keys heads links entries flags : List ℕ} → SameSizes keys₀ heads₀ links₀ entries₀ flags₀ keys heads links entries flags
    → IsLent K letters limit keys₀ heads₀ links₀ entries₀ flags₀ → IsLent K letters limit keys heads links entries flags
sizes-lent z l =
    record {
      few_letters = l.few_letters;
      values = l.values;
      some_row = l.some_row;
      few_rows = l.few_rows;
      keys_room = omega (arith, l.keys_room, z.keys_long);
      heads_room = omega (arith, l.heads_room, z.heads_long);
      links_room = omega (arith, l.links_room, z.links_long);
      entries_room = omega (arith, l.entries_room, z.entries_long);
      flags_room = omega (arith, l.flags_room, z.flags_long);
    }

pub searched-every : (K : Store) (letters limit : ℕ) {every every' : ℕ} (entries₀ flags₀ keys entries flags : List ℕ) (r : Option ℕ) → every ≡ every'
    → SearchFinds K letters limit every entries₀ flags₀ keys entries flags r → SearchFinds K letters limit every' entries₀ flags₀ keys entries flags r
searched-every K letters limit entries₀ flags₀ keys entries flags r e h = subst (λ m. SearchFinds K letters limit m entries₀ flags₀ keys entries flags r) e h

-- The tables after the empty record's row is added.
pub settled-start : {K : Store} {letters limit every : ℕ} {keys flags heads' links' keys' flags' : List ℕ} {r : ℕ} → 0 < limit → limit ≤ length flags
    → Settled limit every 0 start_key keys flags heads' links' keys' flags' r → KeyTables heads' links' keys' 1 × Known K letters every keys' flags' 1
settled-start {K} {letters} {limit} {every} {keys} {flags} {heads'} {links'} {keys'} {flags'} {r} space room s =
    let d = s.added (omega (arith, s.within)) space in
    (d.0, record { known = known_start (key_system K letters every) d.1.new (ap (λ f. get_or f 0 0) d.2 ∙ get_or-set_same flags 0 (flag_of every start_key) 0 (omega arith)) })

-- What stands behind the rows is as it was before the empty record's row was added.
pub settled-behind : {limit every letters n : ℕ} {keys flags heads' links' keys' flags' entries entries'' flags'' : List ℕ} {r : ℕ} → 0 < limit → 0 < n → length flags' ≡ length flags
    → Settled limit every 0 start_key keys flags heads' links' keys' flags' r → KeptBehind letters n entries flags' entries'' flags'' → KeptBehind letters n entries flags entries'' flags''
settled-behind {every = every} {flags = flags} space some same s k =
    let d = s.added (omega (arith, s.within)) space in
    record {
      entries_long = k.entries_long;
      flags_long = k.flags_long ∙ same;
      entries_same = k.entries_same;
      flags_same = λ i h. k.flags_same i h ∙ ap (λ l. get_or l i 0) d.2 ∙ get_or-set_other flags 0 i (flag_of every start_key) 0 (omega arith);
    }

-- The search's answer, over the tables before the empty record's row was added.
pub settled-search : (K : Store) (letters : ℕ) {limit every : ℕ} (entries₀ keys entries flags : List ℕ) {keys₀ flags₀ heads' links' keys' flags' : List ℕ} {row : ℕ} (r : Option ℕ) → 0 < limit → length flags' ≡ length flags₀
    → Settled limit every 0 start_key keys₀ flags₀ heads' links' keys' flags' row → SearchFinds K letters limit every entries₀ flags' keys entries flags r → SearchFinds K letters limit every entries₀ flags₀ keys entries flags r
settled-search K letters entries₀ keys entries flags (Some n) space same s z = (z.0, settled-behind space z.0.searched.known.some_row same s z.1)
settled-search K letters entries₀ keys entries flags None space same s z = z
