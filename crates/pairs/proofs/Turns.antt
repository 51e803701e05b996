-- Where the search of the pairs stands, and what one more entry and one more row make of it. From the laws of the search for any keys.
use Prim.Native.Nat.{ℕ, ◌+◌, ◌*◌, ◌/◌, ◌%◌, ◌≤◌, ◌<◌}
use native.Mathlib.Omega.{arith}
use native.Mathlib.Nat.{not-suc-le-zero, le_trans, mul-le-mul_right, zero-mul}
use native.Mathlib.Decide.{dec_lt}
use mathlib.Core.Path.{◌≡◌, refl, sym, ◌∙◌, ap, subst}
use mathlib.Core.Bool.{true, false}
use mathlib.Core.Logic.{inl, inr, ◌≢◌}
use mathlib.Core.List.{List}
use lib.ListN.{length, set}
use lib.Seq.{get_or-set_same, get_or-set_other}
use Rattle.std.specs.Prelude.{Option, Some, None}
use Rattle.basics.specs.Lists.{at}
use Rattle.basics.specs.Clearing.{ClearedFrom}
use Rattle.basics.proofs.Clearing.{all-zero}
use Rattle.basics.proofs.Lists.{row_fits}
use Rattle.automaton.specs.Table.{no_state, Before, FirstMet}
use Rattle.automaton.specs.Stored.{entry_at}
use Rattle.automaton.specs.WellFormed.{most_rows}
use Rattle.automaton.specs.Numbering.{IsPut}
use Rattle.automaton.specs.Reachable.{System, Reach, Reach.start, Reach.step, byte_of, IsRow, IsRow.no_row, IsRow.row, IsAdded, SearchTurn, SearchedKeys}
use Rattle.automaton.specs.Join.{TwoTables}
use Rattle.automaton.specs.PairSearch.{pair_system}
use Rattle.automaton.proofs.Places.{put-set}
use Rattle.automaton.proofs.Reachable as Laws
use Rattle.automaton.proofs.Reachable.{known_start, turn_start, turn_old, turn_new, turn-full}
use Rattle.pairs.specs.Rows.{key_of_entries, ChainedKeys, KeySettled, KeyFollowed, no_pair, pair, tables_over, entries_over, MorePairs, search_over, bytes_of, PairTurn, RowSearched, row_done, row_full, RowsSearched, rows_done, rows_full, HasFlags}
use Rattle.pairs.specs.Found.{PairTables, PairWorkZero, RowsFilled, filled, unfilled, PairsOutcome, found, none}
use Rattle.pairs.proofs.Keys.{key-none, key-some}

module _ (left_entries right_entries left_cuts right_cuts : List ℕ) (left_letters right_letters letters limit : ℕ) where
  abbrev S : System
  S = search_over left_entries right_entries left_cuts right_cuts left_letters right_letters letters

  abbrev Turn : (keys entries heads links : List ℕ) (n s a : ℕ) → Type 0
  Turn = PairTurn left_entries right_entries left_cuts right_cuts left_letters right_letters letters limit

  -- The pair of both starts is the first row.
  pub turn-begin : {keys keys' entries heads' links' : List ℕ} {r : ℕ} → 0 < limit → limit ≤ length keys → KeySettled limit 0 0 keys heads' links' keys' r → (r + 1 ≡ 1) × Turn keys' entries heads' links' 1 0 0
  turn-begin {keys} {keys'} space room k =
      let d = k.added (omega (arith, k.within)) space in
      let first : at keys' 0 ≡ 0 = ap (λ l. at l 0) d.1 ∙ get_or-set_same keys 0 0 0 (omega arith) in
      (omega (arith, k.within), record { tables = d.0; turn = turn_start S space (known_start S first (ap (byte_of S) first)) })

  -- A row is done, and all rows.
  pub turn_row : {keys entries heads links : List ℕ} {n s a : ℕ} → letters ≤ a → Turn keys entries heads links n s a → Turn keys entries heads links n (s + 1) 0
  turn_row h t = record { tables = t.tables; turn = Laws.turn_row S t.turn h }

  pub turn_end : {keys entries heads links : List ℕ} {n s : ℕ} → n ≤ s → Turn keys entries heads links n s 0 → SearchedKeys S limit (at keys) (entry_at letters entries) (bytes_of S (at keys)) false n
  turn_end h t = Laws.turn_end S t.turn h

  -- What a searched row says by its answer.
  pub row-turn : {s : ℕ} {keys entries heads links : List ℕ} {r : ℕ} → RowSearched left_entries right_entries left_cuts right_cuts left_letters right_letters letters limit s keys entries heads links (Some r)
      → Turn keys entries heads links r (s + 1) 0
  row-turn (row_done h t) = t

  pub row-over : {s : ℕ} {keys entries heads links : List ℕ} → RowSearched left_entries right_entries left_cuts right_cuts left_letters right_letters letters limit s keys entries heads links None
      → RowsSearched left_entries right_entries left_cuts right_cuts left_letters right_letters letters limit keys entries None
  row-over (row_full m) = rows_full m

  -- What following one letter makes of the search.
  module _ {keys entries heads links : List ℕ} {n s a : ℕ} (t : Turn keys entries heads links n s a) (in_rows : s < n) (letter : a < letters) (room : s * letters + a < length entries)
      (few : limit ≤ most_rows) (keys_room : limit ≤ length keys) (r : ℕ) (key : Option ℕ) {keys' heads' links' : List ℕ}
      (is : key ≡ key_of_entries (at left_entries (at keys s / most_rows * left_letters + at left_cuts a)) (at right_entries (at keys s % most_rows * right_letters + at right_cuts a)))
      (f : KeyFollowed limit n key keys heads' links' keys' r) where
    abbrev p : ℕ
    p = at left_entries (at keys s / most_rows * left_letters + at left_cuts a)

    abbrev q : ℕ
    q = at right_entries (at keys s % most_rows * right_letters + at right_cuts a)

    pub follow_fits : r < 65536
    follow_fits = by f
      where
        by : KeyFollowed limit n key keys heads' links' keys' r → r < 65536
        by (no_pair e o c k) = omega (arith, e)
        by (pair e k) = omega (arith, k.within, t.turn.within)

    put : IsPut letters (entry_at letters entries) (entry_at letters (set entries (s * letters + a) r)) s a r
    put = put-set letters entries s a r room

    -- the key is that of the successor, or there is none
    no_successor : key ≡ None → S.ok (at keys s) a ≡ false
    no_successor e = key-none p q (sym is ∙ e)

    goes : {k : ℕ} → key ≡ Some k → S.ok (at keys s) a ≡ true
    goes e = (key-some p q (sym is ∙ e)).0

    after : {k : ℕ} → key ≡ Some k → k ≡ S.after (at keys s) a
    after e = (key-some p q (sym is ∙ e)).1

    -- The keys stay, and the entry names an old row or none.
    moved : ChainedKeys heads' links' keys' n → keys' ≡ keys → IsRow S (at keys) n (at keys s) a r → Turn keys' (set entries (s * letters + a) r) heads' links' n s (a + 1)
    moved c e row_is =
        record {
          tables = c;
          turn = subst (λ k. SearchTurn S limit (at k) (entry_at letters (set entries (s * letters + a) r)) (bytes_of S (at k)) n s (a + 1)) (sym e) (turn_old S t.turn in_rows letter put row_is);
        }

    pub follow_old : (r ≡ n → ⊥) → Turn keys' (set entries (s * letters + a) r) heads' links' n s (a + 1)
    follow_old other = by f
      where
        by : KeyFollowed limit n key keys heads' links' keys' r → Turn keys' (set entries (s * letters + a) r) heads' links' n s (a + 1)
        by (no_pair e o c k) = moved c k (no_row e (no_successor o))
        by (pair ne k) =
            let l : r < n = omega (arith, k.within) in
            let same = k.kept (inl l) in
            moved same.0 same.1 (row l (goes ne) (k.found l ∙ after ne))

    none-bound : r ≡ no_state → r ≡ n → ⊥
    none-bound e h = not-suc-le-zero (let z : n < 0 = omega (arith, t.turn.within) in z)

    -- A new row is added, and the entry names it.
    pub follow_new : r ≡ n → (n ≡ limit → ⊥) → Turn keys' (set entries (s * letters + a) r) heads' links' (n + 1) s (a + 1)
    follow_new e h = by f
      where
        by : KeyFollowed limit n key keys heads' links' keys' r → Turn keys' (set entries (s * letters + a) r) heads' links' (n + 1) s (a + 1)
        by (no_pair z o c k) = absurd (none-bound z e)
        by (pair ne k) =
            let space : n < limit = omega (arith, t.turn.within) in
            let d = k.added e space in
            let new = ap (λ l. at l n) d.1 ∙ get_or-set_same keys n _ 0 (omega arith) in
            let old : (i : ℕ) → i < n → at keys' i ≡ at keys i = λ i l. ap (λ x. at x i) d.1 ∙ get_or-set_other keys n i _ 0 (omega arith) in
            let add : IsAdded S (at keys) (at keys') (bytes_of S (at keys)) (bytes_of S (at keys')) n (S.after (at keys s) a) =
            record { new = new ∙ after ne; new_byte = ap (byte_of S) (new ∙ after ne); old = old; old_byte = λ i l. ap (byte_of S) (old i l) } in
            record {
              tables = d.0;
              turn = turn_new S t.turn in_rows letter (goes ne) (λ i l w. k.absent e i l (w ∙ sym (after ne))) space add
                  (subst (IsPut letters (entry_at letters entries) (entry_at letters (set entries (s * letters + a) r)) s a) e put);
            }

    -- There is no room for a new row.
    pub follow_full : r ≡ n → n ≡ limit → MorePairs (entries_over left_entries right_entries left_cuts right_cuts left_letters right_letters letters) limit
    follow_full e h = by f
      where
        by : KeyFollowed limit n key keys heads' links' keys' r → MorePairs (entries_over left_entries right_entries left_cuts right_cuts left_letters right_letters letters) limit
        by (no_pair z o c k) = absurd (none-bound z e)
        by (pair ne k) = record { key = at keys; entry = entry_at letters entries; byte = bytes_of S (at keys); count = n; searched = turn-full S t.turn in_rows letter (goes ne) (λ i l w. k.absent e i l (w ∙ sym (after ne))) h }

-- The rows before row n keep their keys.
pub followed-row : {limit n : ℕ} {key : Option ℕ} {keys heads' links' keys' : List ℕ} {r : ℕ} → KeyFollowed limit n key keys heads' links' keys' r → (i : ℕ) → i < n → at keys' i ≡ at keys i
followed-row (no_pair e o c k) i h = ap (λ l. at l i) k
followed-row {limit} {n} {keys = keys} {keys' = keys'} {r = r} (pair e k) i h = by (dec_lt r n) (dec_lt n limit)
  where
    by : Dec (r < n) → Dec (n < limit) → at keys' i ≡ at keys i
    by (yes a) b = ap (λ l. at l i) (k.kept (inl a)).1
    by (no a) (yes b) = ap (λ l. at l i) (k.added (omega (arith, k.within)) b).1 ∙ get_or-set_other keys n i _ 0 (omega arith)
    by (no a) (no b) = ap (λ l. at l i) (k.kept (inr (omega arith))).1

-- ---- the lengths of the tables

pub record SameLengths (keys₀ heads₀ links₀ entries₀ keys heads links entries : List ℕ) : Type 0 where
  pub keys_long : length keys ≡ length keys₀
  pub heads_long : length heads ≡ length heads₀
  pub links_long : length links ≡ length links₀
  pub entries_long : length entries ≡ length entries₀

pub lengths_refl : {keys heads links entries : List ℕ} → SameLengths keys heads links entries keys heads links entries
lengths_refl = record { keys_long = refl; heads_long = refl; links_long = refl; entries_long = refl }

pub lengths_trans : {keys₀ heads₀ links₀ entries₀ keys heads links entries keys' heads' links' entries' : List ℕ} → SameLengths keys₀ heads₀ links₀ entries₀ keys heads links entries
    → SameLengths keys heads links entries keys' heads' links' entries' → SameLengths keys₀ heads₀ links₀ entries₀ keys' heads' links' entries'
lengths_trans x y =
    record {
      keys_long = y.keys_long ∙ x.keys_long;
      heads_long = y.heads_long ∙ x.heads_long;
      links_long = y.links_long ∙ x.links_long;
      entries_long = y.entries_long ∙ x.entries_long;
    }

-- ---- what stands behind the rows plays no part

pub rows_same : {S : System} {limit n : ℕ} {key : ℕ → S.Key} {entry entry' : ℕ → ℕ → ℕ} {byte byte' : ℕ → ℕ} → SearchedKeys S limit key entry byte false n
    → ((i a : ℕ) → i < n → a < S.letters → entry' i a ≡ entry i a) → ((i : ℕ) → i < n → byte' i ≡ byte i) → SearchedKeys S limit key entry' byte' false n
rows_same {S} {n = n} {key} {entry} {entry'} z same bytes =
    record {
      known = record { some_row = z.known.some_row; first = z.known.first; distinct = z.known.distinct; reached = z.known.reached; flagged = λ i h. bytes i h ∙ z.known.flagged i h };
      within = z.within;
      first_met = λ j h k. met j k (z.first_met j h k);
      outcome = λ i a h l. subst (IsRow S key n (key i) a) (sym (same i a h l)) (z.outcome i a h l);
    }
  where
    inside : {i a s b : ℕ} → Before i a s b → s < n → i < n
    inside (inl h) k = omega arith
    inside (inr p) k = omega (arith, p.0)

    met : (j : ℕ) → j < n → FirstMet S.letters entry j → FirstMet S.letters entry' j
    met j h m =
        let s : m.state < n = omega (arith, m.earlier_state) in
        record {
          state = m.state;
          letter = m.letter;
          earlier_state = m.earlier_state;
          is_letter = m.is_letter;
          holds = same m.state m.letter s m.is_letter ∙ m.holds;
          before = λ i a l b. subst (λ v. v ≢ no_state → v < j) (sym (same i a (inside b s) l)) (m.before i a l b);
        }

-- ---- final bytes play no part in what is reached

module _ (left_entries left_finals right_entries right_finals left_cuts right_cuts : List ℕ) (left_letters right_letters letters : ℕ) where
  abbrev S₀ : System
  S₀ = search_over left_entries right_entries left_cuts right_cuts left_letters right_letters letters

  abbrev Whole : System
  Whole = pair_system (tables_over left_entries left_finals right_entries right_finals left_cuts right_cuts left_letters right_letters letters) most_rows

  pub reach-whole : {x : ℕ} → Reach S₀ x → Reach Whole x
  reach-whole start = start
  reach-whole (step {x} a l h e) = step a l (reach-whole h) e

  row-whole : {key : ℕ → ℕ} {n x a v : ℕ} → IsRow S₀ key n x a v → IsRow Whole key n x a v
  row-whole (no_row e f) = no_row e f
  row-whole (row h f e) = row h f e

  -- The rows found are those of the whole search where the bytes are those of the keys.
  pub searched-whole : {limit n : ℕ} {key : ℕ → ℕ} {entry : ℕ → ℕ → ℕ} {bytes byte : ℕ → ℕ} → SearchedKeys S₀ limit key entry bytes false n → ((i : ℕ) → i < n → byte i ≡ byte_of Whole (key i))
      → SearchedKeys Whole limit key entry byte false n
  searched-whole z b =
      record {
        known = record { some_row = z.known.some_row; first = z.known.first; distinct = z.known.distinct; reached = λ i h. reach-whole (z.known.reached i h); flagged = b };
        within = z.within;
        first_met = z.first_met;
        outcome = λ i a h l. row-whole (z.outcome i a h l);
      }

  pub more-whole : {limit : ℕ} → MorePairs (entries_over left_entries right_entries left_cuts right_cuts left_letters right_letters letters) limit
      → MorePairs (tables_over left_entries left_finals right_entries right_finals left_cuts right_cuts left_letters right_letters letters) limit
  more-whole m =
      let z = m.searched in
      record {
        key = m.key;
        entry = m.entry;
        byte = bytes_of Whole m.key;
        count = m.count;
        searched =
            record {
              known = record { some_row = z.known.some_row; first = z.known.first; distinct = z.known.distinct; reached = λ i h. reach-whole (z.known.reached i h); flagged = λ i h. refl };
              within = z.within;
              first_met = z.first_met;
              outcome = record { full = z.outcome.full; other = z.outcome.other; reached = reach-whole z.outcome.reached; new = z.outcome.new };
            };
      }

  -- What was explored, with the flags of its rows, fills the rows.
  pub searched-fills : {left_cut_count right_cut_count limit n : ℕ} {before : PairTables} {keys entries flags : List ℕ} → limit * letters ≤ length before.entries
      → RowsSearched left_entries right_entries left_cuts right_cuts left_letters right_letters letters limit keys entries (Some n) → HasFlags left_finals right_finals keys n flags
      → RowsFilled left_cut_count right_cut_count (tables_over left_entries left_finals right_entries right_finals left_cuts right_cuts left_letters right_letters letters) left_letters right_letters limit before entries flags n
  searched-fills {keys = keys} room (rows_done {r} h z) f = filled (at keys) (le_trans (mul-le-mul_right letters h) room) (searched-whole z f.each)

  pub searched-unfilled : {left_cut_count right_cut_count limit : ℕ} {before : PairTables} {keys entries searched flags : List ℕ}
      → RowsSearched left_entries right_entries left_cuts right_cuts left_letters right_letters letters limit keys searched None
      → RowsFilled left_cut_count right_cut_count (tables_over left_entries left_finals right_entries right_finals left_cuts right_cuts left_letters right_letters letters) left_letters right_letters limit before entries flags 0
  searched-unfilled (rows_full m) = unfilled (λ x. more-whole m)

-- ---- what is left when everything behind the rows is cleared

module _ {left_cut_count right_cut_count : ℕ} {T : TwoTables} {left_letters right_letters limit : ℕ} {before : PairTables} {entries flags : List ℕ} where
  pub filled-small : {n : ℕ} → RowsFilled left_cut_count right_cut_count T left_letters right_letters limit before entries flags n → n * T.letters ≤ length before.entries
  filled-small (filled key room z) = room
  filled-small (unfilled m) = omega (arith, zero-mul T.letters)

  pub filled-outcome : {n : ℕ} {after : PairTables} → length entries ≡ length before.entries → length flags ≡ length before.flags → RowsFilled left_cut_count right_cut_count T left_letters right_letters limit before entries flags n
      → ClearedFrom entries after.entries (n * T.letters) → ClearedFrom flags after.flags n → PairWorkZero before after → PairsOutcome left_cut_count right_cut_count T left_letters right_letters limit before after n
  filled-outcome {n} {after} el fl (filled key room z) ce cf w =
      found
      (record {
        key = key;
        rows = rows_same z (λ i a h l. ce.below (i * T.letters + a) (inside i a h l)) (λ i h. cf.below i h);
        entries_long = ce.same ∙ el;
        flags_long = cf.same ∙ fl;
        entries_beyond = ce.beyond;
        flags_beyond = cf.beyond;
      }) w
    where
      inside : (i a : ℕ) → i < n → a < T.letters → i * T.letters + a < n * T.letters
      inside i a h l = omega (arith, row_fits i n T.letters (n * T.letters) h (omega arith))
  filled-outcome {after = after} el fl (unfilled m) ce cf w =
      none m (all-zero after.entries _ (ce.same ∙ el) (λ i. ce.beyond i (omega (arith, zero-mul T.letters)))) (all-zero after.flags _ (cf.same ∙ fl) (λ i. cf.beyond i (omega arith))) w
