-- What the exploration of the stored form of an accepted sheet finds: its situations, or that there are more than the limit. Without rows
-- nothing is explored, and there is always one situation.
use Prim.Native.Nat.{ℕ, ◌+◌, ◌*◌, ◌≤◌, ◌<◌, min, zero-le}
use native.Mathlib.Omega.{arith}
use native.Mathlib.Nat.{le_refl}
use native.Mathlib.Decide.{dec_lt}
use mathlib.Core.Path.{◌≡◌, refl, sym, ◌∙◌, ap, subst}
use mathlib.Core.Bool.{Bool, true, false, cond}
use mathlib.Core.Logic.{inl, inr}
use mathlib.Core.List.{List, ◌++◌}
use lib.Dec.{leb}
use lib.IntN.{ℤ, pos}
use lib.ListN.{length, take, drop, length-append, replicate, length-drop, length-replicate}
use borrow.Author.Tests.{leb-true, le-leb, lt-leb}
use Rattle.basics.proofs.Tests.{true_of_T, T-of_true, and_right, cond_cases}
use Rattle.meaning.specs.Expression.{Stream, Sheet}
use Rattle.meaning.specs.Letter.{letter_count}
use Rattle.meaning.specs.Situation.{MoreSituations}
use Rattle.sheet.specs.Accepted.{Accepted}
use Rattle.sheet.specs.Refusal.{stream_bound, constraint_bound, letter_bound, first_bound, window_bound}
use Rattle.reader.specs.declared.StoredSheet.{StoredSheet}
use Rattle.reader.specs.Stored.{stored_sheet}
use Rattle.letters.specs.Described.{described, letters_below, has_room, with_letters}
use Rattle.letters.proofs.AllLetters.{below-long}
use Rattle.extend.specs.Step.{Store, store_of}
use Rattle.explore.specs.StoredSheet.{store_for as explored, IsStored}
use Rattle.std.specs.Prelude.{Result, Ok, Err}
use Rattle.std.specs.Result.{result_unwrap_or}
use Rattle.explore.specs.declared.Unexplored.{Unexplored}
use Rattle.explore.specs.declared.Unexplored.TheVariants.{NotReady, Full}
use Rattle.explore.specs.Exploration.{ExploreTables, IsExplorable, WorkZero, FindsOrNone, ExploresStored}
use Rattle.explore.proofs.SheetSizes.{accepted_explorable, letters-fit, has_letters, SheetExplored, stored-explored}
use Rattle.explore.proofs.Unique.{explored_unique}
use Rattle.outcome.proofs.NoRows.{some-situation}
use Rattle.situations.specs.Found.{SituationsFound, RoomFor, FindsSituations, Leaves, store_in, ExploredSheet, values_list}
use Rattle.situations.proofs.Stored.{sheet-letters, held-lows, held-highs, parts-of-sheet}

-- How many rows are found, or 0 where none are.
abbrev rows_of : Result ℕ Unexplored → ℕ
rows_of found = result_unwrap_or found 0

module _ (K : Store) (letters limit : ℕ) (before after : ExploreTables) where
  -- Without rows nothing is explored.
  no_rows : (found : Result ℕ Unexplored) → FindsOrNone K letters limit before after found → limit ≡ 0 → rows_of found ≡ 0
  no_rows (Ok count) x z = absurd (omega (arith, z, x.0.1.some_row))
  no_rows (Err e) x z = refl

  -- What is left in the tables: rows are found, no more than the limit allows, or every table is zero.
  exploration_leaves : (found : Result ℕ Unexplored) → WorkZero before after → FindsOrNone K letters limit before after found → Leaves letters limit before after (rows_of found)
  exploration_leaves (Ok count) w x =
      record {
        within = x.1.searched.searched.within;
        work_zero = w;
        graph_zero = λ z. absurd (omega (arith, z, x.1.searched.searched.known.some_row));
        behind = λ h. x.1.behind;
      }
  exploration_leaves (Err Full) w x = record { within = zero-le; work_zero = w; graph_zero = λ z. x.2; behind = λ h. absurd (omega arith) }
  exploration_leaves (Err NotReady) w x = record { within = zero-le; work_zero = w; graph_zero = λ z. x.1; behind = λ h. absurd (omega arith) }

-- As many values are in the list of the letters' values as were in it before.
module _ (streams : List Stream) (list : List ℤ) where
  abbrev end : ℕ
  end = letter_count streams * length streams

  long_if : (b : Bool) → has_room streams (length list) ≡ b → length (cond b (letters_below streams (letter_count streams) ++ drop end list) list) ≡ length list
  unfolding has_room
  long_if false e = refl
  long_if true e =
      let n = letter_count streams in
      let room = leb-true end (length list) (true_of_T _ (and_right (leb n letter_bound) (leb end (length list)) (T-of_true _ e))) in
      omega (arith, length-append (letters_below streams n) (drop end list), below-long streams n (le_refl n), length-drop end list)

  with_letters-long : length (with_letters streams list) ≡ length list
  unfolding with_letters
  with_letters-long = long_if (has_room streams (length list)) refl

module _ {s : Sheet} (accepted : Accepted s) {x : StoredSheet} (same : x ≡ stored_sheet s) (list : List ℤ) (long : x.letters * stream_bound + stream_bound ≤ length list) where
  abbrev streams : ℕ
  streams = min x.streams stream_bound

  abbrev letter_values : List ℤ
  letter_values = with_letters (described (take streams x.lows) (take streams x.highs)) list

  -- The list has room for the values of the letters, and for as many more as a letter can have.
  room_for_letters : letter_count s.streams * length s.streams + stream_bound ≤ length list
  room_for_letters = letters-fit s accepted (letter_count s.streams) (length list) (le_refl (letter_count s.streams)) (omega (arith, sheet-letters s same))

  is-stored : IsStored s (store_in x list)
  unfolding store_in
  is-stored =
      parts-of-sheet s same accepted refl refl refl refl refl letter_values
      (has_letters s accepted list (held-lows s same accepted refl refl refl refl refl) (held-highs s same accepted refl refl refl refl refl) (omega (arith, room_for_letters)) refl)

  module _ {limit : ℕ} {before after : ExploreTables} (found : Result ℕ Unexplored) (room : RoomFor limit (letter_count s.streams) before) (left : ExploresStored (store_in x list) x.letters limit before after found) where
    explorable : 0 < limit → IsExplorable (store_in x list) x.letters limit before
    unfolding store_in
    explorable some =
        let stored-part =
        accepted_explorable s accepted is-stored.behind letter_values limit before (omega (arith, with_letters-long (described (take streams x.lows) (take streams x.highs)) list, room_for_letters)) some room.few room.keys_fit room.heads_fit room.links_fit room.entries_fit room.finals_fit in
        subst (λ (y : Store). IsExplorable y x.letters limit before) (sym is-stored.same) (subst (λ l. IsExplorable (explored s is-stored.behind letter_values) l limit before) (sym (sheet-letters s same)) stored-part)

    -- The answer is the count, or 0 if there are more situations than the limit.
    exploration_found : SituationsFound s limit (rows_of found) after.entries after.flags
    exploration_found = by (dec_lt 0 limit)
      where
        outcome : (found : Result ℕ Unexplored) → SheetExplored s limit after.entries after.flags found → SituationsFound s limit (rows_of found) after.entries after.flags
        outcome (Ok count) rows = inr rows
        outcome (Err Full) more = inl (refl, more)
        outcome (Err NotReady) never = absurd never

        by : Dec (0 < limit) → SituationsFound s limit (rows_of found) after.entries after.flags
        by (yes h) = outcome found (stored-explored accepted is-stored found (sheet-letters s same) (explorable h) left)
        by (no h) = let z : limit ≡ 0 = omega arith in inl (no_rows _ _ _ _ _ found left.outcome z, subst (MoreSituations s) (sym z) (some-situation s))

-- ---- what `situations` gives

-- The parts that are handed to the exploration are the stored sheet as it is explored.
module _ (x : StoredSheet) (list : List ℤ) {constraint_count firsts streams ahead back : ℕ} (constraints_cut : constraint_count ≡ min x.constraints constraint_bound) (firsts_cut : firsts ≡ min x.firsts first_bound)
    (streams_cut : streams ≡ min x.streams stream_bound) (ahead_cut : ahead ≡ min x.ahead window_bound) (back_cut : back ≡ min x.back window_bound) {letter_values : List ℤ}
    (filled : letter_values ≡ with_letters (described (take streams x.lows) (take streams x.highs)) list) where
  abbrev parts : Store
  parts = store_of x.kinds x.values x.starts (take constraint_count x.relations) (take constraint_count x.lefts) (take constraint_count x.rights) (take firsts x.first_nodes) letter_values streams ahead (ahead + back)

  parts_is : parts ≡ store_in x list
  unfolding store_in
  parts_is =
      let values = filled ∙ (λ i. with_letters (described (take (streams_cut i) x.lows) (take (streams_cut i) x.highs)) list) in
      λ i. store_of x.kinds x.values x.starts (take (constraints_cut i) x.relations) (take (constraints_cut i) x.lefts) (take (constraints_cut i) x.rights) (take (firsts_cut i) x.first_nodes) (values i) (streams_cut i) (ahead_cut i) (ahead_cut i + back_cut i)

  pub parts-explored : {limit n : ℕ} {before after : ExploreTables} {found : Result ℕ Unexplored} → ExploresStored parts x.letters limit before after found → n ≡ rows_of found → ExploredSheet x list limit before after n
  parts-explored {limit} {before = before} {after} {found} e rows =
      record { found = found; explored = subst (λ K. ExploresStored K x.letters limit before after found) parts_is e; rows = rows }

module _ {x : StoredSheet} {list : List ℤ} {limit : ℕ} {before after : ExploreTables} {n : ℕ} (e : ExploredSheet x list limit before after n) where
  -- What is left of the lent tables.
  pub explored-leaves : Leaves x.letters limit before after n
  explored-leaves = subst (Leaves x.letters limit before after) (sym e.rows) (exploration_leaves _ _ _ _ _ e.found e.explored.work_zero e.explored.outcome)

  -- Nothing is left open: what is explored once more gives the same answer and leaves the same tables.
  pub explored_once : {after' : ExploreTables} {n' : ℕ} → ExploredSheet x list limit before after' n' → (n ≡ n') × (after ≡ after')
  explored_once e' = let u = explored_unique e.explored e'.explored in (e.rows ∙ ap rows_of u.0 ∙ sym e'.rows, u.1)

-- Few letters have their values in a small list, more of them in a large one.
module _ {x : StoredSheet} {limit : ℕ} {before after : ExploreTables} {n : ℕ} where
  pub small-list : x.letters ≤ 64 → ExploredSheet x (replicate 520 (pos 0)) limit before after n → ExploredSheet x (values_list x.letters) limit before after n
  small-list h e = subst (λ b. ExploredSheet x (replicate (cond b 520 8200) (pos 0)) limit before after n) (sym (le-leb x.letters 64 h)) e

  pub large_list : 64 < x.letters → ExploredSheet x (replicate 8200 (pos 0)) limit before after n → ExploredSheet x (values_list x.letters) limit before after n
  large_list h e = subst (λ b. ExploredSheet x (replicate (cond b 520 8200) (pos 0)) limit before after n) (sym (lt-leb x.letters 64 h)) e

-- The situations of an accepted sheet are found: the list has room for the values of as many letters as it has.
pub explored-situations : {x : StoredSheet} {limit : ℕ} {before after : ExploreTables} {n : ℕ} → ExploredSheet x (values_list x.letters) limit before after n → FindsSituations x limit before after n
explored-situations {x} {limit} {before} {after} e s accepted same room =
    subst (λ k. SituationsFound s limit k after.entries after.flags) (sym e.rows) (exploration_found accepted same (values_list x.letters) long e.found room e.explored)
  where
    size : ℕ
    size = cond (leb x.letters 64) 520 8200

    enough : x.letters * 8 + 8 ≤ size
    enough =
        cond_cases (λ k. x.letters * 8 + 8 ≤ k) (leb x.letters 64) (λ t. omega (arith, leb-true x.letters 64 (true_of_T _ t))) (λ t. omega (arith, sheet-letters s same, accepted.letters))

    long : x.letters * stream_bound + stream_bound ≤ length (values_list x.letters)
    long = omega (arith, enough, length-replicate {A = ℤ} size (pos 0))
