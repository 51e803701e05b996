-- The stored form of an accepted sheet keeps the bounds that the search depends on, and the table of its letters' values that `fill_letters` writes
-- holds its letters. So what is left to show of a sheet's lists is that they are its stored form, and of the tables that they are long enough.
use Prim.Native.Nat.{ℕ, ◌+◌, ◌*◌, ◌≤◌, ◌<◌}
use native.Mathlib.Omega.{arith}
use native.Mathlib.Nat.{mul-le-mul}
use mathlib.Core.Path.{◌≡◌, sym, ◌∙◌, ap₂, subst}
use mathlib.Core.Bool.{true, false}
use mathlib.Core.List.{List, map}
use lib.IntN.{ℤ}
use lib.ListN.{length, length-map}
use Rattle.nodes.proofs.Postfix.{stored-length}
use Rattle.sheet.specs.Refusal.{stream_bound}
use Rattle.meaning.specs.Expression.{Constraint, Stream, Sheet}
use Rattle.meaning.specs.Letter.{letter_count}
use Rattle.sheet.specs.Accepted.{Accepted}
use Rattle.nodes.specs.Bounds.{lows_of, highs_of}
use Rattle.nodes.specs.Postfix.{Node, StoredConstraint, stored_constraints}
use Rattle.letters.specs.Described.{described, has_room, with_letters}
use Rattle.letters.proofs.AllLetters.{room-there, has_room-unnamed, with_letters-unnamed, with_letters-letter}
use Rattle.sizes.specs.Room.{key_size}
use Rattle.extend.specs.Step.{Store, IsReady}
use Rattle.explore.specs.Search.{every_mark, Searched}
use Rattle.std.specs.Prelude.{Result, Ok, Err}
use Rattle.explore.specs.declared.Unexplored.{Unexplored}
use Rattle.explore.specs.declared.Unexplored.TheVariants.{NotReady, Full}
use Rattle.explore.specs.Exploration.{ExploreTables, IsExplorable, FindsOrNone, ExploresStored}
use Rattle.explore.specs.Rows.{ExploreOutcome}
use Rattle.explore.specs.StoredSheet.{store_for, HasLetters, IsStored}
use Rattle.nodes.proofs.FirstPlaces.{all_places_long}
use Rattle.explore.proofs.StoredKeys.{stored-outcome}

-- ---- the stored sheet

part-long : (cs : List Constraint) (f : StoredConstraint → ℕ) → length (map f (stored_constraints 0 0 cs)) ≡ length cs
part-long cs f = length-map (stored_constraints 0 0 cs) f ∙ stored-length 0 0 cs

pub accepted-ready : (s : Sheet) (behind : List Node) (values : List ℤ) → Accepted s → IsReady (store_for s behind values)
accepted-ready s behind values accepted =
    let cs = s.constraints in
    let relations = part-long cs (λ (t : StoredConstraint). t.relation) in
    record {
      few_letters = accepted.window;
      few_streams = accepted.streams.stream_count;
      lefts_long = part-long cs (λ (t : StoredConstraint). t.left) ∙ sym relations;
      rights_long = part-long cs (λ (t : StoredConstraint). t.right) ∙ sym relations;
      few_constraints = subst (λ n. n ≤ 32) (sym relations) accepted.constraint_count;
      few_firsts = subst (λ n. n ≤ 8) (sym (all_places_long 0 cs)) accepted.firsts;
    }

module _ (s : Sheet) (accepted : Accepted s) where
  abbrev ss : List Stream
  ss = s.streams

  -- The sheet can be explored in tables with room for as many rows as the limit.
  pub accepted_explorable : (behind : List Node) (values : List ℤ) (limit : ℕ) (t : ExploreTables) → letter_count ss * length ss + stream_bound ≤ length values → 0 < limit → limit ≤ 4096 → limit * key_size ≤ length t.keys
      → limit ≤ length t.heads → limit ≤ length t.links → limit * letter_count ss ≤ length t.entries → limit ≤ length t.flags → IsExplorable (store_for s behind values) (letter_count ss) limit t
  accepted_explorable behind values limit t letters some few keys heads links entries flags = (
    accepted-ready s behind values accepted,
    record {
      few_letters = accepted.letters;
      values = letters;
      some_row = some;
      few_rows = few;
      keys_room = keys;
      heads_room = heads;
      links_room = links;
      entries_room = entries;
      flags_room = flags;
    },
  )

  -- ---- the letters' values

  -- Where there are at most so many letters, a list with 8 numbers for each, and 8 more, has room for their values.
  pub letters-fit : (most room : ℕ) → letter_count ss ≤ most → most * stream_bound + stream_bound ≤ room → letter_count ss * length ss + stream_bound ≤ room
  letters-fit most room few h = omega (arith, mul-le-mul few accepted.streams.stream_count)

  module _ {lows highs : List ℤ} (out : List ℤ) (l : lows ≡ lows_of ss) (h : highs ≡ highs_of ss) (fits : letter_count ss * length ss ≤ length out) where
    sheet-room : has_room ss (length out) ≡ true
    sheet-room = room-there ss (length out) accepted.letters fits

    -- What `fill_letters` answers, and what it writes.
    pub letters-room : has_room (described lows highs) (length out) ≡ true
    letters-room = ap₂ (λ x y. has_room (described x y) (length out)) l h ∙ has_room-unnamed ss (length out) ∙ sheet-room

    pub has_letters : {values : List ℤ} → values ≡ with_letters (described lows highs) out → HasLetters s values
    has_letters e =
        let same = e ∙ ap₂ (λ x y. with_letters (described x y) out) l h ∙ with_letters-unnamed ss out in
        subst (HasLetters s) (sym same) (record { letter = with_letters-letter ss out sheet-room })

-- ---- the exploration

-- How many rows there are, or that there are more than the limit.
abbrev pub SheetExplored : (s : Sheet) (limit : ℕ) (entries flags : List ℕ) → Result ℕ Unexplored → Type 0
SheetExplored s limit entries flags (Ok count) = ExploreOutcome s false limit count entries flags
SheetExplored s limit entries flags (Err Full) = ExploreOutcome s true limit limit entries flags
SheetExplored s limit entries flags (Err NotReady) = ⊥

-- What `explore_stored` leaves for the stored form of an accepted sheet, in tables with room, is the exploration of the sheet.
pub stored-explored : {s : Sheet} → Accepted s → {K : Store} → IsStored s K → {letters limit : ℕ} {before after : ExploreTables} (found : Result ℕ Unexplored)
    → letters ≡ letter_count s.streams → IsExplorable K letters limit before → ExploresStored K letters limit before after found → SheetExplored s limit after.entries after.flags found
stored-explored {s} accepted {K} stored {letters} {limit} {before} {after} found same explorable x = by found x.outcome
  where
    by : (found : Result ℕ Unexplored) → FindsOrNone K letters limit before after found → SheetExplored s limit after.entries after.flags found
    by (Ok count) x = stored-outcome accepted stored false (subst (λ n. Searched K n limit (every_mark 0 K.relations) x.1.keys after.entries after.flags false count) same x.1.searched)
    by (Err Full) x =
        let more = stored-outcome accepted stored true (subst (λ n. Searched K n limit (every_mark 0 K.relations) x.1.keys x.1.entries x.1.flags true limit) same x.1.searched) in more
    by (Err NotReady) x = x.0 explorable
