-- The sizes of a stored sheet and of lent tables: the tests of their lengths say whether the sheet can be explored in the tables, and what
-- `explore_stored` answers and leaves follows from what the search leaves.
use Prim.Native.Nat.{ℕ, ◌+◌, ◌*◌, ◌≤◌, ◌<◌}
use mathlib.Core.Path.{◌≡◌, refl, sym, subst}
use mathlib.Core.Bool.{false}
use lib.ListN.{length, replicate}
use Rattle.sheet.specs.Refusal.{window_bound, first_bound, stream_bound}
use Rattle.sizes.specs.Room.{key_size}
use Rattle.extend.specs.Step.{Store, IsReady}
use Rattle.std.specs.Prelude.{Option, Some, None, Result, Ok, Err, ok_or, is_err}
use Rattle.explore.specs.declared.Unexplored.{Unexplored}
use Rattle.explore.specs.declared.Unexplored.TheVariants.{NotReady, Full}
use Rattle.explore.specs.Search.{every_mark, Searched, SearchFinds, KeptBehind, IsLent}
use Rattle.explore.specs.Exploration.{ExploreTables, Explores, Discards, WorkZero, GraphZero, FindsOrNone, ExploresStored}
use Rattle.basics.proofs.Clearing.{zeroed}

-- ---- sizes

abbrev ReadySizes : Store → Type 0
ReadySizes K =
    (K.width ≤ window_bound) × (K.streams ≤ stream_bound) × (length K.lefts ≡ length K.relations) × (length K.rights ≡ length K.relations) × (length K.relations ≤ 32) × (length K.first_nodes ≤ first_bound)

pub sizes-ready : {K : Store} → ReadySizes K → IsReady K
sizes-ready h = record { few_letters = h.0; few_streams = h.1; lefts_long = h.2; rights_long = h.3; few_constraints = h.4; few_firsts = h.5 }

ready-sizes : {K : Store} → IsReady K → ReadySizes K
ready-sizes r = (r.few_letters, r.few_streams, r.lefts_long, r.rights_long, r.few_constraints, r.few_firsts)

abbrev LentSizes : Store → (letters limit : ℕ) → ExploreTables → Type 0
LentSizes K letters limit t =
    (K.streams ≤ stream_bound) × (letters ≤ 1024) × (letters * K.streams + stream_bound ≤ length K.letter_values) × (0 < limit) × (limit ≤ 4096) × (limit * key_size ≤ length t.keys) × (limit ≤ length t.heads) × (limit ≤ length t.links) × (limit * letters ≤ length t.entries) × (limit ≤ length t.flags)

lent-sizes : {K : Store} {letters limit : ℕ} {t : ExploreTables} → IsReady K → IsLent K letters limit t.keys t.heads t.links t.entries t.flags → LentSizes K letters limit t
lent-sizes r l = (r.few_streams, l.few_letters, l.values, l.some_row, l.few_rows, l.keys_room, l.heads_room, l.links_room, l.entries_room, l.flags_room)

module _ (K : Store) (letters limit : ℕ) (t : ExploreTables) where
  pub sizes-lent-tables : LentSizes K letters limit t → IsLent K letters limit t.keys t.heads t.links t.entries t.flags
  sizes-lent-tables h =
      record {
        few_letters = h.1;
        values = h.2;
        some_row = h.3;
        few_rows = h.4;
        keys_room = h.5;
        heads_room = h.6;
        links_room = h.7;
        entries_room = h.8;
        flags_room = h.9;
      }

-- ---- what the exploration answers

module _ (K : Store) (letters limit : ℕ) (t : ExploreTables) where
  pub not-ready : (ReadySizes K → ⊥) → Explores K letters limit t t (Err NotReady)
  not-ready n = ((λ h. n (ready-sizes h.0)), refl)

  pub not-lent : (LentSizes K letters limit t → ⊥) → Explores K letters limit t t (Err NotReady)
  not-lent n = ((λ h. n (lent-sizes h.0 h.1)), refl)

  pub ready : (after : ExploreTables) (r : Option ℕ) → ReadySizes K → LentSizes K letters limit t
      → SearchFinds K letters limit (every_mark 0 K.relations) t.entries t.flags after.keys after.entries after.flags r → Explores K letters limit t after (ok_or r Full)
  ready after (Some n) r l z = ((sizes-ready r, sizes-lent-tables K letters limit t l), z.0, z.1)
  ready after None r l z = ((sizes-ready r, sizes-lent-tables K letters limit t l), z)

-- ---- what stays of the entries and flags

-- What is left when the keys and the chains are cleared, and the entries and flags too unless rows were found.
pub explored-stored : {K : Store} {letters limit : ℕ} {before after : ExploreTables} (handed : ExploreTables) (r : Result ℕ Unexplored) → Explores K letters limit before handed r
    → length handed.entries ≡ length before.entries → length handed.flags ≡ length before.flags
    → Discards (is_err r) handed.entries handed.flags after.entries after.flags → WorkZero before after → ExploresStored K letters limit before after r
explored-stored {K} {letters} {limit} {before} {after} handed r x el fl d w = record { work_zero = w; outcome = by r x d }
  where
    graph-zero : (after.entries ≡ replicate (length handed.entries) 0) × (after.flags ≡ replicate (length handed.flags) 0) → GraphZero before after
    graph-zero z = record { entries_zero = zeroed z.0 el; flags_zero = zeroed z.1 fl }

    by : (r : Result ℕ Unexplored) → Explores K letters limit before handed r → Discards (is_err r) handed.entries handed.flags after.entries after.flags → FindsOrNone K letters limit before after r
    by (Ok count) x d = (
      x.0,
      record {
        keys = handed.keys;
        searched = subst (λ l. Searched K letters limit (every_mark 0 K.relations) handed.keys l after.flags false count) (sym d.0)
            (subst (λ l. Searched K letters limit (every_mark 0 K.relations) handed.keys handed.entries l false count) (sym d.1) x.1);
        behind = subst (λ l. KeptBehind letters count before.entries before.flags l after.flags) (sym d.0)
            (subst (λ l. KeptBehind letters count before.entries before.flags handed.entries l) (sym d.1) x.2);
      },
    )
    by (Err Full) x d = (x.0, record { keys = handed.keys; entries = handed.entries; flags = handed.flags; searched = x.1 }, graph-zero d)
    by (Err NotReady) x d = (x.0, graph-zero d)
