-- `search` meets its contract. Before each row, and before each letter of a row, the places before the present one hold the rows of their keys, and
-- every row but the first is met at such a place; what stands behind the present place is as it was. Before a letter, what the letters of the row need
-- is prepared too. From the laws of the search.
use Prim.Native.Nat.{ℕ, ◌+◌, ◌*◌, ◌≤◌, ◌<◌}
use mathlib.Core.Path.{refl}
use mathlib.Core.List.{List}
use native.Mathlib.Omega.{arith}
use lib.ListN.{length}
use Rattle.basics.proofs.Lists.{row_fits}
use Rattle.explore.specs.Chains.{row_at}
use Rattle.extend.specs.Step.{Store, store_of, IsKey, IsReady}
use Rattle.explore.specs.Search.{Turn, IsLent}
use Rattle.extend.proofs.ExtendLaws.{key_preparable}
use Rattle.explore.proofs.SearchLaws.{letter-values, reach-key, turn-begin, turn_row, turn_end, follow_fits, follow_old, follow_new, follow_full, kept_refl, kept_trans, kept-old, kept_new, kept-end, SameSizes, sizes_refl, sizes_trans, sizes-stored, sizes-lent}
use Rattle.explore.proofs.search.Goals as goal
use Rattle.explore.proofs.search.Goals.{then-row-n+else-n-limit, else-row-n}

-- A row that is known holds a key.
row-key : (K : Store) (letters limit every : ℕ) {keys₀ entries₀ flags₀ heads₀ links₀ keys entries flags heads links : List ℕ} {n s s' a at : ℕ} → IsReady K → IsLent K letters limit keys₀ heads₀ links₀ entries₀ flags₀
    → Turn K letters limit every keys entries flags heads links n s' a at → s < n → IsKey K (row_at keys s)
row-key K letters limit every ready lent t h = reach-key K letters limit every ready.few_letters lent.values (t.turn.known.reached _ h)

pub rows-init : goal.rows-init
rows-init c =
    (turn-begin _ _ _ _ c.requires.lent.some_row c.requires.tables c.requires.known, sizes_refl, omega arith, kept_refl _ _ _ _)

pub prepare_row-requires : goal.prepare_row-requires
prepare_row-requires c =
    let store : Store = let a = c.args in store_of a.kinds.now a.values.now a.starts.now a.relations.now a.lefts.now a.rights.now a.first_nodes.now a.letter_values.now a.dimensions.streams a.dimensions.ahead a.dimensions.width in
    let key-room : c.rows.s * 16 + 16 ≤ length c.rows.keys = omega (arith, c.rows-test.true, c.rows.invariant.0.tables.keys_room) in
    let b = c.args.bounds in
    (key_preparable c.requires.ready (row-key store b.letters b.limit b.every c.requires.ready c.requires.lent c.rows.invariant.0 c.rows-test.true), key-room)

pub loop-a-init : goal.loop-a-init
loop-a-init c =
    let rows = c.rows in
    (c.rows-test.true, omega arith, rows.invariant.0, sizes_refl, c.prepare_row.ensures, kept_refl _ _ _ _)

pub overflow_cast-a : goal.overflow_cast-a
overflow_cast-a c =
    let store : Store = let a = c.args in store_of a.kinds.now a.values.now a.starts.now a.relations.now a.lefts.now a.rights.now a.first_nodes.now a.letter_values.now a.dimensions.streams a.dimensions.ahead a.dimensions.width in
    let sizes : let a = c.args in SameSizes a.keys.now a.heads.now a.links.now a.entries.now a.flags.now c.loop-a.keys c.loop-a.heads c.loop-a.links c.loop-a.entries c.loop-a.flags = sizes_trans c.rows.invariant.1 c.loop-a.invariant.3 in
    let lent : IsLent store c.args.bounds.letters c.args.bounds.limit c.loop-a.keys c.loop-a.heads c.loop-a.links c.loop-a.entries c.loop-a.flags = sizes-lent sizes c.requires.lent in
    omega (arith, c.loop-a-test.true, lent.few_letters)

pub follow-row-requires : goal.follow-row-requires
follow-row-requires c =
    let store : Store = let a = c.args in store_of a.kinds.now a.values.now a.starts.now a.relations.now a.lefts.now a.rights.now a.first_nodes.now a.letter_values.now a.dimensions.streams a.dimensions.ahead a.dimensions.width in
    let rows-lent : let r = c.rows in IsLent store c.args.bounds.letters c.args.bounds.limit r.keys r.heads r.links r.entries r.flags = sizes-lent c.rows.invariant.1 c.requires.lent in
    let few_rows : c.rows.s < 4096 = omega (arith, c.rows-test.true, c.rows.invariant.0.turn.within, rows-lent.few_rows) in
    let sizes : let a = c.args in SameSizes a.keys.now a.heads.now a.links.now a.entries.now a.flags.now c.loop-a.keys c.loop-a.heads c.loop-a.links c.loop-a.entries c.loop-a.flags = sizes_trans c.rows.invariant.1 c.loop-a.invariant.3 in
    let lent : IsLent store c.args.bounds.letters c.args.bounds.limit c.loop-a.keys c.loop-a.heads c.loop-a.links c.loop-a.entries c.loop-a.flags = sizes-lent sizes c.requires.lent in
    let loop = c.loop-a in
    let b = c.args.bounds in
    record {
      ready = c.requires.ready;
      key = row-key store b.letters b.limit b.every c.requires.ready c.requires.lent loop.invariant.2 loop.invariant.0;
      values = letter-values store b.letters b.limit b.every lent.values loop.a c.loop-a-test.true;
      is_row = loop.invariant.0;
      tables = loop.invariant.2.tables;
      few_rows = lent.few_rows;
      links_room = lent.links_room;
      keys_room = lent.keys_room;
      flags_room = lent.flags_room;
      is_prepared = loop.invariant.4;
    }

pub overflow_add-n : goal.overflow_add-n
overflow_add-n c =
    let store : Store = let a = c.args in store_of a.kinds.now a.values.now a.starts.now a.relations.now a.lefts.now a.rights.now a.first_nodes.now a.letter_values.now a.dimensions.streams a.dimensions.ahead a.dimensions.width in
    let sizes : let a = c.args in SameSizes a.keys.now a.heads.now a.links.now a.entries.now a.flags.now c.loop-a.keys c.loop-a.heads c.loop-a.links c.loop-a.entries c.loop-a.flags = sizes_trans c.rows.invariant.1 c.loop-a.invariant.3 in
    let lent : IsLent store c.args.bounds.letters c.args.bounds.limit c.loop-a.keys c.loop-a.heads c.loop-a.links c.loop-a.entries c.loop-a.flags = sizes-lent sizes c.requires.lent in
    omega (arith, c.loop-a.invariant.2.turn.within, lent.few_rows)

pub overflow_cast-entries : goal.overflow_cast-entries
overflow_cast-entries c =
    let store : Store = let a = c.args in store_of a.kinds.now a.values.now a.starts.now a.relations.now a.lefts.now a.rights.now a.first_nodes.now a.letter_values.now a.dimensions.streams a.dimensions.ahead a.dimensions.width in
    let rows-lent : let r = c.rows in IsLent store c.args.bounds.letters c.args.bounds.limit r.keys r.heads r.links r.entries r.flags = sizes-lent c.rows.invariant.1 c.requires.lent in
    let entries_room : c.rows.s * c.args.bounds.letters + c.args.bounds.letters ≤ length c.rows.entries = row_fits c.rows.s c.args.bounds.limit c.args.bounds.letters (length c.rows.entries) (omega (arith, c.rows-test.true, c.rows.invariant.0.turn.within)) rows-lent.entries_room in
    let sizes : let a = c.args in SameSizes a.keys.now a.heads.now a.links.now a.entries.now a.flags.now c.loop-a.keys c.loop-a.heads c.loop-a.links c.loop-a.entries c.loop-a.flags = sizes_trans c.rows.invariant.1 c.loop-a.invariant.3 in
    let lent : IsLent store c.args.bounds.letters c.args.bounds.limit c.loop-a.keys c.loop-a.heads c.loop-a.links c.loop-a.entries c.loop-a.flags = sizes-lent sizes c.requires.lent in
    let within : c.loop-a.at < length c.loop-a.entries = omega (arith, entries_room, c.loop-a.invariant.3.entries_long, c.loop-a.invariant.2.here, c.loop-a-test.true) in
    let loop = c.loop-a in
    record { fits = follow_fits _ _ _ _ loop.invariant.2 loop.invariant.0 c.loop-a-test.true within lent.few_rows lent.flags_room c.follow-row.result c.follow-row.ensures.followed }

pub offset_bounds-entries-at : goal.offset_bounds-entries-at
offset_bounds-entries-at c =
    let store : Store = let a = c.args in store_of a.kinds.now a.values.now a.starts.now a.relations.now a.lefts.now a.rights.now a.first_nodes.now a.letter_values.now a.dimensions.streams a.dimensions.ahead a.dimensions.width in
    let rows-lent : let r = c.rows in IsLent store c.args.bounds.letters c.args.bounds.limit r.keys r.heads r.links r.entries r.flags = sizes-lent c.rows.invariant.1 c.requires.lent in
    let entries_room : c.rows.s * c.args.bounds.letters + c.args.bounds.letters ≤ length c.rows.entries = row_fits c.rows.s c.args.bounds.limit c.args.bounds.letters (length c.rows.entries) (omega (arith, c.rows-test.true, c.rows.invariant.0.turn.within)) rows-lent.entries_room in
    let sizes : let a = c.args in SameSizes a.keys.now a.heads.now a.links.now a.entries.now a.flags.now c.loop-a.keys c.loop-a.heads c.loop-a.links c.loop-a.entries c.loop-a.flags = sizes_trans c.rows.invariant.1 c.loop-a.invariant.3 in
    let within : c.loop-a.at < length c.loop-a.entries = omega (arith, entries_room, c.loop-a.invariant.3.entries_long, c.loop-a.invariant.2.here, c.loop-a-test.true) in
    omega (arith, within, sizes.entries_long)

pub bounds-entries-at : goal.bounds-entries-at
bounds-entries-at c =
    let store : Store = let a = c.args in store_of a.kinds.now a.values.now a.starts.now a.relations.now a.lefts.now a.rights.now a.first_nodes.now a.letter_values.now a.dimensions.streams a.dimensions.ahead a.dimensions.width in
    let rows-lent : let r = c.rows in IsLent store c.args.bounds.letters c.args.bounds.limit r.keys r.heads r.links r.entries r.flags = sizes-lent c.rows.invariant.1 c.requires.lent in
    let entries_room : c.rows.s * c.args.bounds.letters + c.args.bounds.letters ≤ length c.rows.entries = row_fits c.rows.s c.args.bounds.limit c.args.bounds.letters (length c.rows.entries) (omega (arith, c.rows-test.true, c.rows.invariant.0.turn.within)) rows-lent.entries_room in
    let within : c.loop-a.at < length c.loop-a.entries = omega (arith, entries_room, c.loop-a.invariant.3.entries_long, c.loop-a.invariant.2.here, c.loop-a-test.true) in
    within

pub overflow_add-at : goal.overflow_add-at
overflow_add-at c =
    let store : Store = let a = c.args in store_of a.kinds.now a.values.now a.starts.now a.relations.now a.lefts.now a.rights.now a.first_nodes.now a.letter_values.now a.dimensions.streams a.dimensions.ahead a.dimensions.width in
    let rows-lent : let r = c.rows in IsLent store c.args.bounds.letters c.args.bounds.limit r.keys r.heads r.links r.entries r.flags = sizes-lent c.rows.invariant.1 c.requires.lent in
    let entries_room : c.rows.s * c.args.bounds.letters + c.args.bounds.letters ≤ length c.rows.entries = row_fits c.rows.s c.args.bounds.limit c.args.bounds.letters (length c.rows.entries) (omega (arith, c.rows-test.true, c.rows.invariant.0.turn.within)) rows-lent.entries_room in
    let sizes : let a = c.args in SameSizes a.keys.now a.heads.now a.links.now a.entries.now a.flags.now c.loop-a.keys c.loop-a.heads c.loop-a.links c.loop-a.entries c.loop-a.flags = sizes_trans c.rows.invariant.1 c.loop-a.invariant.3 in
    let within : c.loop-a.at < length c.loop-a.entries = omega (arith, entries_room, c.loop-a.invariant.3.entries_long, c.loop-a.invariant.2.here, c.loop-a-test.true) in
    omega (arith, within, sizes.entries_long)

pub loop-a-preserved : goal.loop-a-preserved
loop-a-preserved c =
    let store : Store = let a = c.args in store_of a.kinds.now a.values.now a.starts.now a.relations.now a.lefts.now a.rights.now a.first_nodes.now a.letter_values.now a.dimensions.streams a.dimensions.ahead a.dimensions.width in
    let rows-lent : let r = c.rows in IsLent store c.args.bounds.letters c.args.bounds.limit r.keys r.heads r.links r.entries r.flags = sizes-lent c.rows.invariant.1 c.requires.lent in
    let entries_room : c.rows.s * c.args.bounds.letters + c.args.bounds.letters ≤ length c.rows.entries = row_fits c.rows.s c.args.bounds.limit c.args.bounds.letters (length c.rows.entries) (omega (arith, c.rows-test.true, c.rows.invariant.0.turn.within)) rows-lent.entries_room in
    let sizes : let a = c.args in SameSizes a.keys.now a.heads.now a.links.now a.entries.now a.flags.now c.loop-a.keys c.loop-a.heads c.loop-a.links c.loop-a.entries c.loop-a.flags = sizes_trans c.rows.invariant.1 c.loop-a.invariant.3 in
    let lent : IsLent store c.args.bounds.letters c.args.bounds.limit c.loop-a.keys c.loop-a.heads c.loop-a.links c.loop-a.entries c.loop-a.flags = sizes-lent sizes c.requires.lent in
    let within : c.loop-a.at < length c.loop-a.entries = omega (arith, entries_room, c.loop-a.invariant.3.entries_long, c.loop-a.invariant.2.here, c.loop-a-test.true) in
    let follow-sizes : let loop = c.loop-a in SameSizes loop.keys loop.heads loop.links loop.entries loop.flags c.follow-row.new.keys c.follow-row.new.heads c.follow-row.new.links loop.entries c.follow-row.new.flags =
    record { keys_long = c.follow-row.auto.keys; heads_long = c.follow-row.auto.heads; links_long = c.follow-row.auto.links; entries_long = refl; flags_long = c.follow-row.auto.flags } in
    let loop = c.loop-a in
    let row = c.follow-row.result in
    let stored = sizes-stored loop.at row (sizes_trans loop.invariant.3 follow-sizes) in
    elim c.if-row-n.branch [
      | then-row-n+else-n-limit w ↦ (
        rw w.n-is (omega (arith, loop.invariant.0)),
        omega (arith, c.loop-a-test.true),
        rw w.n-is (follow_new _ _ _ _ loop.invariant.2 loop.invariant.0 c.loop-a-test.true within lent.few_rows lent.flags_room c.follow-row.result c.follow-row.ensures.followed w.if-row-n.true w.if-n-limit.false),
        stored,
        c.follow-row.ensures.is_prepared,
        rw w.n-is (kept_new _ _ _ _ loop.invariant.2 loop.invariant.0 c.loop-a-test.true within lent.few_rows lent.flags_room c.follow-row.result c.follow-row.ensures.followed w.if-row-n.true w.if-n-limit.false loop.invariant.5),
      )
      | else-row-n w ↦ (
        rw w.n-is loop.invariant.0,
        omega (arith, c.loop-a-test.true),
        rw w.n-is (follow_old _ _ _ _ loop.invariant.2 loop.invariant.0 c.loop-a-test.true within lent.few_rows lent.flags_room c.follow-row.result c.follow-row.ensures.followed w.if-row-n.false),
        stored,
        c.follow-row.ensures.is_prepared,
        rw w.n-is (kept-old _ _ _ _ loop.invariant.2 loop.invariant.0 c.loop-a-test.true within lent.few_rows lent.flags_room c.follow-row.result c.follow-row.ensures.followed w.if-row-n.false loop.invariant.5),
      )
    ]

pub overflow_add-s : goal.overflow_add-s
overflow_add-s c =
    let store : Store = let a = c.args in store_of a.kinds.now a.values.now a.starts.now a.relations.now a.lefts.now a.rights.now a.first_nodes.now a.letter_values.now a.dimensions.streams a.dimensions.ahead a.dimensions.width in
    let rows-lent : let r = c.rows in IsLent store c.args.bounds.letters c.args.bounds.limit r.keys r.heads r.links r.entries r.flags = sizes-lent c.rows.invariant.1 c.requires.lent in
    let few_rows : c.rows.s < 4096 = omega (arith, c.rows-test.true, c.rows.invariant.0.turn.within, rows-lent.few_rows) in
    omega (arith, few_rows)

pub rows-smaller : goal.rows-smaller
rows-smaller c =
    omega (arith, c.rows-test.true, c.rows.invariant.0.turn.within)

pub rows-preserved : goal.rows-preserved
rows-preserved c =
    let sizes : let a = c.args in SameSizes a.keys.now a.heads.now a.links.now a.entries.now a.flags.now c.loop-a.keys c.loop-a.heads c.loop-a.links c.loop-a.entries c.loop-a.flags = sizes_trans c.rows.invariant.1 c.loop-a.invariant.3 in
    let loop = c.loop-a in
    (turn_row _ _ _ _ c.loop-a-test.false loop.invariant.1 loop.invariant.2, sizes, omega (arith, loop.invariant.0), kept_trans c.rows.invariant.3 loop.invariant.5)

pub returns : goal.returns
returns c =
    let rows = c.rows in (
      turn_end _ _ _ _ c.rows-test.false rows.invariant.0,
      kept-end rows.invariant.2 c.rows-test.false rows.invariant.0.here rows.invariant.1.entries_long rows.invariant.1.flags_long rows.invariant.3,
    )

pub returns-then-n-limit : goal.returns-then-n-limit
returns-then-n-limit c =
    let store : Store = let a = c.args in store_of a.kinds.now a.values.now a.starts.now a.relations.now a.lefts.now a.rights.now a.first_nodes.now a.letter_values.now a.dimensions.streams a.dimensions.ahead a.dimensions.width in
    let rows-lent : let r = c.rows in IsLent store c.args.bounds.letters c.args.bounds.limit r.keys r.heads r.links r.entries r.flags = sizes-lent c.rows.invariant.1 c.requires.lent in
    let entries_room : c.rows.s * c.args.bounds.letters + c.args.bounds.letters ≤ length c.rows.entries = row_fits c.rows.s c.args.bounds.limit c.args.bounds.letters (length c.rows.entries) (omega (arith, c.rows-test.true, c.rows.invariant.0.turn.within)) rows-lent.entries_room in
    let sizes : let a = c.args in SameSizes a.keys.now a.heads.now a.links.now a.entries.now a.flags.now c.loop-a.keys c.loop-a.heads c.loop-a.links c.loop-a.entries c.loop-a.flags = sizes_trans c.rows.invariant.1 c.loop-a.invariant.3 in
    let lent : IsLent store c.args.bounds.letters c.args.bounds.limit c.loop-a.keys c.loop-a.heads c.loop-a.links c.loop-a.entries c.loop-a.flags = sizes-lent sizes c.requires.lent in
    let within : c.loop-a.at < length c.loop-a.entries = omega (arith, entries_room, c.loop-a.invariant.3.entries_long, c.loop-a.invariant.2.here, c.loop-a-test.true) in
    let loop = c.loop-a in
    follow_full _ _ _ _ loop.invariant.2 loop.invariant.0 c.loop-a-test.true within lent.few_rows lent.flags_room c.follow-row.result c.follow-row.ensures.followed c.if-row-n.true c.if-n-limit.true
