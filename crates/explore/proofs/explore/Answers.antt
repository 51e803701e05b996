-- `explore` meets its contract: the tests say whether the sizes are right. Where they are, the chains are emptied, the empty record's key becomes the
-- first row, and the search goes on from it.
use mathlib.Core.Path.{refl, ◌∙◌}
use native.Mathlib.Omega.{arith}
use borrow.Author.Rules.{rules}
use Rattle.basics.proofs.Answers.{says_yes, says_no}
use Rattle.extend.specs.Step.{Store, store_of, IsReady}
use Rattle.explore.specs.Search.{IsLent}
use Rattle.explore.proofs.ChainLaws.{cleared-chained}
use Rattle.explore.proofs.SearchLaws.{sizes-lent, settled-start, settled-search, searched-every}
use Rattle.explore.proofs.SizeLaws.{sizes-ready, sizes-lent-tables, not-ready, not-lent, ready}
use Rattle.explore.proofs.explore.Goals as goal

pub returns-then-not-is_ready : goal.returns-then-not-is_ready
returns-then-not-is_ready c = not-ready _ _ _ _ (says_no c.if-not-is_ready.true c.is_ready.ensures)

pub returns-then-not-is_lent : goal.returns-then-not-is_lent
returns-then-not-is_lent c = not-lent _ _ _ _ (says_no c.if-not-is_lent.true c.is_lent.ensures)

pub every_mark-every-requires : goal.every_mark-every-requires
every_mark-every-requires c =
    let store : Store = (let a = c.args in
    store_of a.kinds.now a.values.now a.starts.now a.relations.now a.lefts.now a.rights.now a.first_nodes.now a.letter_values.now a.streams a.ahead a.width) in
    let keeps-bounds : IsReady store = sizes-ready (says_yes c.if-not-is_ready.false c.is_ready.ensures) in
    keeps-bounds.few_constraints

pub settle-requires : goal.settle-requires
settle-requires c =
    let store : Store = (let a = c.args in
    store_of a.kinds.now a.values.now a.starts.now a.relations.now a.lefts.now a.rights.now a.first_nodes.now a.letter_values.now a.streams a.ahead a.width) in
    let lent : let a = c.args in IsLent store a.letters a.limit a.keys.now a.heads.now a.links.now a.entries.now a.flags.now = sizes-lent-tables _ _ _ _ (says_yes c.if-not-is_lent.false c.is_lent.ensures) in
    let tested = c in
    let l = lent in
    record { key_tables = cleared-chained c.args.heads.now _ _ _ (omega (arith, l.some_row, l.heads_room)) (c.fill.ensures.after (search rules)); key_len = (refl, l.few_rows, l.links_room, l.keys_room, l.flags_room) }

pub search-found-requires : goal.search-found-requires
search-found-requires c =
    let store : Store = (let a = c.args in
    store_of a.kinds.now a.values.now a.starts.now a.relations.now a.lefts.now a.rights.now a.first_nodes.now a.letter_values.now a.streams a.ahead a.width) in
    let keeps-bounds : IsReady store = sizes-ready (says_yes c.if-not-is_ready.false c.is_ready.ensures) in
    let lent : let a = c.args in IsLent store a.letters a.limit a.keys.now a.heads.now a.links.now a.entries.now a.flags.now = sizes-lent-tables _ _ _ _ (says_yes c.if-not-is_lent.false c.is_lent.ensures) in
    let tested = c in
    let l = lent in
    let settle = c.settle in
    let begun = settled-start l.some_row l.flags_room settle.ensures in
    record {
      ready = keeps-bounds;
      lent = sizes-lent (record { keys_long = settle.auto.keys; heads_long = settle.auto.heads ∙ c.fill.auto.self; links_long = settle.auto.links; entries_long = refl; flags_long = settle.auto.flags }) l;
      tables = begun.0;
      known = begun.1;
    }

pub returns : goal.returns
returns c =
    let store : Store = (let a = c.args in
    store_of a.kinds.now a.values.now a.starts.now a.relations.now a.lefts.now a.rights.now a.first_nodes.now a.letter_values.now a.streams a.ahead a.width) in
    let lent : let a = c.args in IsLent store a.letters a.limit a.keys.now a.heads.now a.links.now a.entries.now a.flags.now = sizes-lent-tables _ _ _ _ (says_yes c.if-not-is_lent.false c.is_lent.ensures) in
    let settle = c.settle in
    let found = c.search-found.result in
    rw c.ok_or.ensures.value
    (ready _ _ _ _ _ found (says_yes c.if-not-is_ready.false c.is_ready.ensures) (says_yes c.if-not-is_lent.false c.is_lent.ensures)
    (searched-every _ _ _ _ _ _ _ _ found c.every_mark-every.ensures (settled-search _ _ _ _ _ _ found lent.some_row settle.auto.flags settle.ensures c.search-found.ensures)))
