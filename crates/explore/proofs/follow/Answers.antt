-- `follow` meets its contract: the row's key is extended, and the new key's row is found or added. The row itself keeps its key, so what is
-- prepared for it stays so.
use Prim.Native.Nat.{ℕ}
use mathlib.Core.Path.{◌≡◌, refl, ◌∙◌, sym, subst}
use mathlib.Core.List.{List}
use mathlib.Core.Logic.{inl, inr}
use lib.ListN.{replicate}
use Rattle.sizes.specs.Room.{key_size}
use Rattle.extend.specs.Step.{Store, store_of, IsKey, PreparedFor, Extended}
use Rattle.extend.proofs.ExtendLaws.{extends-extended}
use Rattle.explore.specs.Chains.{row_at}
use Rattle.explore.proofs.ChainLaws.{row-part}
use Rattle.explore.proofs.SearchLaws.{settled-key, settled-row}
use Rattle.explore.proofs.follow.Goals as goal

pub settle-requires : goal.settle-requires
settle-requires c =
    let at = c in
    let pre = c.requires in
    record { key_tables = pre.tables; key_len = (at.extend.auto.fresh, pre.few_rows, pre.links_room, pre.keys_room, pre.flags_room) }

pub returns-then-extend : goal.returns-then-extend
returns-then-extend c =
    let store : Store = (let a = c.args in
    store_of a.kinds.now a.values.now a.starts.now a.relations.now a.lefts.now a.rights.now a.first_nodes.now a.letter_values.now a.dimensions.streams a.dimensions.ahead a.dimensions.width) in
    let row : List ℕ = row_at c.args.keys.now c.args.s in
    let Gives : List ℕ → Type 0 = λ key. Extended store key c.args.a (replicate key_size 0) c.extend.result c.extend.new.fresh × PreparedFor store key c.extend.new.prepared in
    let extended : Gives row = (let start = c in
    let is = row-part start.args.keys.now start.args.s in
    let key = subst (IsKey store) (sym is) c.requires.key in
    let ready = subst (λ k. PreparedFor store k start.args.prepared.now) (sym is) c.requires.is_prepared in
    subst Gives is (extends-extended {K = store} c.extend.ensures c.requires.ready key c.requires.values refl ready)) in
    let prepared : (key : List ℕ) → key ≡ row → PreparedFor store key c.extend.new.prepared = λ key e. subst (λ k. PreparedFor store k c.extend.new.prepared) (sym e) extended.1 in
    let at = c in
    let start = c in
    let x = extended.0 in
    let lawful = c.if-extend.true in
    let settled = c.settle.ensures in
    record {
      followed = inr (sym x.answer ∙ lawful, settled-key (x.new lawful) settled);
      is_prepared = prepared _ (settled-row settled start.args.s c.requires.is_row);
    }

pub returns : goal.returns
returns c =
    let store : Store = (let a = c.args in
    store_of a.kinds.now a.values.now a.starts.now a.relations.now a.lefts.now a.rights.now a.first_nodes.now a.letter_values.now a.dimensions.streams a.dimensions.ahead a.dimensions.width) in
    let row : List ℕ = row_at c.args.keys.now c.args.s in
    let Gives : List ℕ → Type 0 = λ key. Extended store key c.args.a (replicate key_size 0) c.extend.result c.extend.new.fresh × PreparedFor store key c.extend.new.prepared in
    let extended : Gives row = (let start = c in
    let is = row-part start.args.keys.now start.args.s in
    let key = subst (IsKey store) (sym is) c.requires.key in
    let ready = subst (λ k. PreparedFor store k start.args.prepared.now) (sym is) c.requires.is_prepared in
    subst Gives is (extends-extended {K = store} c.extend.ensures c.requires.ready key c.requires.values refl ready)) in
    let at = c in
    record {
      followed = inl (refl, sym extended.0.answer ∙ c.if-extend.false, c.requires.tables, refl, refl);
      is_prepared = extended.1;
    }
