-- `normal_entries::entry_at` meets its contract: the entry is read from the tables where it stands in them, and is blank beyond them.
use Prim.Native.Nat.{suc, ◌+◌, ◌*◌}
use mathlib.Core.Path.{◌≡◌, ap, ◌∙◌}
use mathlib.Core.Bool.{cond}
use mir.Syntax.{w64}
use mir.ValLaws.{to_z-of_z}
use lib.IntN.{pos}
use lib.ListN.{get_or}
use Rattle.normal_entries.specs.Fields.{left_behind, right_behind}
use Rattle.normal_entries.specs.Entries.{row_in, stored_place}
use Rattle.normal_entries.proofs.Entries.{entry-beyond, entry-within}
use Rattle.normal_entries.proofs.entry_at.Goals as goal

pub returns-then-i-ge4128 : goal.returns-then-i-ge4128
returns-then-i-ge4128 c =
    let a = c.args in
    c.blank_entry.ensures ∙ entry-beyond a.numbers.now a.ends.now a.i c.if-i-ge4128.true

pub returns : goal.returns
returns c =
    let a = c.args in
    let numbers = a.numbers.now in
    let row = row_in numbers a.i in
    let is-left = c.left_is_node-is_left.ensures in
    let is_right = c.right_is_node-is_right.ensures in
    let before-left : c.behind_node-before_left.result ≡ left_behind row = c.behind_node-before_left.ensures ∙ (λ k. cond (is-left k) (suc row.left) (c.from.ensures k)) in
    let before-right : c.behind_node-before_right.result ≡ right_behind row = c.behind_node-before_right.ensures ∙ (λ k. cond (is_right k) (suc row.right) 0) in
    (λ k. record {
      kind = row.kind;
      relation = row.relation;
      stream_kind = 0;
      replaces = c.replaces.ensures k;
      left = (c.stream_of.ensures ∙ ap (λ b. cond b 0 row.left) is-left) k;
      left_added = row.left_added;
      left_begin = (c.stored_place.ensures ∙ ap (stored_place numbers 0) before-left) k;
      left_end = (c.stored_place-2.ensures ∙ ap (stored_place numbers 1) before-left) k;
      right = (c.stream_of-2.ensures ∙ ap (λ b. cond b 0 row.right) is_right) k;
      right_added = row.right_added;
      right_begin = (c.stored_place-3.ensures ∙ ap (stored_place numbers 0) before-right) k;
      right_end = (c.stored_place-4.ensures ∙ ap (stored_place numbers 1) before-right) k;
      low = to_z-of_z w64 (get_or a.ends.now (a.i * 2) (pos 0)) (record { sfits = c.result-4-1.given }) k;
      high = to_z-of_z w64 (get_or a.ends.now (a.i * 2 + 1) (pos 0)) (record { sfits = c.result-5-1.given }) k;
    })
    ∙ entry-within numbers a.ends.now a.i c.if-i-ge4128.false
