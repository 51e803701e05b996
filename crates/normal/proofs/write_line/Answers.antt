-- `normal::write_line` meets its contract: the left side's rows, the line's own row and what stands between, and the right side's rows (Lines).
use native.Mathlib.Omega.{arith}
use Rattle.normal.proofs.Lines.{line-left, until-own, until-right, always-right, always-own, wrote-until, wrote-always}
use Rattle.normal.proofs.write_line.Goals as goal

pub write_rows-a-requires : goal.write_rows-a-requires
write_rows-a-requires c =
    let s = c in
    (omega (arith, s.requires), omega (arith, s.requires), line-left s.args.kinds.now s.args.starts.now s.args.relation s.args.left s.args.right s.requires.4)

pub put_until-requires : goal.put_until-requires
put_until-requires c =
    let s = c in
    let own = until-own s.args.kinds.now s.args.starts.now s.args.relation s.args.left s.args.right s.requires.4 c.write_rows-a.ensures c.if-relation-eq-UNTIL_RELATION.true in
    let row = line-left s.args.kinds.now s.args.starts.now s.args.relation s.args.left s.args.right s.requires.4 in
    (omega (arith, s.requires, row.rows), own.0, own.1, omega (arith, s.requires), omega (arith, s.requires), own.2)

pub overflow_add-a : goal.overflow_add-a
overflow_add-a c =
    let s = c in
    let own = until-own s.args.kinds.now s.args.starts.now s.args.relation s.args.left s.args.right s.requires.4 c.write_rows-a.ensures c.if-relation-eq-UNTIL_RELATION.true in
    omega arith

pub overflow_add-a-then-relation-eq-UNTIL_RELATION : goal.overflow_add-a-then-relation-eq-UNTIL_RELATION
overflow_add-a-then-relation-eq-UNTIL_RELATION c =
    let s = c in
    let own = until-own s.args.kinds.now s.args.starts.now s.args.relation s.args.left s.args.right s.requires.4 c.write_rows-a.ensures c.if-relation-eq-UNTIL_RELATION.true in
    omega arith

pub write_rows-requires : goal.write_rows-requires
write_rows-requires c =
    let s = c in
    (omega (arith, s.requires), omega (arith, s.requires), until-right s.args.kinds.now s.args.starts.now s.args.relation s.args.left s.args.right s.requires.4 c.write_rows-a.ensures c.if-relation-eq-UNTIL_RELATION.true)

pub returns-then-relation-eq-UNTIL_RELATION : goal.returns-then-relation-eq-UNTIL_RELATION
returns-then-relation-eq-UNTIL_RELATION c =
    let s = c in
    wrote-until s.args.kinds.now s.args.starts.now s.args.relation s.args.left s.args.right s.requires.3 c.write_rows-a.ensures c.if-relation-eq-UNTIL_RELATION.true c.put_until.ensures c.write_rows.ensures

pub put_row-requires : goal.put_row-requires
put_row-requires c =
    let s = c in
    let own = always-own s.args.kinds.now s.args.starts.now s.args.relation s.args.left s.args.right s.requires.4 c.write_rows-a.ensures c.if-relation-eq-UNTIL_RELATION.false in
    (omega (arith, s.requires), omega (arith, s.requires), omega arith, omega (arith, s.requires), omega arith, omega arith)

pub write_rows-requires-2 : goal.write_rows-requires-2
write_rows-requires-2 c =
    let s = c in
    (omega (arith, s.requires), omega (arith, s.requires), always-right s.args.kinds.now s.args.starts.now s.args.relation s.args.left s.args.right s.requires.4 c.write_rows-a.ensures c.if-relation-eq-UNTIL_RELATION.false)

pub returns : goal.returns
returns c =
    let s = c in
    wrote-always s.args.kinds.now s.args.starts.now s.args.relation s.args.left s.args.right s.requires.3 c.write_rows-a.ensures c.if-relation-eq-UNTIL_RELATION.false c.put_row.ensures c.write_rows-2.ensures
