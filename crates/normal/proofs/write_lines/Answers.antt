-- `normal::write_lines` meets its contract. The invariant: whatever the lines that are left write completes what all lines write.
use Prim.Native.Nat.{suc, ◌+◌, ◌≤◌}
use native.Mathlib.Omega.{arith}
use mathlib.Core.Path.{◌≡◌, sym, ◌∙◌, ap, subst}
use mathlib.Core.List.{[]}
use lib.ListN.{length, get_or, drop, length-drop}
use lib.Seq.{drop-length}
use Rattle.normal.specs.Stored.{stored_line, stored_lines}
use Rattle.normal.specs.Table.{WroteLines, LinesHaveRoom}
use Rattle.normal.proofs.Lines.{lines-first, lines_rest, wrote_none, wrote-cons, lines_at, length-stored_lines}
use Rattle.normal.proofs.write_lines.Invariants.{rest}
use Rattle.normal.proofs.write_lines.Goals as goal

pub loop-j-init : goal.loop-j-init
loop-j-init c = let s = c in (omega arith, omega arith, s.requires.lines_have_room, λ new r w. w)

pub bounds-relations-j : goal.bounds-relations-j
bounds-relations-j c = omega arith

pub offset_bounds-lefts-j : goal.offset_bounds-lefts-j
offset_bounds-lefts-j c = let s = c in omega (arith, s.requires.has_lines.left_count)

pub bounds-lefts-j : goal.bounds-lefts-j
bounds-lefts-j c = let s = c in omega (arith, s.requires.has_lines.left_count)

pub overflow_cast-lefts : goal.overflow_cast-lefts
overflow_cast-lefts c = let l = c.loop-j.j in omega (arith, c.type_inv.lefts l)

pub offset_bounds-rights-j : goal.offset_bounds-rights-j
offset_bounds-rights-j c = let s = c in omega (arith, s.requires.has_lines.right_count)

pub bounds-rights-j : goal.bounds-rights-j
bounds-rights-j c = let s = c in omega (arith, s.requires.has_lines.right_count)

pub overflow_cast-rights : goal.overflow_cast-rights
overflow_cast-rights c = let l = c.loop-j.j in omega (arith, c.type_inv.rights l)

pub write_line-next-requires : goal.write_line-next-requires
write_line-next-requires c =
    let s = c in
    let o = c.loop-j in
    let j = o.j in
    let below = c.loop-j-test.true in
    let is = lines_at s.args.kinds.now s.args.starts.now s.args.relations.now s.args.lefts.now s.args.rights.now j below s.requires.has_lines.left_count s.requires.has_lines.right_count in
    (s.requires.has_lines.left j below, s.requires.has_lines.right j below, s.requires.has_lines.nodes, omega (arith, o.invariant.1), lines-first (stored_line s.args.kinds.now s.args.starts.now (get_or s.args.relations.now j 0) (get_or s.args.lefts.now j 0) (get_or s.args.rights.now j 0)) (stored_lines s.args.kinds.now s.args.starts.now (drop (j + 1) s.args.relations.now) (drop (j + 1) s.args.lefts.now) (drop (j + 1) s.args.rights.now)) (subst (λ ls. LinesHaveRoom ls o.row o.stream) is o.invariant.2))

pub loop-j-preserved : goal.loop-j-preserved
loop-j-preserved c =
    let s = c in
    let o = c.loop-j in
    let j = o.j in
    let below = c.loop-j-test.true in
    let is = lines_at s.args.kinds.now s.args.starts.now s.args.relations.now s.args.lefts.now s.args.rights.now j below s.requires.has_lines.left_count s.requires.has_lines.right_count in
    let line = (stored_line s.args.kinds.now s.args.starts.now (get_or s.args.relations.now j 0) (get_or s.args.lefts.now j 0) (get_or s.args.rights.now j 0)) in
    let others = (stored_lines s.args.kinds.now s.args.starts.now (drop (j + 1) s.args.relations.now) (drop (j + 1) s.args.lefts.now) (drop (j + 1) s.args.rights.now)) in
    let w = c.write_line-next.ensures in
    let few = length-stored_lines s.args.kinds.now s.args.starts.now (drop (j + 1) s.args.relations.now) (drop (j + 1) s.args.lefts.now) (drop (j + 1) s.args.rights.now) in
    let fits : j + suc (length others) ≤ o.row = omega (arith, o.invariant.1, length-drop (j + 1) s.args.relations.now) in (
      omega arith,
      omega (arith, o.invariant.1, w.rows),
      lines_rest line others (subst (λ ls. LinesHaveRoom ls o.row o.stream) is o.invariant.2) w,
      λ new r x. o.invariant.3 new r (subst (λ ls. WroteLines ls j o.row o.stream o.table new r) (sym is) (wrote-cons line others fits w x)),
    )

pub returns : goal.returns
unfolding stored_lines
returns c =
    let s = c in
    let o = c.loop-j in
    let e : o.j ≡ length s.args.relations.now = omega (arith, c.loop-j-test.false, o.invariant.0) in
    let none : rest s.args.kinds.now s.args.starts.now s.args.relations.now s.args.lefts.now s.args.rights.now o.j ≡ [] =
    ap (λ l. stored_lines s.args.kinds.now s.args.starts.now l (drop o.j s.args.lefts.now) (drop o.j s.args.rights.now)) (ap (λ k. drop k s.args.relations.now) e ∙ drop-length s.args.relations.now) in
    o.invariant.3 o.table (record { row = o.row; stream = o.stream }) (subst (λ ls. WroteLines ls o.j o.row o.stream o.table o.table (record { row = o.row; stream = o.stream })) (sym none) (wrote_none o.j o.row o.stream o.table))
