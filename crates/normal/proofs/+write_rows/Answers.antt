-- `normal::write_rows` meets its contract, by recursion on the place where the part ends: each call is for a part that ends earlier, and each arm
-- writes what the last node makes of what the parts add (Recursion, Writing).
use Prim.Native.Nat.{ℕ, ◌-◌, ◌≤◌}
use native.Mathlib.Omega.{arith}
use mathlib.Core.Path.{refl}
use lib.ListN.{get_or}
use Rattle.nodes.proofs.Parts.{left-before}
use Rattle.normal.specs.Rows.{Rewriting, both_rewritings}
use Rattle.normal.specs.Stored.{rewriting_before}
use Rattle.normal.proofs.Writing.{room-same, wrote-same, wrote_nothing, room-left, room-right, wrote-joined, room-own-next, room_next, wrote-next, room-fby-own, room-fby-right, wrote-fby}
use Rattle.normal.proofs.Recursion.{rewriting_before-none, leaf_arm, next_arm, same_arm, conditional_arm, fby_arm, operator_arm, left-room}
use Rattle.normal.proofs.+write_rows.Goals as goal

pub returns-then-end-eq0 : goal.returns-then-end-eq0
returns-then-end-eq0 t c =
    let a = c.args in
    wrote_nothing (rewriting_before-none a.kinds.now a.starts.now c.if-end-eq0.true) a.row a.stream a.table.now

pub returns-then-kind-lt-FIRST_NODE : goal.returns-then-kind-lt-FIRST_NODE
returns-then-kind-lt-FIRST_NODE t c =
    let a = c.args in
    wrote_nothing (leaf_arm a.kinds.now a.starts.now a.end c.if-end-eq0.false c.if-kind-lt-FIRST_NODE.true) a.row a.stream a.table.now

pub put_next-requires : goal.put_next-requires
put_next-requires t c =
    let a = c.args in
    let before : ℕ → Rewriting = rewriting_before a.kinds.now a.starts.now in
    let last = a.end - 1 in
    let own = room-own-next last (before last) (next_arm a.kinds.now a.starts.now a.end c.if-end-eq0.false c.if-kind-eq-NEXT_NODE.true) c.requires.2 in
    (own.0, own.1, omega (arith, c.requires.1))

pub write_rows-requires : goal.write_rows-requires
write_rows-requires t c =
    let a = c.args in
    let before : ℕ → Rewriting = rewriting_before a.kinds.now a.starts.now in
    let last = a.end - 1 in
    (omega (arith, c.decreases, c.if-end-eq0.false), (omega (arith, c.requires.0), omega (arith, c.requires.1), room_next last (before last) (next_arm a.kinds.now a.starts.now a.end c.if-end-eq0.false c.if-kind-eq-NEXT_NODE.true) c.requires.2))

pub returns-then-kind-eq-NEXT_NODE : goal.returns-then-kind-eq-NEXT_NODE
returns-then-kind-eq-NEXT_NODE t c =
    let a = c.args in
    let before : ℕ → Rewriting = rewriting_before a.kinds.now a.starts.now in
    let last = a.end - 1 in
    wrote-next last (before last) (next_arm a.kinds.now a.starts.now a.end c.if-end-eq0.false c.if-kind-eq-NEXT_NODE.true) c.put_next.ensures c.write_rows.ensures

pub write_rows-requires-then-kind-lt-CONDITIONAL_NODE : goal.write_rows-requires-then-kind-lt-CONDITIONAL_NODE
write_rows-requires-then-kind-lt-CONDITIONAL_NODE t c =
    let a = c.args in
    let before : ℕ → Rewriting = rewriting_before a.kinds.now a.starts.now in
    let last = a.end - 1 in
    (omega (arith, c.decreases, c.if-end-eq0.false), (omega (arith, c.requires.0), omega (arith, c.requires.1), room-same (same_arm a.kinds.now a.starts.now a.end c.if-end-eq0.false c.if-kind-lt-FIRST_NODE.false c.if-kind-eq-NEXT_NODE.false c.if-kind-lt-CONDITIONAL_NODE.true) c.requires.2))

pub returns-then-kind-lt-CONDITIONAL_NODE : goal.returns-then-kind-lt-CONDITIONAL_NODE
returns-then-kind-lt-CONDITIONAL_NODE t c =
    let a = c.args in
    wrote-same (same_arm a.kinds.now a.starts.now a.end c.if-end-eq0.false c.if-kind-lt-FIRST_NODE.false c.if-kind-eq-NEXT_NODE.false c.if-kind-lt-CONDITIONAL_NODE.true) c.write_rows-then-kind-lt-CONDITIONAL_NODE.ensures

pub write_rows-c-requires : goal.write_rows-c-requires
write_rows-c-requires t c =
    let a = c.args in
    let before : ℕ → Rewriting = rewriting_before a.kinds.now a.starts.now in
    let last = a.end - 1 in
    let m : c.left_end-middle.result ≤ last = left-before a.starts.now last last c.left_end-middle.ensures (omega arith) in
    let l : c.left_end-first.result ≤ last = left-before a.starts.now c.left_end-middle.result last c.left_end-first.ensures m in
    (omega (arith, c.decreases, c.if-end-eq0.false), (omega (arith, c.requires.0), omega (arith, c.requires.1), room-left (before c.left_end-first.result) (both_rewritings (before c.left_end-middle.result) (before last)) (conditional_arm a.kinds.now a.starts.now a.end c.if-end-eq0.false c.left_end-middle.ensures c.if-kind-eq-CONDITIONAL_NODE.true c.left_end-first.ensures) c.requires.2))

pub write_rows-a-requires : goal.write_rows-a-requires
write_rows-a-requires t c =
    let a = c.args in
    let before : ℕ → Rewriting = rewriting_before a.kinds.now a.starts.now in
    let last = a.end - 1 in
    let m : c.left_end-middle.result ≤ last = left-before a.starts.now last last c.left_end-middle.ensures (omega arith) in
    (omega (arith, c.decreases, c.if-end-eq0.false), (omega (arith, c.requires.0), omega (arith, c.requires.1), room-left (before c.left_end-middle.result) (before last) refl (room-right (before c.left_end-first.result) (both_rewritings (before c.left_end-middle.result) (before last)) (conditional_arm a.kinds.now a.starts.now a.end c.if-end-eq0.false c.left_end-middle.ensures c.if-kind-eq-CONDITIONAL_NODE.true c.left_end-first.ensures) c.write_rows-c.ensures c.requires.2)))

pub write_rows-requires-then-kind-eq-CONDITIONAL_NODE : goal.write_rows-requires-then-kind-eq-CONDITIONAL_NODE
write_rows-requires-then-kind-eq-CONDITIONAL_NODE t c =
    let a = c.args in
    let before : ℕ → Rewriting = rewriting_before a.kinds.now a.starts.now in
    let last = a.end - 1 in
    (omega (arith, c.decreases, c.if-end-eq0.false), (omega (arith, c.requires.0), omega (arith, c.requires.1), room-right (before c.left_end-middle.result) (before last) refl c.write_rows-a.ensures (room-right (before c.left_end-first.result) (both_rewritings (before c.left_end-middle.result) (before last)) (conditional_arm a.kinds.now a.starts.now a.end c.if-end-eq0.false c.left_end-middle.ensures c.if-kind-eq-CONDITIONAL_NODE.true c.left_end-first.ensures) c.write_rows-c.ensures c.requires.2)))

pub returns-then-kind-eq-CONDITIONAL_NODE : goal.returns-then-kind-eq-CONDITIONAL_NODE
returns-then-kind-eq-CONDITIONAL_NODE t c =
    let a = c.args in
    let before : ℕ → Rewriting = rewriting_before a.kinds.now a.starts.now in
    let last = a.end - 1 in
    wrote-joined (before c.left_end-first.result) (both_rewritings (before c.left_end-middle.result) (before last)) (conditional_arm a.kinds.now a.starts.now a.end c.if-end-eq0.false c.left_end-middle.ensures c.if-kind-eq-CONDITIONAL_NODE.true c.left_end-first.ensures) c.write_rows-c.ensures (wrote-joined (before c.left_end-middle.result) (before last) refl c.write_rows-a.ensures c.write_rows-then-kind-eq-CONDITIONAL_NODE.ensures)

pub write_rows-a-requires-2 : goal.write_rows-a-requires-2
write_rows-a-requires-2 t c =
    let a = c.args in
    let before : ℕ → Rewriting = rewriting_before a.kinds.now a.starts.now in
    let last = a.end - 1 in
    let m : c.left_end-middle.result ≤ last = left-before a.starts.now last last c.left_end-middle.ensures (omega arith) in
    (omega (arith, c.decreases, c.if-end-eq0.false), (omega (arith, c.requires.0), omega (arith, c.requires.1), left-room a.kinds.now a.starts.now a.end c.if-end-eq0.false c.left_end-middle.ensures c.if-kind-lt-CONDITIONAL_NODE.false c.if-kind-eq-CONDITIONAL_NODE.false c.requires.2))

pub put_fby-requires : goal.put_fby-requires
put_fby-requires t c =
    let a = c.args in
    let before : ℕ → Rewriting = rewriting_before a.kinds.now a.starts.now in
    let last = a.end - 1 in
    let m : c.left_end-middle.result ≤ last = left-before a.starts.now last last c.left_end-middle.ensures (omega arith) in
    let own = room-fby-own c.left_end-middle.result last (before c.left_end-middle.result) (before last) (fby_arm a.kinds.now a.starts.now a.end c.if-end-eq0.false c.left_end-middle.ensures c.if-kind-eq-FBY_NODE.true) c.write_rows-a-2.ensures c.requires.2 in
    (own.0, own.1, omega (arith, c.requires.1), omega (arith, c.requires.1), own.2)

pub overflow_add-a : goal.overflow_add-a
overflow_add-a t c =
    let a = c.args in
    let before : ℕ → Rewriting = rewriting_before a.kinds.now a.starts.now in
    let last = a.end - 1 in
    let own = room-fby-own c.left_end-middle.result last (before c.left_end-middle.result) (before last) (fby_arm a.kinds.now a.starts.now a.end c.if-end-eq0.false c.left_end-middle.ensures c.if-kind-eq-FBY_NODE.true) c.write_rows-a-2.ensures c.requires.2 in
    omega arith

pub overflow_add-a-then-kind-eq-FBY_NODE : goal.overflow_add-a-then-kind-eq-FBY_NODE
overflow_add-a-then-kind-eq-FBY_NODE t c =
    let a = c.args in
    let before : ℕ → Rewriting = rewriting_before a.kinds.now a.starts.now in
    let last = a.end - 1 in
    let own = room-fby-own c.left_end-middle.result last (before c.left_end-middle.result) (before last) (fby_arm a.kinds.now a.starts.now a.end c.if-end-eq0.false c.left_end-middle.ensures c.if-kind-eq-FBY_NODE.true) c.write_rows-a-2.ensures c.requires.2 in
    omega arith

pub write_rows-requires-then-kind-eq-FBY_NODE : goal.write_rows-requires-then-kind-eq-FBY_NODE
write_rows-requires-then-kind-eq-FBY_NODE t c =
    let a = c.args in
    let before : ℕ → Rewriting = rewriting_before a.kinds.now a.starts.now in
    let last = a.end - 1 in
    (omega (arith, c.decreases, c.if-end-eq0.false), (omega (arith, c.requires.0), omega (arith, c.requires.1), room-fby-right c.left_end-middle.result last (before c.left_end-middle.result) (before last) (fby_arm a.kinds.now a.starts.now a.end c.if-end-eq0.false c.left_end-middle.ensures c.if-kind-eq-FBY_NODE.true) c.write_rows-a-2.ensures c.requires.2))

pub returns-then-kind-eq-FBY_NODE : goal.returns-then-kind-eq-FBY_NODE
returns-then-kind-eq-FBY_NODE t c =
    let a = c.args in
    let before : ℕ → Rewriting = rewriting_before a.kinds.now a.starts.now in
    let last = a.end - 1 in
    wrote-fby c.left_end-middle.result last (before c.left_end-middle.result) (before last) (fby_arm a.kinds.now a.starts.now a.end c.if-end-eq0.false c.left_end-middle.ensures c.if-kind-eq-FBY_NODE.true) c.write_rows-a-2.ensures c.put_fby.ensures c.write_rows-then-kind-eq-FBY_NODE.ensures

pub write_rows-requires-2 : goal.write_rows-requires-2
write_rows-requires-2 t c =
    let a = c.args in
    let before : ℕ → Rewriting = rewriting_before a.kinds.now a.starts.now in
    let last = a.end - 1 in
    let k : 7 ≤ get_or a.kinds.now last 0 = omega (arith, c.if-kind-lt-CONDITIONAL_NODE.false, c.if-kind-eq-CONDITIONAL_NODE.false, c.if-kind-eq-FBY_NODE.false) in
    (omega (arith, c.decreases, c.if-end-eq0.false), (omega (arith, c.requires.0), omega (arith, c.requires.1), room-right (before c.left_end-middle.result) (before last) (operator_arm a.kinds.now a.starts.now a.end c.if-end-eq0.false c.left_end-middle.ensures k) c.write_rows-a-2.ensures c.requires.2))

pub returns : goal.returns
returns t c =
    let a = c.args in
    let before : ℕ → Rewriting = rewriting_before a.kinds.now a.starts.now in
    let last = a.end - 1 in
    let k : 7 ≤ get_or a.kinds.now last 0 = omega (arith, c.if-kind-lt-CONDITIONAL_NODE.false, c.if-kind-eq-CONDITIONAL_NODE.false, c.if-kind-eq-FBY_NODE.false) in
    wrote-joined (before c.left_end-middle.result) (before last) (operator_arm a.kinds.now a.starts.now a.end c.if-end-eq0.false c.left_end-middle.ensures k) c.write_rows-a-2.ensures c.write_rows-2.ensures
