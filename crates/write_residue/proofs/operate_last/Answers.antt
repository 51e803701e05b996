-- `write_residue::operate_last` meets its contract: the operator is applied to what is known, and behind other nodes it is written.
use Prim.Native.Nat.{◌≤◌}
use native.Mathlib.Omega.{arith}
use mathlib.Core.Path.{◌≡◌, sym, ◌∙◌, subst}
use mathlib.Core.Bool.{true, false, ◌&&◌}
use Rattle.nodes.specs.Evaluate.{stored}
use Rattle.arithmetic.specs.Coded.{coded}
use Rattle.arithmetic.proofs.Coded.{held-result}
use Rattle.arithmetic.proofs.Machine.{held_both}
use Rattle.nodes.specs.Bounded.{applied_by_kind}
use Rattle.residue.specs.Residue.{tree_of, operated_residue}
use Rattle.residue.specs.Written.{tree_size}
use Rattle.write_residue.specs.Wrote.{Wrote}
use Rattle.write_residue.proofs.Answers.{end_within, operate_known, operate_varying}
use Rattle.write_residue.proofs.operate_last.Goals as goal
use Rattle.write_residue.proofs.operate_last.Goals.{else-left-via-then-left+else-right, else-left-via-else-left}

pub returns-then-right : goal.returns-then-right
returns-then-right c =
    let s = c in
    let both : (s.args.left.known && s.args.right.known) ≡ true = simp (c.if-left.true, c.if-right.true) in
    record {
      wrote = λ old between r q u w. operate_known s.args.kind u w (omega (arith, s.requires, end_within s.args.left.end (tree_size (tree_of q)), w.end)) both (held-result (record { sfits = c.apply_coded-value.type_inv }) (c.apply_coded-value.ensures ∙ held_both (λ x y. coded (applied_by_kind s.args.kind x y)) s.args.left.value s.args.right.value (record { sfits = omega arith }) (record { sfits = omega arith }))) c.write_known.ensures;
    }

pub returns : goal.returns
returns c =
    let s = c in
    let one : (s.args.left.known && s.args.right.known) ≡ false = elim c.else-left.branch [
      | else-left-via-then-left+else-right w ↦ simp (w.if-left.true, w.if-right.false)
      | else-left-via-else-left w ↦ simp w.if-left.false
    ] in
    record {
      wrote = λ old between r q u w.
          let b : s.args.at ≤ 1025 = omega (arith, s.requires, end_within s.args.left.end (tree_size (tree_of q)), w.end) in
          subst (Wrote old (stored c.append.new.new_kinds c.append.new.new_values c.append.new.new_starts) s.args.at (operated_residue s.args.kind r q)) (sym c.varying.ensures)
          (operate_varying s.args.kind u w b one c.append.ensures);
    }
