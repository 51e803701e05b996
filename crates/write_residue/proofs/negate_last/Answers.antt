-- `write_residue::negate_last` meets its contract: what is known is negated, and behind other nodes a `not` is written.
use native.Mathlib.Omega.{arith}
use mathlib.Core.Path.{sym, ◌∙◌, ap, subst}
use mir.Syntax.{w64}
use mir.ValLaws.{to_z-of_z}
use Rattle.nodes.specs.Bounded.{bounded}
use Rattle.nodes.specs.Evaluate.{stored, negated_result}
use Rattle.arithmetic.specs.Coded.{coded}
use Rattle.arithmetic.proofs.Coded.{held-result}
use Rattle.residue.specs.Residue.{tree_of, negated_residue}
use Rattle.residue.specs.Written.{tree_size}
use Prim.Native.Nat.{◌≤◌}
use Rattle.write_residue.specs.Wrote.{Wrote}
use Rattle.write_residue.proofs.Answers.{end_within, negate_known, negate_varying}
use Rattle.write_residue.proofs.negate_last.Goals as goal

pub returns-then-inner : goal.returns-then-inner
returns-then-inner c =
    record {
      wrote = λ old r d w. negate_known w c.if-inner.true d (held-result (record { sfits = c.negated-value.type_inv }) (c.negated-value.ensures ∙ ap (λ z. coded (negated_result (bounded z))) (to_z-of_z w64 c.args.inner.value (record { sfits = omega arith })))) c.write_known.ensures;
    }

pub returns : goal.returns
returns c =
    let s = c in
    record {
      wrote = λ old r d w.
          let b : s.args.at ≤ 1025 = omega (arith, c.requires, end_within s.args.at (tree_size (tree_of r)), w.end) in
          subst (Wrote old (stored c.append.new.new_kinds c.append.new.new_values c.append.new.new_starts) s.args.at (negated_residue r)) (sym c.varying.ensures) (negate_varying w b c.if-inner.false c.append.ensures);
    }
