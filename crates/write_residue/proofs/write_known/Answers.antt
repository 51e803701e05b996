-- `write_residue::write_known` meets its contract: the number is written as an integer.
use mathlib.Core.Path.{subst, sym}
use lib.IntN.{ℤ}
use mir.Syntax.{w64}
use mir.ValLaws.{to_z-of_z}
use Rattle.nodes.specs.Evaluate.{stored}
use Rattle.write_residue.specs.Wrote.{known_at, WroteKnown}
use Rattle.write_residue.proofs.Answers.{known_wrote}
use Rattle.write_residue.proofs.write_known.Goals as goal

pub returns : goal.returns
returns c =
    let s = c in
    let e = to_z-of_z w64 s.args.value s.ranges.value in
    let w = known_wrote c.append-end.ensures in
    subst (λ (z : ℤ). WroteKnown (stored s.args.new_kinds.now s.args.new_values.now s.args.new_starts.now) (stored c.append-end.new.new_kinds c.append-end.new.new_values c.append-end.new.new_starts) s.args.at s.args.value (known_at z c.append-end.result)) (sym e)
    (subst (λ (z : ℤ). WroteKnown (stored s.args.new_kinds.now s.args.new_values.now s.args.new_starts.now) (stored c.append-end.new.new_kinds c.append-end.new.new_values c.append-end.new.new_starts) s.args.at z (known_at z c.append-end.result)) e w)
