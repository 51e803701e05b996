-- `record_lines::run_names` meets its contract: before each turn the bytes so far are read, and none of them ends the line (Runs).
use Rattle.std.proofs.Common.{◌≡◌, arith, subst}
use Rattle.std.proofs.Math.Seq.{slice}
use Rattle.text.specs.Fold.{run_bytes}
use Rattle.sheet.specs.Names.{name_in}
use Rattle.record_names.specs.Machine.{names_byte}
use Rattle.record_lines.specs.Runs.{RunsLine}
use Rattle.record_lines.proofs.Runs.{so_far_none, so_far_more, so_far_ends}
use Rattle.record_lines.proofs.run_names.Goals as goal

pub loop-at-init : goal.loop-at-init
loop-at-init c = so_far_none _ _ _ _

pub loop-at-preserved : goal.loop-at-preserved
loop-at-preserved c = so_far_more _ _ _ _ c.loop-at.invariant c.loop-at-test.true c.if-byte-eq10.false c.names_byte-line.ensures

pub returns : goal.returns
returns c =
    let a = c.args in
    let end : c.loop-at.at ≡ c.max.result = omega arith in
    subst (λ n. RunsLine a.chunk.now a.from n × (c.loop-at.line ≡ run_bytes (names_byte (name_in a.names.now a.lengths.now)) a.start (slice a.from n a.chunk.now))) end
    (so_far_ends _ _ _ _ c.loop-at.invariant (λ h. absurd (omega arith)))

pub returns-then-byte-eq10 : goal.returns-then-byte-eq10
returns-then-byte-eq10 c = so_far_ends _ _ _ _ c.loop-at.invariant (λ h. c.if-byte-eq10.true)
