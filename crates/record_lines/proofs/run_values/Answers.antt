-- `record_lines::run_values` meets its contract: before each turn the bytes so far are read, and none of them ends the line (Runs).
use Rattle.std.proofs.Common.{◌≡◌, arith, subst}
use Rattle.std.proofs.Math.Seq.{slice}
use Rattle.text.specs.Fold.{run_bytes}
use Rattle.letters.specs.Described.{described}
use Rattle.records.specs.Machine.{line_byte}
use Rattle.record_lines.specs.Runs.{RunsLine}
use Rattle.record_lines.proofs.Runs.{so_far_none, so_far_more, so_far_ends}
use Rattle.record_lines.proofs.run_values.Goals as goal

pub loop-at-init : goal.loop-at-init
loop-at-init c = so_far_none _ _ _ _

pub loop-at-preserved : goal.loop-at-preserved
loop-at-preserved c = so_far_more _ _ _ _ c.loop-at.invariant c.loop-at-test.true c.if-byte-eq10.false c.line_byte-line.ensures

pub returns : goal.returns
returns c =
    let a = c.args in
    let end : c.loop-at.at ≡ c.max.result = omega arith in
    subst (λ n. RunsLine a.chunk.now a.from n × (c.loop-at.line ≡ run_bytes (line_byte (described a.lows.now a.highs.now)) a.start (slice a.from n a.chunk.now))) end
    (so_far_ends _ _ _ _ c.loop-at.invariant (λ h. absurd (omega arith)))

pub returns-then-byte-eq10 : goal.returns-then-byte-eq10
returns-then-byte-eq10 c = so_far_ends _ _ _ _ c.loop-at.invariant (λ h. c.if-byte-eq10.true)
