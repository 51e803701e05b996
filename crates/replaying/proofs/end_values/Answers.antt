-- `replaying::end_values` meets its contract: the line of the outcome is written, for which there is room (Outcomes).
use native.Mathlib.Omega.{arith}
use mathlib.Core.List.{[]}
use Rattle.records.specs.Machine.{line_end}
use Rattle.replaying.specs.Machine.{played_sheet, stored_streams, line_outcome}
use Rattle.replaying.proofs.Outcomes.{outcome-numbered, refused-line, state-line}
use Rattle.replaying.proofs.end_values.Goals as goal

pub line_leads-led-requires : goal.line_leads-led-requires
line_leads-led-requires c = c.requires.0

pub refusal_line-requires : goal.refusal_line-requires
refusal_line-requires c = tt

pub returns-then-refusal-ne0 : goal.returns-then-refusal-ne0
returns-then-refusal-ne0 c =
    let b = c in
    let a = b.args in
    let s = played_sheet [] [] a.lows.now a.highs.now a.entries.now in
    let l = c.line_leads-led in
    refused-line (line_outcome s a.line a.state) l.ensures b.requires.1 c.if-refusal-ne0.true (omega arith) c.refusal_line.ensures

pub pair_line-requires : goal.pair_line-requires
pair_line-requires c = tt

pub returns : goal.returns
returns c =
    let b = c in
    let a = b.args in
    let s = played_sheet [] [] a.lows.now a.highs.now a.entries.now in
    let l = c.line_leads-led in
    state-line (line_outcome s a.line a.state) l.ensures b.requires.1 (outcome-numbered s a.state (line_end (stored_streams s) a.line)) c.if-refusal-ne0.false (omega arith) (omega arith) c.pair_line.ensures
