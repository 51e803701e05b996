-- `replaying::line_leads` meets its contract: its tests tell the outcome (Outcomes).
use mathlib.Core.Path.{◌∙◌, ap}
use mathlib.Core.List.{[]}
use Rattle.automaton.specs.Stored.{entry_at}
use Rattle.replaying.specs.Machine.{played_sheet, outcome_of, led_to}
use Rattle.replaying.proofs.Outcomes.{led-refused, led-nowhere, led-state}
use Rattle.replaying.proofs.line_leads.Goals as goal

pub line_end-end-requires : goal.line_end-end-requires
line_end-end-requires c = tt

pub returns-then-refusal-ne0 : goal.returns-then-refusal-ne0
returns-then-refusal-ne0 c =
    let a = c.args in
    let s = played_sheet [] [] a.lows.now a.highs.now a.entries.now in
    led-refused s a.state c.line_end-end.result c.if-refusal-ne0.true ∙ ap (λ e. led_to (outcome_of s a.state e)) c.line_end-end.ensures

pub entry_at-next-requires : goal.entry_at-next-requires
entry_at-next-requires c = tt

pub returns-then-next-eq65535 : goal.returns-then-next-eq65535
returns-then-next-eq65535 c =
    let b = c in
    let a = b.args in
    let s = played_sheet [] [] a.lows.now a.highs.now a.entries.now in
    let e = c.line_end-end.result in
    led-nowhere s a.state e c.if-refusal-ne0.false (c.entry_at-next.ensures ∙ ap (λ k. entry_at k a.entries.now a.state e.letter) b.requires) c.if-next-eq65535.true ∙ ap (λ x. led_to (outcome_of s a.state x)) c.line_end-end.ensures

pub returns : goal.returns
returns c =
    let b = c in
    let a = b.args in
    let s = played_sheet [] [] a.lows.now a.highs.now a.entries.now in
    let e = c.line_end-end.result in
    led-state s a.state e c.if-refusal-ne0.false (c.entry_at-next.ensures ∙ ap (λ k. entry_at k a.entries.now a.state e.letter) b.requires) c.if-next-eq65535.false ∙ ap (λ x. led_to (outcome_of s a.state x)) c.line_end-end.ensures
