-- `winning_rows::sweeps` meets its contract: each sweep that turns something leaves fewer rows to turn, and the last one shows that all rows are settled.
use Prim.Native.Nat.{ℕ, ◌<◌, ◌≤◌}
use mathlib.Core.Path.{refl, sym, ◌∙◌}
use native.Mathlib.Omega.{arith}
use lib.ListN.{length}
use Rattle.automaton.specs.Ranking.{none}
use Rattle.automaton.proofs.Turns.{turns_rise, turns-left, turns_then, states-left-most}
use Rattle.winning_rows.specs.Sweeps.{lent_game, RowsSwept}
use Rattle.winning_rows.proofs.Sweeping.{fits-sized, swept_sized, sweeps_end}
use Rattle.winning_rows.proofs.sweeps.Goals as goal

pub loop-next-init : goal.loop-next-init
loop-next-init c = (refl, refl, λ final. none)

pub sweep-after-requires : goal.sweep-after-requires
sweep-after-requires c =
    let few : c.loop-next.next ≤ 4098 = (let start = c in
    omega (arith, turns-left {first = 2} (omega arith) (c.loop-next.invariant.2 λ s. 0), states-left-most start.args.to start.args.ranks.now, start.requires.few_rows)) in
    (fits-sized (sym c.loop-next.invariant.1) (sym c.loop-next.invariant.0) c.requires, few)

pub loop-next-smaller : goal.loop-next-smaller
loop-next-smaller c =
    let swept : (final : ℕ → ℕ)
    → RowsSwept (lent_game c.args.entries.now c.args.choice.now (length c.args.answers.now) (length c.args.ranks.now) final)
    c.args.to (λ s. s < length c.args.ranks.now) c.loop-next.ranks c.loop-next.next c.sweep-after.new.ranks c.sweep-after.result = (let args = c.args in
    let inv = c.loop-next.invariant in
    swept_sized args.entries.now args.choice.now inv.1 inv.0 c.sweep-after.ensures) in
    let turns = (swept (λ s. 0)).turns in
    omega (arith, turns-left (omega (arith, turns_rise (c.loop-next.invariant.2 λ s. 0))) turns, turns_rise turns, c.if-after-next.false)

pub loop-next-preserved : goal.loop-next-preserved
loop-next-preserved c =
    let swept : (final : ℕ → ℕ)
    → RowsSwept (lent_game c.args.entries.now c.args.choice.now (length c.args.answers.now) (length c.args.ranks.now) final)
    c.args.to (λ s. s < length c.args.ranks.now) c.loop-next.ranks c.loop-next.next c.sweep-after.new.ranks c.sweep-after.result = (let args = c.args in
    let inv = c.loop-next.invariant in
    swept_sized args.entries.now args.choice.now inv.1 inv.0 c.sweep-after.ensures) in
    (c.sweep-after.auto.ranks ∙ c.loop-next.invariant.0, c.sweep-after.auto.answers ∙ c.loop-next.invariant.1, λ final. turns_then (c.loop-next.invariant.2 final) (swept final).turns)

pub returns : goal.returns
returns c =
    let swept : (final : ℕ → ℕ)
    → RowsSwept (lent_game c.args.entries.now c.args.choice.now (length c.args.answers.now) (length c.args.ranks.now) final)
    c.args.to (λ s. s < length c.args.ranks.now) c.loop-next.ranks c.loop-next.next c.sweep-after.new.ranks c.sweep-after.result = (let args = c.args in
    let inv = c.loop-next.invariant in
    swept_sized args.entries.now args.choice.now inv.1 inv.0 c.sweep-after.ensures) in
    λ final. sweeps_end (c.sweep-after.auto.ranks ∙ c.loop-next.invariant.0) (c.loop-next.invariant.2 final) (swept final) c.if-after-next.true
