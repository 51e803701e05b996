-- `bounds::summary_before` meets its contract, by recursion on the place where the part ends: each call is for a part that ends earlier, and each
-- arm answers what the last node makes of the parts (Recursion), or what the prefixes at the end make of the part behind them (Prefixes).
use Prim.Native.Nat.{◌-◌, ◌≤◌, zero-le}
use native.Mathlib.Omega.{arith}
use mathlib.Core.Path.{refl, sym, ◌∙◌}
use Rattle.nodes.specs.Evaluate.{stored}
use Rattle.nodes.proofs.Parts.{left-before, stores-part}
use Rattle.arithmetic.proofs.Operators.{later}
use Rattle.bounds.proofs.Prefixes.{behind_prefixes, prefixes_last}
use Rattle.bounds.proofs.Recursion.{none_before, integer_arm, name_arm, conditional_arm, fby_arm, operator_arm}
use Rattle.bounds.proofs.+summary_before.Goals as goal

pub returns-then-end-eq0 : goal.returns-then-end-eq0
returns-then-end-eq0 t c =
    let s = c in
    c.no_summary.ensures ∙ none_before (stored s.args.kinds.now s.args.values.now s.args.starts.now) s.args.lows.now s.args.highs.now c.if-end-eq0.true

pub overflow_sub-i : goal.overflow_sub-i
overflow_sub-i t c = let s = c in omega (arith, s.requires)

pub bounds-kinds-i : goal.bounds-kinds-i
bounds-kinds-i t c = let s = c in omega (arith, s.requires)

pub inner_end-from-requires : goal.inner_end-from-requires
inner_end-from-requires t c = let s = c in omega (arith, s.requires)

pub summary_before-inner-requires : goal.summary_before-inner-requires
summary_before-inner-requires t c =
    let s = c in
    let l = c.inner_end-from.ensures.ends_within in
    (omega (arith, c.decreases, c.if-end-eq0.false), stores-part c.inner_end-from.result s.requires (omega arith))

pub after_prefixes-requires : goal.after_prefixes-requires
after_prefixes-requires t c =
    let s = c in
    (s.requires.kinds, prefixes_last c.if-end-eq0.false c.inner_end-from.ensures (sym c.is_prefix.ensures ∙ c.if-is_prefix.true))

pub returns-then-is_prefix : goal.returns-then-is_prefix
returns-then-is_prefix t c =
    let s = c in
    c.after_prefixes.ensures.summary (stored s.args.kinds.now s.args.values.now s.args.starts.now) s.args.lows.now s.args.highs.now refl c.summary_before-inner.ensures

pub offset_bounds-values-i : goal.offset_bounds-values-i
offset_bounds-values-i t c = let s = c in omega (arith, s.requires, s.well_formed)

pub bounds-values-i : goal.bounds-values-i
bounds-values-i t c = let s = c in omega (arith, s.requires)

pub offset_bounds-values-i-in-0 : goal.offset_bounds-values-i-in-0
offset_bounds-values-i-in-0 t c = let s = c in omega (arith, s.requires, s.well_formed)

pub bounds-values-i-in-0 : goal.bounds-values-i-in-0
bounds-values-i-in-0 t c = let s = c in omega (arith, s.requires)

pub offset_bounds-values-i-in-1 : goal.offset_bounds-values-i-in-1
offset_bounds-values-i-in-1 t c = let s = c in omega (arith, s.requires, s.well_formed)

pub bounds-values-i-in-1 : goal.bounds-values-i-in-1
bounds-values-i-in-1 t c = let s = c in omega (arith, s.requires)

pub summary_before-c-requires : goal.summary_before-c-requires
summary_before-c-requires t c =
    let s = c in
    let l : c.left_end-left.result ≤ s.args.end - 1 = left-before s.args.starts.now c.left_end-middle.result (s.args.end - 1) c.left_end-left.ensures (left-before s.args.starts.now (s.args.end - 1) (s.args.end - 1) c.left_end-middle.ensures (omega arith)) in
    (omega (arith, c.decreases, c.if-end-eq0.false), stores-part c.left_end-left.result s.requires (omega arith))

pub summary_before-a-requires : goal.summary_before-a-requires
summary_before-a-requires t c =
    let s = c in
    let l : c.left_end-middle.result ≤ s.args.end - 1 = left-before s.args.starts.now (s.args.end - 1) (s.args.end - 1) c.left_end-middle.ensures (omega arith) in
    (omega (arith, c.decreases, c.if-end-eq0.false), stores-part c.left_end-middle.result s.requires (omega arith))

pub summary_before-b-requires : goal.summary_before-b-requires
summary_before-b-requires t c =
    let s = c in
    let l : s.args.end - 1 ≤ s.args.end - 1 = omega arith in
    (omega (arith, c.decreases, c.if-end-eq0.false), stores-part (s.args.end - 1) s.requires (omega arith))

pub summary_before-a-requires-in-6 : goal.summary_before-a-requires-in-6
summary_before-a-requires-in-6 t c =
    let s = c in
    let l : c.left_end-left-in-6.result ≤ s.args.end - 1 = left-before s.args.starts.now (s.args.end - 1) (s.args.end - 1) c.left_end-left-in-6.ensures (omega arith) in
    (omega (arith, c.decreases, c.if-end-eq0.false), stores-part c.left_end-left-in-6.result s.requires (omega arith))

pub summary_before-b-requires-in-6 : goal.summary_before-b-requires-in-6
summary_before-b-requires-in-6 t c =
    let s = c in
    let l : s.args.end - 1 ≤ s.args.end - 1 = omega arith in
    (omega (arith, c.decreases, c.if-end-eq0.false), stores-part (s.args.end - 1) s.requires (omega arith))

pub summary_before-a-requires-in_default : goal.summary_before-a-requires-in_default
summary_before-a-requires-in_default t c =
    let s = c in
    let l : c.left_end-left-in_default.result ≤ s.args.end - 1 = left-before s.args.starts.now (s.args.end - 1) (s.args.end - 1) c.left_end-left-in_default.ensures (omega arith) in
    (omega (arith, c.decreases, c.if-end-eq0.false), stores-part c.left_end-left-in_default.result s.requires (omega arith))

pub summary_before-b-requires-in_default : goal.summary_before-b-requires-in_default
summary_before-b-requires-in_default t c =
    let s = c in
    let l : s.args.end - 1 ≤ s.args.end - 1 = omega arith in
    (omega (arith, c.decreases, c.if-end-eq0.false), stores-part (s.args.end - 1) s.requires (omega arith))

pub returns-in-0 : goal.returns-in-0
returns-in-0 t c =
    let s = c in
    c.leaf.ensures ∙ integer_arm (stored s.args.kinds.now s.args.values.now s.args.starts.now) s.args.lows.now s.args.highs.now s.args.end c.if-end-eq0.false (record { sfits = c.range_within-arg-1.given }) c.in-0.is c.range_within.ensures

pub returns-in-1 : goal.returns-in-1
returns-in-1 t c =
    let s = c in
    c.leaf-in-1.ensures ∙ name_arm (stored s.args.kinds.now s.args.values.now s.args.starts.now) s.args.lows.now s.args.highs.now s.args.end c.if-end-eq0.false (record { sfits = c.stream_range-arg-1.given }) c.in-1.is c.stream_range.ensures

pub returns-in-5 : goal.returns-in-5
returns-in-5 t c =
    let s = c in
    c.conditional.ensures
    ∙ conditional_arm (stored s.args.kinds.now s.args.values.now s.args.starts.now) s.args.lows.now s.args.highs.now s.args.end c.if-end-eq0.false c.in-5.is c.left_end-middle.ensures c.left_end-left.ensures c.summary_before-c.ensures c.summary_before-a.ensures c.summary_before-b.ensures

pub returns-in-6 : goal.returns-in-6
returns-in-6 t c =
    let s = c in
    c.followed.ensures ∙ fby_arm (stored s.args.kinds.now s.args.values.now s.args.starts.now) s.args.lows.now s.args.highs.now s.args.end c.if-end-eq0.false c.left_end-left-in-6.ensures c.summary_before-a-in-6.ensures c.summary_before-b-in-6.ensures c.in-6.is

pub returns-in_default : goal.returns-in_default
returns-in_default t c =
    let s = c in
    let rest = c.in_default.in_default-own.rest in
    let five = behind_prefixes _ (sym c.is_prefix.ensures ∙ c.if-is_prefix.false) (later (later zero-le rest.0.0.0.1) rest.0.0.1) in
    c.operator.ensures ∙ operator_arm (stored s.args.kinds.now s.args.values.now s.args.starts.now) s.args.lows.now s.args.highs.now s.args.end c.if-end-eq0.false c.left_end-left-in_default.ensures c.summary_before-a-in_default.ensures c.summary_before-b-in_default.ensures (later (later five rest.0.1) rest.1)
