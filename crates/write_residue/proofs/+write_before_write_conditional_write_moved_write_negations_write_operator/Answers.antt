-- The functions that write the residue of a part by recursion meet their contracts. Each way out writes what the last node makes of the residues of
-- the parts (Recursion, Answers).
use Rattle.std.proofs.Common.{arith, ℕ, ◌≡◌, ◌+◌, ◌-◌, refl, sym, ◌∙◌, ap, true, cond, w64}
use mir.Val.{SFits}
use mir.ValLaws.{to_z-of_z}
use Rattle.meaning.specs.Value.{nonzero}
use Rattle.nodes.specs.Bounded.{bounded}
use Rattle.nodes.specs.Evaluate.{Nodes, View, stored, view}
use Rattle.arithmetic.proofs.Operators.{held_test}
use Rattle.arithmetic.proofs.Coded.{held-result}
use Rattle.evaluate.proofs.Decoding.{value_there, value-missing}
use Rattle.residue.specs.Residue.{Residue, is_known, known_value, chosen_residue, residue_before}
use Rattle.residue.proofs.Written.{residue_decodes}
use Rattle.write_residue.specs.Wrote.{negated_times}
use Rattle.write_residue.proofs.Recursion.{none_arm, conditional_arm, operator_arm, all-negated}
use Rattle.write_residue.proofs.Answers.{wrote-known, wrote_after, wrote_as, answer_as, wrote-behind, branch_residue, chosen_none, chosen_branch, choose-varying, negated-none, negated-more}
use Rattle.write_residue.proofs.+write_before_write_conditional_write_moved_write_negations_write_operator.Goals as goal

pub write_before-returns-then-end-eq0 : goal.write_before-returns-then-end-eq0
write_before-returns-then-end-eq0 t c =
    let N : Nodes = stored c.args.kinds.now c.args.values.now c.args.starts.now in
    let U : View = view c.args.window.now c.args.older.streams c.args.firsts.now c.args.older.whole in
    let e = c.args.part.end in
    let p = c.args.part.place in
    let before : ℕ → Residue = λ d. residue_before N U c.args.older.letters d p in
    wrote-known c.write_known.ensures (held-result (record { sfits = c.no_value_coded.type_inv }) c.no_value_coded.ensures) (none_arm N U c.args.older.letters p c.if-end-eq0.true)

pub write_conditional-returns-then-not-in_bound : goal.write_conditional-returns-then-not-in_bound
write_conditional-returns-then-not-in_bound t c =
    let N : Nodes = stored c.args.kinds.now c.args.values.now c.args.starts.now in
    let U : View = view c.args.window.now c.args.older.streams c.args.firsts.now c.args.older.whole in
    let e = c.args.part.end in
    let p = c.args.part.place in
    let before : ℕ → Residue = λ d. residue_before N U c.args.older.letters d p in
    let m = c.left_end-middle.result in
    let l = c.left_end-left.result in
    let arm : chosen_residue (before l) (before m) (before (e - 1)) ≡ before e =
    conditional_arm N U c.args.older.letters p e (λ z. omega (arith, c.requires.end_nonzero.0)) c.requires.end_nonzero.1 c.left_end-middle.ensures c.left_end-left.ensures in
    let x = c.write_before-test.result.value in
    let k : is_known (before l) ≡ true = sym c.write_before-test.ensures.known ∙ c.if-test.true in
    let v : bounded x ≡ known_value (before l) = ap bounded c.write_before-test.ensures.value ∙ residue_decodes N U c.args.older.letters l p in
    let f : SFits w64 x = record { sfits = omega arith } in
    let n = value-missing x v (held_test x f c.in_bound.ensures c.if-not-in_bound.true) in
    wrote_as c.write_before-test.ensures (chosen_none (before l) (before m) (before (e - 1)) k (sym n) ∙ arm)

pub write_conditional-returns-then-test : goal.write_conditional-returns-then-test
write_conditional-returns-then-test t c =
    let N : Nodes = stored c.args.kinds.now c.args.values.now c.args.starts.now in
    let U : View = view c.args.window.now c.args.older.streams c.args.firsts.now c.args.older.whole in
    let e = c.args.part.end in
    let p = c.args.part.place in
    let before : ℕ → Residue = λ d. residue_before N U c.args.older.letters d p in
    let m = c.left_end-middle.result in
    let l = c.left_end-left.result in
    let arm : chosen_residue (before l) (before m) (before (e - 1)) ≡ before e =
    conditional_arm N U c.args.older.letters p e (λ z. omega (arith, c.requires.end_nonzero.0)) c.requires.end_nonzero.1 c.left_end-middle.ensures c.left_end-left.ensures in
    let x = c.write_before-test.result.value in
    let k : is_known (before l) ≡ true = sym c.write_before-test.ensures.known ∙ c.if-test.true in
    let v : bounded x ≡ known_value (before l) = ap bounded c.write_before-test.ensures.value ∙ residue_decodes N U c.args.older.letters l p in
    let f : SFits w64 x = record { sfits = omega arith } in
    let n = value_there x v (held_test x f c.in_bound.ensures c.if-not-in_bound.false) in
    let b = c.taken-branch.ensures ∙ ap (λ z. cond (nonzero z) m (e - 1)) (to_z-of_z w64 x f) in
    wrote_as (wrote_after c.write_before-test.ensures.kept c.write_before.ensures)
    (branch_residue (nonzero x) before m (e - 1) b ∙ chosen_branch (before l) (before m) (before (e - 1)) k n ∙ arm)

pub write_conditional-returns : goal.write_conditional-returns
write_conditional-returns t c =
    let N : Nodes = stored c.args.kinds.now c.args.values.now c.args.starts.now in
    let U : View = view c.args.window.now c.args.older.streams c.args.firsts.now c.args.older.whole in
    let e = c.args.part.end in
    let p = c.args.part.place in
    let before : ℕ → Residue = λ d. residue_before N U c.args.older.letters d p in
    let m = c.left_end-middle.result in
    let l = c.left_end-left.result in
    let arm : chosen_residue (before l) (before m) (before (e - 1)) ≡ before e =
    conditional_arm N U c.args.older.letters p e (λ z. omega (arith, c.requires.end_nonzero.0)) c.requires.end_nonzero.1 c.left_end-middle.ensures c.left_end-left.ensures in
    answer_as
    (wrote_as (choose-varying c.write_before-test.ensures c.write_before-then.ensures c.write_before-other.ensures c.requires.asked.at_within c.if-test.false c.append.ensures) arm)
    c.varying.ensures

pub write_negations-loop-passed-init : goal.write_negations-loop-passed-init
write_negations-loop-passed-init t c =
    negated-none

pub write_negations-negate_last-last-requires : goal.write_negations-negate_last-last-requires
write_negations-negate_last-last-requires t c =
    let N : Nodes = stored c.args.kinds.now c.args.values.now c.args.starts.now in
    let U : View = view c.args.window.now c.args.older.streams c.args.firsts.now c.args.older.whole in
    let e = c.args.part.end in
    let p = c.args.part.place in
    let before : ℕ → Residue = λ d. residue_before N U c.args.older.letters d p in
    let d = c.past_negations-inner.result in
    let start = stored c.args.new_kinds.now c.args.new_values.now c.args.new_starts.now in
    let wrote = c.loop-passed.invariant.wrote start (before d) (residue_decodes N U c.args.older.letters d p) c.write_before-last.ensures in
    wrote-behind wrote c.requires.asked.at_within

pub write_negations-loop-passed-preserved : goal.write_negations-loop-passed-preserved
write_negations-loop-passed-preserved t c =
    let some : c.args.part.end - c.loop-passed._passed ≡ 0 → ⊥ = λ z. omega arith in
    let less : c.args.part.end - c.loop-passed._passed - 1 ≡ c.args.part.end - (c.loop-passed._passed + 1) = omega arith in
    let more = negated-more c.loop-passed.invariant some c.negate_last-last.ensures in
    rw less at more

pub write_negations-returns : goal.write_negations-returns
write_negations-returns t c =
    let N : Nodes = stored c.args.kinds.now c.args.values.now c.args.starts.now in
    let U : View = view c.args.window.now c.args.older.streams c.args.firsts.now c.args.older.whole in
    let e = c.args.part.end in
    let p = c.args.part.place in
    let before : ℕ → Residue = λ d. residue_before N U c.args.older.letters d p in
    let d = c.past_negations-inner.result in
    let start = stored c.args.new_kinds.now c.args.new_values.now c.args.new_starts.now in
    let wrote = c.loop-passed.invariant.wrote start (before d) (residue_decodes N U c.args.older.letters d p) c.write_before-last.ensures in
    let z : e - d - (e - c.loop-passed._passed) ≡ e - d = omega (arith, c.loop-passed-test.false) in
    wrote_as wrote
    (ap (λ n. negated_times n (before d)) z
    ∙ all-negated c.past_negations-inner.ensures (λ z. omega (arith, c.requires.end_nonzero.0)) N U c.args.older.letters p refl c.requires.end_nonzero.1)

pub write_operator-returns : goal.write_operator-returns
write_operator-returns t c =
    let N : Nodes = stored c.args.kinds.now c.args.values.now c.args.starts.now in
    let U : View = view c.args.window.now c.args.older.streams c.args.firsts.now c.args.older.whole in
    let e = c.args.part.end in
    let p = c.args.part.place in
    let before : ℕ → Residue = λ d. residue_before N U c.args.older.letters d p in
    let l = c.left_end-left.result in
    let start = stored c.args.new_kinds.now c.args.new_values.now c.args.new_starts.now in
    let mid = stored c.write_before-a.new.new_kinds c.write_before-a.new.new_values c.write_before-a.new.new_starts in
    wrote_as (c.operate_last.ensures.wrote start mid (before l) (before (e - 1)) c.write_before-a.ensures c.write_before-b.ensures)
    (operator_arm N U c.args.older.letters p e (λ z. omega (arith, c.requires.end_nonzero.0)) c.requires.end_nonzero.1 c.left_end-left.ensures)
