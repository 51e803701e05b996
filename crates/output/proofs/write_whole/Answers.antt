-- `output::write_whole` meets its contract: the bytes of one write stand behind those of the writes before it.
use Rattle.std.proofs.Common.{◌≡◌, ◌≤◌, length-drop, ◌-◌, ◌++◌, length, take, drop, append-nil, ap, ◌∙◌, subst, arith, take_all}
use Rattle.std.proofs.lemmas.List.{take_rest}
use Rattle.std.specs.Io.KnownBytes.{Appends}
use Rattle.std.proofs.KnownBytes.{Appends-nil, Appends-trans, Appends-kept}
use Rattle.output.proofs.Writes.{written-more}
use Rattle.output.proofs.write_whole.Goals as goal

pub loop-done-init : goal.loop-done-init
loop-done-init g c = (omega arith, Appends-nil _)

pub loop-done-preserved : goal.loop-done-preserved
loop-done-preserved g c =
    let bytes = c.args.bytes.now in
    let done = c.loop-done.done in
    let n = c.in-Ok.count in
    let bound : n ≤ length (drop done bytes) = subst (λ r. n ≤ length r) (take_rest bytes done) c.in-Ok.ensures.bound in
    (omega (arith, length-drop done bytes), written-more _ _ _ bytes done n c.loop-done.invariant.1 c.in-Ok.ensures.bytes)

pub returns-in-Ok-eq0 : goal.returns-in-Ok-eq0
returns-in-Ok-eq0 g c =
    let bytes = c.args.bytes.now in
    let done = c.loop-done.done in
    let nothing : take done bytes ++ take c.in-Ok-eq0.field-0 (take (length bytes - done) (drop done bytes)) ≡ take done bytes = ap (λ n. take done bytes ++ take n (take (length bytes - done) (drop done bytes))) c.in-Ok-eq0.field-0-test ∙ append-nil _ in
    (done, c.loop-done-test.true, subst (Appends _ _) nothing (Appends-trans _ _ _ _ _ c.loop-done.invariant.1 c.in-Ok-eq0.ensures.bytes))

pub returns-in-Err : goal.returns-in-Err
returns-in-Err g c = (c.loop-done.done, c.loop-done-test.true, Appends-kept _ _ _ _ c.loop-done.invariant.1 c.in-Err.ensures.bytes)

pub returns : goal.returns
returns g c = subst (Appends _ _) (take_all _ _ (omega arith)) c.loop-done.invariant.1
