-- `output::write_again` meets its contract: the bytes of one write stand behind those of the writes before it, and a write that was interrupted left none.
use Rattle.std.proofs.Common.{◌≤◌, length, take, drop, length-drop, sym, subst, arith}
use Rattle.std.proofs.lemmas.List.{take_rest}
use Rattle.std.specs.Io.KnownBytes.{Appends}
use Rattle.std.proofs.KnownBytes.{Appends-kept}
use Rattle.output.proofs.Writes.{written-more}
use Rattle.output.proofs.write_again.Goals.{in-Ok, in-Err}
use Rattle.output.proofs.write_again.Goals as goal

pub loop-preserved : goal.loop-preserved
loop-preserved g c =
    let bytes = c.args.bytes.now in
    let done = c.loop.done in
    let before = c.loop.invariant in
    let old = g.W.Write.contents c.args.out.now in
    let new = g.W.Write.contents c.write.new.self in
    elim c.match-write.branch [
      | in-Ok w ↦
          let bound : w.in-Ok.count ≤ length (drop done bytes) = subst (λ r. w.in-Ok.count ≤ length r) (take_rest bytes done) w.in-Ok.ensures.bound in (
            omega (arith, before.0, length-drop done bytes, w.done-is),
            subst (λ k. Appends old new (take k bytes)) (sym w.done-is) (written-more _ _ _ bytes done w.in-Ok.count before.1 w.in-Ok.ensures.bytes),
          )
      | in-Err w ↦ (
        omega (arith, before.0, w.done-is),
        subst (λ k. Appends old new (take k bytes)) (sym w.done-is) (Appends-kept _ _ _ _ before.1 w.in-Err.ensures.bytes),
      )
    ]
