-- `input::read_input` meets its contract: what each read gives stands behind what was taken before (Reading).
use Rattle.std.proofs.Common.{rules, ◌≡◌, ◌≤◌, ◌<◌, ◌-◌, ◌∙◌, arith, length, sym, ap, subst, refl}
use lib.ListN.{take}
use borrow.Rule.Slice.PartMut.{put_mid}
use Rattle.arithmetic.proofs.Machine.{held_both}
use Rattle.input.specs.Input.{after_read, TakesFrom}
use Rattle.input.specs.declared.Progress.{Progress}
use Rattle.input.proofs.Reading.{HasRead, nothing_read, read_on, unfailed, none_taken, taken_more}
use Rattle.input.proofs.read_input.Goals as goal

pub loop-more-init : goal.loop-more-init
loop-more-init g c = (nothing_read _, (λ e. refl), λ e few. none_taken g.R.Read.remaining c.args.source.now)

pub loop-more-preserved : goal.loop-more-preserved
loop-more-preserved g c =
    let l = c.loop-more in
    let room = length l.bytes in
    let answer = c.read_answer-got.result in
    let ys = c.read_answer-got.new.bytes in
    let whole = put_mid l.size (room - l.size) l.bytes ys in
    let long : length whole ≡ room = search rules in
    let told : c.after_read-after.result ≡ after_read answer l.size room = c.after_read-after.ensures ∙ ap (λ z. after_read z l.size (length whole)) (held_both (λ x y. x) answer answer (record { sfits = c.read_answer-got.type_inv }) (record { sfits = c.read_answer-got.type_inv })) ∙ ap (after_read answer l.size) long in
    let size : length ys ≡ room - l.size = search rules in
    let left : l.size < room = l.invariant.0.left c.loop-more-test.true in
    let read = subst (λ (a : Progress). HasRead room a.size a.failed a.more) (sym told) (read_on room l.size left answer) in (
      subst (λ n. HasRead n c.after_read-after.result.size c.after_read-after.result.failed c.after_read-after.result.more) (sym long) read,
      (λ e. ap (λ (a : Progress). a.failed) told ∙ unfailed answer l.size room (sym (ap (λ (a : Progress). a.more) told) ∙ e)),
      λ ok few.
          let small : room ≤ 9223372036854775807 = omega (arith, few, long) in
          let took = l.invariant.2 (l.invariant.1 c.loop-more-test.true) small in
          let kept = taken_more g.R.Read.remaining c.args.source.now l.source c.read_answer-got.new.source l.size l.bytes ys answer l.invariant.0.within size (omega (arith, size, small)) took c.read_answer-got.ensures.read
          c.read_answer-got.ensures.within (sym (ap (λ (a : Progress). a.failed) told) ∙ ok) in
          subst (λ n. TakesFrom g.R.Read.remaining c.args.source.now c.read_answer-got.new.source (take n whole)) (sym (ap (λ (a : Progress). a.size) told)) kept,
    )

pub returns : goal.returns
returns g c = record { input = record { within = omega (arith, c.loop-more.invariant.0.within); empty = c.loop-more.invariant.0.empty }; next = c.loop-more.invariant.2 }
