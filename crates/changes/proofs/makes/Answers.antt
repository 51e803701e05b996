-- `changes::makes` meets its contract: `made` is how many letters the streams from `stream` on make.
use mathlib.Core.Path.{◌≡◌, sym, ap, ap₂, ◌∙◌}
use Prim.Native.Nat.{◌*◌, ◌<◌, ◌-◌}
use native.Mathlib.Omega.{arith}
use lib.Dec.{eqb}
use Rattle.basics.proofs.Answers.{says_yes, says_no, says_both, reflects_says}
use Rattle.basics.proofs.Reflects.{eqb_reflects}
use Rattle.changes.specs.Axes.{letter_total, axes_in}
use Rattle.changes.proofs.Axes.{before, later, later-all, later-none, later-total, later-most}
use Rattle.changes.proofs.makes.Goals as goal

pub returns-then-letters-eq0 : goal.returns-then-letters-eq0
returns-then-letters-eq0 c m = omega (arith, m.0)

pub loop-stream-init : goal.loop-stream-init
unfolding letter_total
loop-stream-init c = (omega arith, sym (ap letter_total (later-none c.args.shape c.min-stream.result)))

pub value_count-size-requires : goal.value_count-size-requires
value_count-size-requires c = omega (arith, c.min-stream.ensures)

pub rows_fit-requires : goal.rows_fit-requires
rows_fit-requires c = tt

-- the last streams alone make too many
pub returns-then-not-rows_fit : goal.returns-then-not-rows_fit
returns-then-not-rows_fit c m =
    let shape = c.args.shape in
    let n = c.min-stream.result in
    let j = c.loop-stream.stream - 1 in
    let all : before shape n ≡ c.args.letters = ap (before shape) c.min-stream.ensures ∙ m.1 in
    let more : c.value_count-size.result * c.loop-stream.made ≡ letter_total (later c.args.shape c.min-stream.result (c.loop-stream.stream - 1)) =
    ap₂ ◌*◌ c.value_count-size.ensures c.loop-stream.invariant.1
    ∙ sym (later-total c.args.shape c.min-stream.result c.loop-stream.stream c.loop-stream-test.true c.loop-stream.invariant.0) in
    let most = later-most shape n j (omega arith) (omega (arith, all, m.0)) in
    says_no c.if-not-rows_fit.true c.rows_fit.ensures (omega (arith, more, most, all))

pub overflow_mul-made : goal.overflow_mul-made
overflow_mul-made c = omega (arith, says_yes c.if-not-rows_fit.false c.rows_fit.ensures)

pub loop-stream-preserved : goal.loop-stream-preserved
loop-stream-preserved c =
    let more : c.value_count-size.result * c.loop-stream.made ≡ letter_total (later c.args.shape c.min-stream.result (c.loop-stream.stream - 1)) = (let turn = c.loop-stream in
    ap₂ ◌*◌ c.value_count-size.ensures turn.invariant.1
    ∙ sym (later-total c.args.shape c.min-stream.result turn.stream c.loop-stream-test.true turn.invariant.0)) in
    (omega arith, more)

pub returns : goal.returns
returns c =
    let a = c.args in
    let n = c.min-stream.result in
    let made = c.loop-stream.made in
    let some : 0 < a.letters = let ne = c.if-letters-eq0.false in omega arith in
    let end : c.loop-stream.stream ≡ 0 = omega arith in
    let all : made ≡ letter_total (axes_in a.shape) =
    c.loop-stream.invariant.1 ∙ ap (λ j. letter_total (later a.shape n j)) end ∙ ap letter_total (later-all a.shape n) ∙ ap (before a.shape) c.min-stream.ensures in
    says_both (eqb made a.letters) (λ e. (some, sym all ∙ e)) (λ m. all ∙ m.1) (reflects_says (eqb_reflects made a.letters))
