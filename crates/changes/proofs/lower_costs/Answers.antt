-- `changes::lower_costs` meets its contract: the streams from `stream` on have had their passes (`PassesFrom`).
use mathlib.Core.Path.{◌≡◌, refl, sym, ap, ap₂, ◌∙◌, subst}
use mathlib.Core.Bool.{Bool}
use Prim.Native.Nat.{ℕ, ◌*◌, ◌<◌, ◌-◌}
use native.Mathlib.Omega.{arith}
use native.Mathlib.Nat.{zero-mul}
use lib.ListN.{length}
use Rattle.basics.specs.Lists.{at}
use Rattle.basics.proofs.Answers.{says_yes, says_no}
use Rattle.changes.specs.Axes.{axes_from, axis_in}
use Rattle.changes.specs.Least.{IsLeastFrom}
use Rattle.changes.specs.Passes.{LowersBlocks}
use Rattle.changes.proofs.Axes.{before}
use Rattle.changes.proofs.Blocks.{block_inside}
use Rattle.changes.proofs.Loops.{whole_blocks, some-values, some-later, PassesFrom, passes-start, passes-next, passes-end}
use Rattle.changes.proofs.lower_costs.Goals as goal

pub makes-requires : goal.makes-requires
makes-requires c = tt

pub returns-then-not-makes : goal.returns-then-not-makes
returns-then-not-makes c =
    let no = says_no c.if-not-makes.true c.makes.ensures in
    record { same_length = refl; lowered = λ e a h. absurd (no (omega arith, e)); kept = λ n. refl }

pub loop-stream-init : goal.loop-stream-init
loop-stream-init c = let a = c.args in (omega arith, refl, passes-start a.shape c.min-stream.result a.row.now)

pub value_count-size-requires : goal.value_count-size-requires
value_count-size-requires c = omega (arith, c.min-stream.ensures)

pub is_set-requires : goal.is_set-requires
is_set-requires c = omega (arith, c.min-stream.ensures)

pub lower_stream-requires : goal.lower_stream-requires
lower_stream-requires c =
    let all : let a = c.args in (0 < length a.row.now) × (before a.shape c.min-stream.result ≡ length a.row.now) = (let made = c.makes in
    let m = says_yes c.if-not-makes.false made.ensures in
    (m.0, ap (before c.args.shape) c.min-stream.ensures ∙ m.1)) in
    let whole : let start = c in
    length start.args.row.now ≡ before start.args.shape (c.loop-stream.stream - 1) * (c.value_count-size.result * c.loop-stream.stride) = (let a = c.args in
    let turn = c.loop-stream in
    let known = all in
    whole_blocks a.shape c.min-stream.result known.1 known.0 turn.stream c.loop-stream-test.true turn.invariant.0
    ∙ ap₂ (λ z k. before a.shape (turn.stream - 1) * (z * k)) (sym c.value_count-size.ensures) (sym turn.invariant.2.strides)) in
    let a = c.args in
    let n = c.min-stream.result in
    let turn = c.loop-stream in
    let known = all in
    let values = some-values a.shape n known.1 known.0 turn.stream c.loop-stream-test.true turn.invariant.0 in
    let later = some-later a.shape n known.1 known.0 turn.stream c.loop-stream-test.true turn.invariant.0 in (
      omega (arith, values, c.value_count-size.ensures),
      omega (arith, later, turn.invariant.2.strides),
      (before a.shape (turn.stream - 1), turn.invariant.1 ∙ whole),
      omega (arith, known.0, turn.invariant.1),
    )

pub overflow_mul-stride : goal.overflow_mul-stride
overflow_mul-stride c =
    let all : let a = c.args in (0 < length a.row.now) × (before a.shape c.min-stream.result ≡ length a.row.now) = (let made = c.makes in
    let m = says_yes c.if-not-makes.false made.ensures in
    (m.0, ap (before c.args.shape) c.min-stream.ensures ∙ m.1)) in
    let whole : let start = c in
    length start.args.row.now ≡ before start.args.shape (c.loop-stream.stream - 1) * (c.value_count-size.result * c.loop-stream.stride) = (let a = c.args in
    let turn = c.loop-stream in
    let known = all in
    whole_blocks a.shape c.min-stream.result known.1 known.0 turn.stream c.loop-stream-test.true turn.invariant.0
    ∙ ap₂ (λ z k. before a.shape (turn.stream - 1) * (z * k)) (sym c.value_count-size.ensures) (sym turn.invariant.2.strides)) in
    let up = c in
    let a = up.args in
    let width = up.value_count-size.result * up.loop-stream.stride in
    let blocks = before a.shape (up.loop-stream.stream - 1) in
    omega (arith, block_inside 0 blocks width (omega (arith, zero-mul width, whole, (all).0)), zero-mul width, whole)

pub loop-stream-preserved : goal.loop-stream-preserved
loop-stream-preserved c =
    let all : let a = c.args in (0 < length a.row.now) × (before a.shape c.min-stream.result ≡ length a.row.now) = (let made = c.makes in
    let m = says_yes c.if-not-makes.false made.ensures in
    (m.0, ap (before c.args.shape) c.min-stream.ensures ∙ m.1)) in
    let whole : let start = c in
    length start.args.row.now ≡ before start.args.shape (c.loop-stream.stream - 1) * (c.value_count-size.result * c.loop-stream.stride) = (let a = c.args in
    let turn = c.loop-stream in
    let known = all in
    whole_blocks a.shape c.min-stream.result known.1 known.0 turn.stream c.loop-stream-test.true turn.invariant.0
    ∙ ap₂ (λ z k. before a.shape (turn.stream - 1) * (z * k)) (sym c.value_count-size.ensures) (sym turn.invariant.2.strides)) in
    let up = c in
    let a = up.args in
    let n = up.min-stream.result in
    let turn = up.loop-stream in
    let blocks = before a.shape (turn.stream - 1) in
    let next = c.lower_stream.new.row in
    let lowered = c.lower_stream.ensures blocks (turn.invariant.1 ∙ whole) in (
      omega arith,
      lowered.same_length ∙ turn.invariant.1,
      subst (λ (z : ℕ). PassesFrom a.shape n (turn.stream - 1) (z * turn.stride) a.row.now next) (sym up.value_count-size.ensures)
          (passes-next a.shape n up.loop-stream-test.true turn.invariant.0 turn.invariant.2
          (subst (λ (z : ℕ). LowersBlocks (axis_in a.shape (turn.stream - 1)).counts z turn.stride blocks turn.row next) up.value_count-size.ensures
          (subst (λ (b : Bool). LowersBlocks b up.value_count-size.result turn.stride blocks turn.row next) c.is_set.ensures lowered))),
    )

pub returns : goal.returns
returns c =
    let all : let a = c.args in (0 < length a.row.now) × (before a.shape c.min-stream.result ≡ length a.row.now) = (let made = c.makes in
    let m = says_yes c.if-not-makes.false made.ensures in
    (m.0, ap (before c.args.shape) c.min-stream.ensures ∙ m.1)) in
    let a = c.args in
    let turn = c.loop-stream in
    let n = c.min-stream.result in
    let end : turn.stream ≡ 0 = omega arith in
    let passed = subst (λ (x : ℕ). PassesFrom a.shape n x turn.stride a.row.now turn.row) end turn.invariant.2 in
    let known = all in
    record {
      same_length = turn.invariant.1;
      lowered = λ e b h. subst (λ (m : ℕ). IsLeastFrom (axes_from a.shape 0 m) (at a.row.now) b (at turn.row b)) c.min-stream.ensures (passes-end a.shape n passed b (omega (arith, known.1)));
      kept = λ ne. absurd (ne (ap (before a.shape) (sym c.min-stream.ensures) ∙ known.1));
    }
