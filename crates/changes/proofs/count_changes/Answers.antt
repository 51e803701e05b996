-- `changes::count_changes` meets its contract: the changes along the streams from `stream` on are written (`CountedFrom`).
use mathlib.Core.Path.{◌≡◌, refl, sym, ap, ap₂, ◌∙◌, subst}
use mathlib.Core.Bool.{Bool}
use Prim.Native.Nat.{ℕ, ◌*◌, ◌/◌, ◌%◌, ◌≤◌, ◌<◌, ◌-◌}
use native.Mathlib.Omega.{arith}
use native.Mathlib.Nat.{zero-mul}
use lib.ListN.{length, length-set}
use lib.Seq.{get_or-set_same}
use Rattle.basics.proofs.Answers.{says_yes, says_no}
use Rattle.changes.specs.Axes.{changed_along, axes_from, axis_in}
use Rattle.changes.specs.Passes.{SpreadsStream}
use Rattle.changes.proofs.Axes.{before, later-total}
use Rattle.changes.proofs.Blocks.{block_inside}
use Rattle.changes.proofs.Loops.{whole_blocks, some-letters, some-values, some-later, CountedFrom, counted_start, counted-small, counted-more, counted-end}
use Rattle.changes.proofs.count_changes.Goals as goal

pub makes-requires : goal.makes-requires
makes-requires c = tt

pub returns-then-not-makes : goal.returns-then-not-makes
returns-then-not-makes c =
    let no = says_no c.if-not-makes.true c.makes.ensures in
    record { same_length = refl; counted = λ e l b h. absurd (no (omega arith, e)); kept = λ n. refl }

pub returns-then-row-letter : goal.returns-then-row-letter
returns-then-row-letter c = record { same_length = refl; counted = λ e l b h. absurd (let g = c.if-row-letter.true in omega arith); kept = λ n. refl }

pub bounds-row-0 : goal.bounds-row-0
bounds-row-0 c = let g = c.if-row-letter.false in omega arith

pub loop-stream-init : goal.loop-stream-init
loop-stream-init c =
    let a = c.args in
    (omega arith, refl, counted_start a.shape c.min-stream.result (get_or-set_same a.row.now 0 0 0 (let g = c.if-row-letter.false in omega arith)))

pub value_count-size-requires : goal.value_count-size-requires
value_count-size-requires c = omega (arith, c.min-stream.ensures)

pub nonzero_div-own : goal.nonzero_div-own
nonzero_div-own c =
    let all : let a = c.args in (0 < length a.row.now) × (before a.shape c.min-stream.result ≡ length a.row.now) = (let made = c.makes in
    let m = says_yes c.if-not-makes.false made.ensures in
    (m.0, ap (before c.args.shape) c.min-stream.ensures ∙ m.1)) in
    let a = c.args in
    let turn = c.loop-stream in
    let known = all in
    omega (arith, some-later a.shape c.min-stream.result known.1 known.0 turn.stream c.loop-stream-test.true turn.invariant.0, turn.invariant.2.strides)

pub nonzero_rem-own : goal.nonzero_rem-own
nonzero_rem-own c =
    let all : let a = c.args in (0 < length a.row.now) × (before a.shape c.min-stream.result ≡ length a.row.now) = (let made = c.makes in
    let m = says_yes c.if-not-makes.false made.ensures in
    (m.0, ap (before c.args.shape) c.min-stream.ensures ∙ m.1)) in
    let a = c.args in
    let turn = c.loop-stream in
    let known = all in
    omega (arith, some-values a.shape c.min-stream.result known.1 known.0 turn.stream c.loop-stream-test.true turn.invariant.0, c.value_count-size.ensures)

pub is_set-requires : goal.is_set-requires
is_set-requires c = omega (arith, c.min-stream.ensures)

pub spread_stream-requires : goal.spread_stream-requires
spread_stream-requires c =
    let all : let a = c.args in (0 < length a.row.now) × (before a.shape c.min-stream.result ≡ length a.row.now) = (let made = c.makes in
    let m = says_yes c.if-not-makes.false made.ensures in
    (m.0, ap (before c.args.shape) c.min-stream.ensures ∙ m.1)) in
    let whole : let start = c in
    length start.args.row.now ≡ before start.args.shape (c.loop-stream.stream - 1) * (c.value_count-size.result * c.loop-stream.stride) = (let a = c.args in
    let turn = c.loop-stream in
    let known = all in
    whole_blocks a.shape c.min-stream.result known.1 known.0 turn.stream c.loop-stream-test.true turn.invariant.0
    ∙ ap₂ (λ z k. before a.shape (turn.stream - 1) * (z * k)) (sym c.value_count-size.ensures) (sym turn.invariant.2.strides)) in
    let fits : c.value_count-size.result * c.loop-stream.stride ≤ length c.args.row.now = (let a = c.args in
    let width = c.value_count-size.result * c.loop-stream.stride in
    let blocks = before a.shape (c.loop-stream.stream - 1) in
    omega (arith, block_inside 0 blocks width (omega (arith, zero-mul width, whole, (all).0)), zero-mul width, whole)) in
    let a = c.args in
    let few = c.min-stream.ensures in
    let turn = c.loop-stream in
    (omega (arith, fits, turn.invariant.1, length-set a.row.now 0 0), λ o h. omega (arith, counted-small a.shape c.min-stream.result turn.invariant.2 o h, few))

pub overflow_mul-stride : goal.overflow_mul-stride
overflow_mul-stride c =
    let all : let a = c.args in (0 < length a.row.now) × (before a.shape c.min-stream.result ≡ length a.row.now) = (let made = c.makes in
    let m = says_yes c.if-not-makes.false made.ensures in
    (m.0, ap (before c.args.shape) c.min-stream.ensures ∙ m.1)) in
    let whole : let start = c in
    length start.args.row.now ≡ before start.args.shape (c.loop-stream.stream - 1) * (c.value_count-size.result * c.loop-stream.stride) = (let a = c.args in
    let turn = c.loop-stream in
    let known = all in
    whole_blocks a.shape c.min-stream.result known.1 known.0 turn.stream c.loop-stream-test.true turn.invariant.0
    ∙ ap₂ (λ z k. before a.shape (turn.stream - 1) * (z * k)) (sym c.value_count-size.ensures) (sym turn.invariant.2.strides)) in
    let fits : c.value_count-size.result * c.loop-stream.stride ≤ length c.args.row.now = (let a = c.args in
    let width = c.value_count-size.result * c.loop-stream.stride in
    let blocks = before a.shape (c.loop-stream.stream - 1) in
    omega (arith, block_inside 0 blocks width (omega (arith, zero-mul width, whole, (all).0)), zero-mul width, whole)) in
    omega (arith, fits)

pub loop-stream-preserved : goal.loop-stream-preserved
loop-stream-preserved c =
    let all : let a = c.args in (0 < length a.row.now) × (before a.shape c.min-stream.result ≡ length a.row.now) = (let made = c.makes in
    let m = says_yes c.if-not-makes.false made.ensures in
    (m.0, ap (before c.args.shape) c.min-stream.ensures ∙ m.1)) in
    let up = c in
    let a = up.args in
    let n = up.min-stream.result in
    let turn = up.loop-stream in
    let known = all in
    let taken = up.loop-stream-test.true in
    let next = c.spread_stream.new.row in
    let axis = axis_in a.shape (turn.stream - 1) in
    let some = subst (λ (m : ℕ). 0 < m) (sym (later-total a.shape n turn.stream taken turn.invariant.0)) (some-letters a.shape n known.1 known.0 turn.stream taken turn.invariant.0) in (
      omega arith,
      c.spread_stream.ensures.same_length ∙ turn.invariant.1,
      subst (λ (z : ℕ). CountedFrom a.shape n (turn.stream - 1) (z * turn.stride) a.letter next) (sym up.value_count-size.ensures)
          (counted-more a.shape n taken turn.invariant.0 some turn.invariant.2
          (subst (λ (z : ℕ). SpreadsStream axis.counts z turn.stride (a.letter / turn.stride % z) 0 turn.row next) up.value_count-size.ensures
          (subst (λ (b : Bool). SpreadsStream b up.value_count-size.result turn.stride (a.letter / turn.stride % up.value_count-size.result) 0 turn.row next) c.is_set.ensures c.spread_stream.ensures))),
    )

pub returns : goal.returns
returns c =
    let all : let a = c.args in (0 < length a.row.now) × (before a.shape c.min-stream.result ≡ length a.row.now) = (let made = c.makes in
    let m = says_yes c.if-not-makes.false made.ensures in
    (m.0, ap (before c.args.shape) c.min-stream.ensures ∙ m.1)) in
    let a = c.args in
    let turn = c.loop-stream in
    let n = c.min-stream.result in
    let end : turn.stream ≡ 0 = omega arith in
    let counted = subst (λ (x : ℕ). CountedFrom a.shape n x turn.stride a.letter turn.row) end turn.invariant.2 in
    let known = all in
    record {
      same_length = turn.invariant.1 ∙ length-set a.row.now 0 0;
      counted = λ e l b h. counted-end a.shape n counted (omega (arith, known.1)) b (omega (arith, known.1)) ∙ ap (λ m. changed_along (axes_from a.shape 0 m) a.letter b) c.min-stream.ensures;
      kept = λ f. absurd (f (ap (before a.shape) (sym c.min-stream.ensures) ∙ known.1) (let g = c.if-row-letter.false in omega arith));
    }
