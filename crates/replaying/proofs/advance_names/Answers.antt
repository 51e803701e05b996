-- `replaying::advance_names` meets its contract: the line's bytes to the end of the chunk, or the line whole with the heading or the refusal (Lines).
use Prim.Native.Nat.{◌<◌}
use native.Mathlib.Omega.{arith}
use mathlib.Core.Path.{sym, ◌∙◌, ap}
use Rattle.replaying.specs.Machine.{played_sheet}
use Rattle.replaying.proofs.Lines.{names-bytes, names-differ, names_same}
use Rattle.replaying.proofs.advance_names.Goals as goal

pub run_names-run-requires : goal.run_names-run-requires
run_names-run-requires c = tt

pub returns-then-chunk-at : goal.returns-then-chunk-at
returns-then-chunk-at c =
    let b = c in
    let a = b.args in
    let u = c.run_names-run in
    let k : a.from < u.result.next = omega (arith, b.requires.1, c.if-chunk-at.true) in
    (k, λ lows highs entries. names-bytes (played_sheet a.names.now a.lengths.now lows highs entries) a.chunk.now a.replay b.requires.0 a.out.now b.requires.2 u.ensures.0 u.ensures.1 k)

pub names_end-requires : goal.names_end-requires
names_end-requires c = tt

pub overflow_add-at : goal.overflow_add-at
overflow_add-at c = omega (arith, c.if-chunk-at.false, c.well_formed)

pub refusal_line-requires : goal.refusal_line-requires
refusal_line-requires c = tt

pub ended_at-requires : goal.ended_at-requires
ended_at-requires c = tt

pub returns-then-not-names_end : goal.returns-then-not-names_end
returns-then-not-names_end c =
    let m = c in
    let u = m.run_names-run in
    let b = m in
    let a = b.args in
    let e = c.ended_at.ensures in
    let o = u.ensures.0.onward in
    let n = ap (λ x. x.next) e in (
      omega arith,
      λ lows highs entries.
          let s = played_sheet a.names.now a.lengths.now lows highs entries in
          names-differ s a.chunk.now a.replay b.requires.0 a.out.now b.requires.2 u.ensures.0 u.ensures.1 m.if-chunk-at.false e (sym m.names_end.ensures ∙ c.if-not-names_end.true) c.refusal_line.ensures,
    )

pub text-size-requires : goal.text-size-requires
text-size-requires c = tt

pub names_start-start-requires : goal.names_start-start-requires
names_start-start-requires c = tt

pub overflow_add-at-2 : goal.overflow_add-at-2
overflow_add-at-2 c = omega (arith, c.if-chunk-at.false, c.well_formed)

pub values_at-requires : goal.values_at-requires
values_at-requires c = tt

pub returns : goal.returns
returns c =
    let m = c in
    let u = m.run_names-run in
    let b = m in
    let a = b.args in
    let e = c.values_at.ensures in
    let o = u.ensures.0.onward in
    let n = ap (λ x. x.next) e in (
      omega arith,
      λ lows highs entries.
          let s = played_sheet a.names.now a.lengths.now lows highs entries in
          names_same s a.chunk.now a.replay b.requires.0 a.out.now b.requires.2 u.ensures.0 u.ensures.1 m.if-chunk-at.false c.names_start-start.ensures e (sym m.names_end.ensures ∙ c.if-not-names_end.false) c.text-size.ensures,
    )
