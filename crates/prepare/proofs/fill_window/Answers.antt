-- `prepare::fill_window` meets its contract: before each turn the window has the values of the letters passed, and behind them what it had.
use Prim.Native.Nat.{suc, ◌≤◌, ◌*◌, ◌+◌, ◌-◌}
use mathlib.Core.Path.{◌≡◌, refl, sym, ap, ◌∙◌}
use native.Mathlib.Omega.{arith}
use native.Mathlib.Nat.{zero-mul, suc-mul, mul-le-mul_right}
use native.Mathlib.Numerals.{add-one}
use mathlib.Core.List.{◌++◌}
use lib.ListN.{length, get_or, take, drop, take-append-drop}
use lib.Seq.{take_all, paste}
use borrow.Rule.Slice.PartMut.{put_mid}
use Rattle.std.proofs.lemmas.Slice.{put_mid-paste}
use Rattle.prepare.specs.Prepared.{window_of}
use Rattle.prepare.proofs.Parts.{part-long}
use Rattle.prepare.proofs.KeyLists.{window_of-none, window_more, window_long, behind_more}
use Rattle.prepare.proofs.fill_window.Goals as goal

pub loop-letter-init : goal.loop-letter-init
loop-letter-init c = (sym (zero-mul _), sym (window_of-none _ _), refl, refl)

pub loop-letter-preserved : goal.loop-letter-preserved
loop-letter-preserved c =
    let args = c.args in
    let values = args.letter_values.now in
    let letters = args.letters.now in
    let streams = args.streams in
    let loop = c.loop-letter in
    let p = loop.letter-index in
    let from = get_or letters p 0 * streams in
    let inside : from + streams ≤ length values = c.requires.by_index p c.loop-letter-test.true in
    let step : suc p * streams ≤ length letters * streams = mul-le-mul_right streams c.loop-letter-test.true in
    let room : loop.at + streams ≤ length loop.window = omega (arith, suc-mul p streams, loop.invariant.0, loop.invariant.2, c.requires.streams_in_bounds) in
    let part = take (from + streams - from) (drop from values) in
    let long : length part ≡ streams = part-long values from streams inside in
    let wide : length part ≡ loop.at + streams - loop.at = omega (arith, long) in
    let copied : put_mid loop.at (loop.at + streams - loop.at) loop.window c.copy_from_slice.new.self ≡ paste loop.window loop.at part (length part) =
    put_mid-paste loop.at (loop.at + streams - loop.at) loop.window c.copy_from_slice.new.self part (length part) c.copy_from_slice.ensures.after wide refl in (
      rw (add-one, suc-mul) (omega (arith, loop.invariant.0)),
      rw copied (window_more streams values letters p loop.at from loop.window c.loop-letter-test.true refl inside room loop.invariant.1),
      rw copied (window_long streams values streams (get_or letters p 0) loop.at from loop.window (omega arith) refl inside room) ∙ loop.invariant.2,
      rw copied (behind_more streams values (get_or letters p 0) loop.at from args.window.now loop.window refl inside room loop.invariant.3),
    )

pub returns : goal.returns
returns c =
    let args = c.args in
    let loop = c.loop-letter in
    let end : loop.letter-index ≡ length args.letters.now = omega arith in
    let at-end : loop.at ≡ length args.letters.now * args.streams = loop.invariant.0 ∙ ap (λ n. n * args.streams) end in
    let values = loop.invariant.1 ∙ ap (window_of args.streams args.letter_values.now) (ap (λ n. take n args.letters.now) end ∙ take_all (length args.letters.now) args.letters.now (omega arith)) in
    sym (take-append-drop loop.at loop.window) ∙ (λ i. values i ++ (loop.invariant.3 ∙ ap (λ n. drop n args.window.now) at-end) i)
