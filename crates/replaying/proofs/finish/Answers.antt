-- `replaying::finish` meets its contract, by the cases of the end of a record (Ends).
use native.Mathlib.Omega.{arith}
use mathlib.Core.Path.{◌≡◌, refl}
use lib.ListN.{length}
use Rattle.print.proofs.Lengths.{refusal-length}
use Rattle.replaying.specs.Machine.{played_sheet}
use Rattle.replaying.specs.declared.Stage.TheVariants.{Names, Values, Ended}
use Rattle.replaying.proofs.Outcomes.{written-line}
use Rattle.replaying.proofs.Ends.{no_text, closing-text, text-ends, line-ends}
use borrow.Author.Rules.{rules}
use Rattle.replaying.proofs.finish.Goals as goal

pub returns-then-out-lt32 : goal.returns-then-out-lt32
returns-then-out-lt32 c =
    let a = c.args in
    let s = played_sheet a.names.now a.lengths.now a.lows.now a.highs.now a.entries.now in
    text-ends s (no_text s a.replay (length a.out.now) c.if-out-lt32.true) refl (omega arith) refl

pub advance-ended-requires : goal.advance-ended-requires
advance-ended-requires c = tt

pub returns-then-replay : goal.returns-then-replay
returns-then-replay c =
    let a = c.args in
    let s = played_sheet a.names.now a.lengths.now a.lows.now a.highs.now a.entries.now in
    line-ends s c.advance-ended.ensures c.if-out-lt32.false c.if-replay.true

pub refusal_line-requires : goal.refusal_line-requires
refusal_line-requires c = tt

pub returns-in-Names : goal.returns-in-Names
returns-in-Names c =
    let a = c.args in
    let s = played_sheet a.names.now a.lengths.now a.lows.now a.highs.now a.entries.now in
    let h : a.replay.stage ≡ Names = search rules in
    let w = written-line c.if-out-lt32.false (refusal-length 13 (omega arith)) c.refusal_line.ensures in
    text-ends s (closing-text s a.replay (length a.out.now) c.if-out-lt32.false c.if-replay.false Names h) w.0 w.1 w.2

pub returns-in-Values : goal.returns-in-Values
returns-in-Values c =
    let a = c.args in
    let s = played_sheet a.names.now a.lengths.now a.lows.now a.highs.now a.entries.now in
    let h : a.replay.stage ≡ Values = search rules in
    text-ends s (closing-text s a.replay (length a.out.now) c.if-out-lt32.false c.if-replay.false Values h) refl (omega arith) refl

pub returns-in-Ended : goal.returns-in-Ended
returns-in-Ended c =
    let a = c.args in
    let s = played_sheet a.names.now a.lengths.now a.lows.now a.highs.now a.entries.now in
    let h : a.replay.stage ≡ Ended = search rules in
    text-ends s (closing-text s a.replay (length a.out.now) c.if-out-lt32.false c.if-replay.false Ended h) refl (omega arith) refl
