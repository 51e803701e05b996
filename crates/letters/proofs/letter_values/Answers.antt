-- `letters::letter_values` meets its contract: what `write_letter` requires is what the tests find, and where a test fails the list stays.
use mathlib.Core.Path.{◌≡◌, sym}
use mathlib.Core.Bool.{true}
use lib.ListN.{length}
use Rattle.letters.specs.Described.{described, has_letter}
use Rattle.letters.proofs.Numbers.{too_many, not-number, no_room, can_write}
use Rattle.letters.proofs.letter_values.Goals as goal
use Rattle.letters.proofs.letter_values.Goals.{then-count-gt1024-via-then-count-gt1024, then-count-gt1024-via-else-count-gt1024+then-count-number, then-count-gt1024-via-else-count-gt1024+else-count-number+then-out-min}

pub returns-then-count-gt1024 : goal.returns-then-count-gt1024
returns-then-count-gt1024 c =
    let a = c.args in
    elim c.then-count-gt1024.branch [
      | then-count-gt1024-via-then-count-gt1024 w ↦ too_many a.lows.now a.highs.now a.number a.out.now c.letter_count-count.ensures w.if-count-gt1024.true
      | then-count-gt1024-via-else-count-gt1024+then-count-number w ↦ not-number a.lows.now a.highs.now a.number a.out.now c.letter_count-count.ensures w.if-count-gt1024.false w.if-count-number.true
      | then-count-gt1024-via-else-count-gt1024+else-count-number+then-out-min w ↦ no_room a.lows.now a.highs.now a.number a.out.now c.letter_count-count.ensures w.if-count-gt1024.false w.if-count-number.false w.min.ensures w.if-out-min.true
    ]

pub write_letter-requires : goal.write_letter-requires
write_letter-requires c =
    let can-write-here : has_letter (described c.args.lows.now c.args.highs.now) c.args.number (length c.args.out.now) ≡ true = (let s = c in
    can_write s.args.lows.now s.args.highs.now s.args.number s.args.out.now c.letter_count-count.ensures c.if-count-gt1024.false c.if-count-number.false c.min.ensures c.if-out-min.false) in
    can-write-here

pub returns : goal.returns
returns c =
    let can-write-here : has_letter (described c.args.lows.now c.args.highs.now) c.args.number (length c.args.out.now) ≡ true = (let s = c in
    can_write s.args.lows.now s.args.highs.now s.args.number s.args.out.now c.letter_count-count.ensures c.if-count-gt1024.false c.if-count-number.false c.min.ensures c.if-out-min.false) in
    (sym (can-write-here), c.write_letter.ensures)
