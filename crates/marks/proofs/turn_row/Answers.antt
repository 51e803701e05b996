-- `marks::turn_row` meets its contract: each way out is a sweep over the one row, by the tests that lead there.
use native.Mathlib.Omega.{arith}
use mathlib.Core.Path.{◌≡◌, refl}
use mathlib.Core.Bool.{Bool, true, false}
use lib.ListN.{length}
use mir.Val.{bool_byte}
use Rattle.marks.specs.Sweeps.{mark}
use Rattle.basics.proofs.Lists.{row_fits}
use Rattle.marks.proofs.Sweeping.{settled-mark, settled-successor, swept_keep, swept_turn}
use borrow.Author.Tests.{not-true, not-false}
use Rattle.marks.proofs.turn_row.Goals.{then-marks-row-via-then-marks-row, then-marks-row-via-else-marks-row+then-has_marked-to}
use Rattle.marks.proofs.turn_row.Goals as goal

byte-mark : (to : Bool) → bool_byte to ≡ mark to
byte-mark true = refl
byte-mark false = refl

pub overflow_mul-row : goal.overflow_mul-row
overflow_mul-row c = omega (arith, row_fits c.args.row (length c.args.marks.now) c.args.letters (length c.args.entries.now) c.requires.0 c.requires.1)

pub has_marked-requires : goal.has_marked-requires
has_marked-requires c = row_fits c.args.row (length c.args.marks.now) c.args.letters (length c.args.entries.now) c.requires.0 c.requires.1

pub returns : goal.returns
returns c =
    let args = c.args in
    rw (c.from.ensures, byte-mark args.to) (swept_turn args.letters args.entries.now args.to c.has_marked.result args.marks.now args.row
    c.requires.0 c.if-marks-row.false (not-false _ c.if-has_marked-to.false) c.has_marked.ensures)

pub returns-then-marks-row : goal.returns-then-marks-row
returns-then-marks-row c =
    let args = c.args in
    swept_keep args.letters args.entries.now args.to args.marks.now args.row (elim c.then-marks-row.branch [
      | then-marks-row-via-then-marks-row w ↦ settled-mark args.letters args.entries.now args.to args.marks.now args.row w.if-marks-row.true
      | then-marks-row-via-else-marks-row+then-has_marked-to w ↦
          settled-successor args.letters args.entries.now args.to w.has_marked.result args.marks.now args.row (not-true _ w.if-has_marked-to.true) w.has_marked.ensures
    ])
