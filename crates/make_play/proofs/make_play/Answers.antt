-- `make_play::make_play` meets its contract: its parts are those of the law `made`.
use mathlib.Core.Path.{sym}
use native.Mathlib.Omega.{arith}
use lib.Seq.{length-take-le}
use Rattle.make_play.proofs.Parts.{made}
use Rattle.make_play.proofs.make_play.Goals as goal

pub slice_bounds-find_play-end : goal.slice_bounds-find_play-end
slice_bounds-find_play-end c =
    sym (length-take-le _ _ (omega (arith, c.min-letters.ensures, c.fill_choices.auto)))

pub slice_bounds-find_play-end-3 : goal.slice_bounds-find_play-end-3
slice_bounds-find_play-end-3 c = sym (length-take-le _ _ (omega (arith, c.min-states.ensures)))

pub returns : goal.returns
returns c =
    made c.min-letters.ensures c.min-states.ensures c.choice_count-choices.ensures c.fill_choices.ensures c.find_play-forced.ensures c.keep_if.ensures c.with_play.ensures
