-- `reader::store_sheet` meets its contract: the tests decide what the answer to the sheet is that the tables hold.
use mathlib.Core.Path.{refl, sym, ◌∙◌}
use native.Mathlib.Omega.{arith}
use lib.Seq.{length-take-le}
use Rattle.reader.proofs.Held.{sizes, stored-fits, firsts-fit, told, refused-reading, sheet-reading}
use Rattle.reader.proofs.store_sheet.Goals as goal

pub slice_bounds-kinds-end : goal.slice_bounds-kinds-end
slice_bounds-kinds-end c = let z = sizes c.requires.held in omega arith

pub slice_bounds-test_stored-end : goal.slice_bounds-test_stored-end
slice_bounds-test_stored-end c = let z = sizes c.requires.held in sym (length-take-le _ _ (omega arith))

pub slice_bounds-values-end : goal.slice_bounds-values-end
slice_bounds-values-end c = let z = sizes c.requires.held in omega arith

pub slice_bounds-test_stored-end-2 : goal.slice_bounds-test_stored-end-2
slice_bounds-test_stored-end-2 c = let z = sizes c.requires.held in sym (length-take-le _ _ (omega arith))

pub slice_bounds-starts-end : goal.slice_bounds-starts-end
slice_bounds-starts-end c = let z = sizes c.requires.held in omega arith

pub slice_bounds-test_stored-end-3 : goal.slice_bounds-test_stored-end-3
slice_bounds-test_stored-end-3 c = let z = sizes c.requires.held in sym (length-take-le _ _ (omega arith))

pub slice_bounds-lows-end : goal.slice_bounds-lows-end
slice_bounds-lows-end c = let z = sizes c.requires.held in omega arith

pub slice_bounds-test_stored-end-4 : goal.slice_bounds-test_stored-end-4
slice_bounds-test_stored-end-4 c = let z = sizes c.requires.held in sym (length-take-le _ _ (omega arith))

pub slice_bounds-highs-end : goal.slice_bounds-highs-end
slice_bounds-highs-end c = let z = sizes c.requires.held in omega arith

pub slice_bounds-test_stored-end-5 : goal.slice_bounds-test_stored-end-5
slice_bounds-test_stored-end-5 c = let z = sizes c.requires.held in sym (length-take-le _ _ (omega arith))

pub slice_bounds-lefts-end : goal.slice_bounds-lefts-end
slice_bounds-lefts-end c = let z = sizes c.requires.held in omega arith

pub slice_bounds-test_stored-end-6 : goal.slice_bounds-test_stored-end-6
slice_bounds-test_stored-end-6 c = let z = sizes c.requires.held in sym (length-take-le _ _ (omega arith))

pub slice_bounds-rights-end : goal.slice_bounds-rights-end
slice_bounds-rights-end c = let z = sizes c.requires.held in omega arith

pub slice_bounds-test_stored-end-7 : goal.slice_bounds-test_stored-end-7
slice_bounds-test_stored-end-7 c = let z = sizes c.requires.held in sym (length-take-le _ _ (omega arith))

pub test_stored-told-requires : goal.test_stored-told-requires
test_stored-told-requires c = stored-fits c.requires.held

pub returns-then-told-ne0 : goal.returns-then-told-ne0
returns-then-told-ne0 c = record { gives = λ s h. c.refused.ensures ∙ refused-reading h (told h refl c.test_stored-told.ensures) c.if-told-ne0.true }

pub slice_bounds-kinds-end-2 : goal.slice_bounds-kinds-end-2
slice_bounds-kinds-end-2 c = let z = sizes c.requires.held in omega arith

pub slice_bounds-find_firsts-end : goal.slice_bounds-find_firsts-end
slice_bounds-find_firsts-end c = let z = sizes c.requires.held in sym (length-take-le _ _ (omega arith))

pub slice_bounds-values-end-2 : goal.slice_bounds-values-end-2
slice_bounds-values-end-2 c = let z = sizes c.requires.held in omega arith

pub slice_bounds-find_firsts-end-2 : goal.slice_bounds-find_firsts-end-2
slice_bounds-find_firsts-end-2 c = let z = sizes c.requires.held in sym (length-take-le _ _ (omega arith))

pub find_firsts-requires : goal.find_firsts-requires
find_firsts-requires c =
    let held = c.requires.held in
    firsts-fit held (told held refl c.test_stored-told.ensures) c.if-told-ne0.false

pub returns : goal.returns
returns c = record { gives = λ s h. sheet-reading h (told h refl c.test_stored-told.ensures) c.if-told-ne0.false c.find_firsts.ensures }
