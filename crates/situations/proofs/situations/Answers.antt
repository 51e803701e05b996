-- `situations::situations` meets its contract: either list is the one for so many letters, so that `explored` gives it.
use Rattle.situations.proofs.Found.{small-list, large_list}
use Rattle.situations.proofs.situations.Goals as goal

pub returns-then-sheet-le64 : goal.returns-then-sheet-le64
returns-then-sheet-le64 c = small-list c.if-sheet-le64.true c.explored.ensures

pub returns : goal.returns
returns c = large_list c.if-sheet-le64.false c.explored-2.ensures
