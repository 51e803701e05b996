-- `show_statistics::known_situations` meets its contract: with 9 the number that is counted, and else the one that the compile tells.
use mathlib.Core.Path.{refl}
use Rattle.show_statistics.specs.Shows.{told, counted}
use Rattle.show_statistics.proofs.known_situations.Goals as goal

pub count_situations-requires : goal.count_situations-requires
count_situations-requires c = tt

pub returns-then-compiled-eq9 : goal.returns-then-compiled-eq9
returns-then-compiled-eq9 c = counted c.if-compiled-eq9.true c.count_situations.ensures

pub returns : goal.returns
returns c = told c.if-compiled-eq9.false refl
