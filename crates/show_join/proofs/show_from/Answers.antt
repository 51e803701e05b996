-- What is printed of both opened tables is what the first one and the second text print (Printing).
use Rattle.opening.proofs.Sizes.{opened-sizes}
use Rattle.show_join.proofs.Printing.{both_print}
use Rattle.show_join.proofs.show_from.Goals as goal

pub show_both-requires : goal.show_both-requires
show_both-requires g c = let sizes = opened-sizes c.open_table-opened.ensures in (c.requires.0, c.requires.1, sizes.0, sizes.1)

pub returns : goal.returns
returns g c = record { bytes = c.show_both.ensures.bytes; prints = both_print c.open_table-opened.ensures c.show_both.ensures.prints; hands = c.show_both.ensures.hands }
