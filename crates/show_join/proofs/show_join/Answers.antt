-- What is printed of the opened table and the second text is what both texts print (Printing).
use Rattle.opening.proofs.Sizes.{opened-sizes}
use Rattle.show_join.proofs.Printing.{calls_print}
use Rattle.show_join.proofs.show_join.Goals as goal

pub show_from-requires : goal.show_from-requires
show_from-requires g c = opened-sizes c.open_table-opened.ensures

pub returns : goal.returns
returns g c = record { bytes = c.show_from.ensures.bytes; prints = calls_print c.open_table-opened.ensures c.show_from.ensures.prints; hands = c.show_from.ensures.hands }
