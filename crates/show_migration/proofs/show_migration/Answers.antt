-- The old table is opened for the text of the old sheet, so what is printed from it is what is printed of both sheets (Printing).
use Rattle.opening.proofs.Sizes.{opened-sizes}
use Rattle.show_migration.proofs.Printing.{calls_print}
use Rattle.show_migration.proofs.show_migration.Goals as goal

pub show_opened-requires : goal.show_opened-requires
show_opened-requires g c = opened-sizes c.open_table-opened.ensures

pub returns : goal.returns
returns g c = record { bytes = c.show_opened.ensures.bytes; prints = calls_print c.open_table-opened.ensures c.show_opened.ensures.prints; hands = c.show_opened.ensures.hands }
