-- The table is opened for the text, so what stands at the front of the page is what `export` prints for it, and all of it is written.
use Rattle.std.proofs.Common.{refl}
use Rattle.show_export.proofs.show_export.Goals as goal

pub fill_opened-size-requires : goal.fill_opened-size-requires
fill_opened-size-requires g c = (c.open_table-table.ensures, refl)

pub returns : goal.returns
returns g c = record { bytes = _; prints = c.fill_opened-size.ensures; hands = c.write_front.ensures.hands }
