-- The sheet that was read has ranges of the machine, and what is printed is what the text prints (Answer).
use Rattle.stored_ranges.proofs.Ranges.{read_ranges}
use Rattle.show.proofs.Answer.{shown_of}
use Rattle.show.proofs.show.Goals as goal

pub show_sheet-requires : goal.show_sheet-requires
show_sheet-requires g c = read_ranges _ c.read.ensures

pub returns : goal.returns
returns g c = shown_of _ c.read.ensures c.show_sheet.ensures
