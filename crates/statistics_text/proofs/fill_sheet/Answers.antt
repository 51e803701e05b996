-- `statistics_text::fill_sheet` meets its contract: each line is appended where the last one ended.
use Rattle.print.proofs.Append.{reached, appends_then}
use Rattle.statistics_text.proofs.fill_sheet.Goals as goal

pub append_known-back_at-requires : goal.append_known-back_at-requires
append_known-back_at-requires c = reached c.append_known-ahead_at.ensures

pub append_known-requires : goal.append_known-requires
append_known-requires c = reached c.append_known-back_at.ensures

pub returns : goal.returns
returns c = appends_then c.append_known-ahead_at.ensures (appends_then c.append_known-back_at.ensures c.append_known.ensures)
