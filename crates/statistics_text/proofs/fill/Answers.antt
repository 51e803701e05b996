-- `statistics_text::fill` meets its contract: each line is appended where the last one ended (Lines).
use native.Mathlib.Omega.{arith}
use Rattle.print.proofs.Append.{reached}
use Rattle.statistics_text.proofs.Lines.{lines-appended}
use Rattle.statistics_text.proofs.fill.Goals as goal

pub sizes_known-known-requires : goal.sizes_known-known-requires
sizes_known-known-requires c = tt

pub situations_known-counted-requires : goal.situations_known-counted-requires
situations_known-counted-requires c = tt

pub fill_sheet-situations_at-requires : goal.fill_sheet-situations_at-requires
fill_sheet-situations_at-requires c = tt

pub append_known-states_at-requires : goal.append_known-states_at-requires
append_known-states_at-requires c = reached c.fill_sheet-situations_at.ensures

pub append_known-rows_at-requires : goal.append_known-rows_at-requires
append_known-rows_at-requires c = reached c.append_known-states_at.ensures

pub append_known-refused_at-requires : goal.append_known-refused_at-requires
append_known-refused_at-requires c = reached c.append_known-rows_at.ensures

pub overflow_cast-refusal : goal.overflow_cast-refusal
overflow_cast-refusal c = omega (arith, c.well_formed)

pub append_known-requires : goal.append_known-requires
append_known-requires c = reached c.append_known-refused_at.ensures

pub returns : goal.returns
returns c =
    lines-appended c.args.statistics c.sizes_known-known.ensures c.situations_known-counted.ensures c.fill_sheet-situations_at.ensures
    c.append_known-states_at.ensures
    c.append_known-rows_at.ensures
    c.append_known-refused_at.ensures
    c.append_known.ensures
