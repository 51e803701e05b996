-- `show_migration::find_states` meets its contract: the refusals with which the tables were opened, or what the call for the states between their used rows gives.
use native.Mathlib.Omega.{arith}
use mathlib.Core.Path.{refl, sym, transport}
use lib.ListN.{length, take}
use lib.Seq.{length-take-le}
use Rattle.given_tables.specs.Given.{given_table}
use Rattle.carry.specs.Carry.{CarryOutcome}
use Rattle.show_migration.specs.Shows.{old_is, new_is, found}
use Rattle.show_migration.proofs.find_states.Goals as goal

pub returns-then-old-ne0 : goal.returns-then-old-ne0
returns-then-old-ne0 c = old_is c.if-old-ne0.true refl

pub returns-then-new-ne0 : goal.returns-then-new-ne0
returns-then-new-ne0 c = new_is c.if-old-ne0.false c.if-new-ne0.true refl

pub slice_bounds-carry-end : goal.slice_bounds-carry-end
slice_bounds-carry-end c = sym (length-take-le _ _ (omega (arith, c.used_entries-used.ensures, c.requires)))

pub slice_bounds-carry-end-2 : goal.slice_bounds-carry-end-2
slice_bounds-carry-end-2 c = sym (length-take-le _ _ (omega (arith, c.used_rows-rows.ensures, c.requires)))

pub slice_bounds-carry-end-3 : goal.slice_bounds-carry-end-3
slice_bounds-carry-end-3 c = sym (length-take-le _ _ (omega (arith, c.used_entries-new_used.ensures, c.requires)))

pub slice_bounds-carry-end-4 : goal.slice_bounds-carry-end-4
slice_bounds-carry-end-4 c = sym (length-take-le _ _ (omega (arith, c.used_rows-new_rows.ensures, c.requires)))
