-- `search` meets its contract. Before each row, and before each letter of a row, the places before the present one hold the rows of their keys, and
-- every row but the first is met at such a place; what stands behind the present place is as it was. Before a letter, what the letters of the row need
-- is prepared too. From the laws of the search.
use Prim.Native.Nat.{◌-◌, ◌≤◌, ◌<◌}
use lib.ListN.{length}
use Rattle.explore.specs.Chains.{row_at}
use Rattle.prepare.specs.Prepared.{Prepared}
use Rattle.extend.specs.Step.{store_of}
use Rattle.explore.specs.Search.{Turn, Kept}
use Rattle.explore.proofs.SearchLaws.{SameSizes}
use Rattle.explore.proofs.search.Given as goal

abbrev pub invariant-loop-a : goal.invariant-loop-a
invariant-loop-a l = (l.s < l.n) × (l.a ≤ l.bounds.letters) × Turn (store_of l.kinds l.values l.starts l.relations l.lefts l.rights l.first_nodes l.letter_values l.dimensions.streams l.dimensions.ahead l.dimensions.width) l.bounds.letters l.bounds.limit l.bounds.every l.keys l.entries l.flags l.heads l.links l.n l.s l.a l.at × SameSizes l.initial.keys l.initial.heads l.initial.links l.initial.entries l.initial.flags l.keys l.heads l.links l.entries l.flags
    × Prepared l.letter_values l.dimensions.streams l.dimensions.width (length l.first_nodes) (row_at l.keys l.s) l.prepared × Kept l.initial.entries l.initial.flags l.initial.at l.initial.n l.entries l.flags l.at l.n

abbrev pub invariant-rows : goal.invariant-rows
invariant-rows l = Turn (store_of l.kinds l.values l.starts l.relations l.lefts l.rights l.first_nodes l.letter_values l.dimensions.streams l.dimensions.ahead l.dimensions.width) l.bounds.letters l.bounds.limit l.bounds.every l.keys l.entries l.flags l.heads l.links l.n l.s 0 l.at × SameSizes l.initial.keys l.initial.heads l.initial.links l.initial.entries l.initial.flags l.keys l.heads l.links l.entries l.flags × (l.s ≤ l.n) × Kept l.initial.entries l.initial.flags l.initial.at l.initial.n l.entries l.flags l.at l.n

abbrev pub decreases-rows : goal.decreases-rows
decreases-rows l = l.bounds.limit - l.s
