-- `scan::is_name` meets its contract: a name's length and each of its bytes are tested.
use Rattle.std.proofs.Common.{rules, ◌≡◌, ◌≤◌, length, slice_index_or, IsTrue, EachIndex, ◌↔◌, true, false, leb, ◌&&◌}
use Rattle.std.proofs.iter.runs.Made.{chains}
use mathlib.Core.Path.{◌∙◌}
use Rattle.scan.proofs.Names.{name-told, name-untold}
use Rattle.scan.proofs.is_name.Goals as goal

pub returns-then-contains : goal.returns-then-contains
returns-then-contains c =
    let each : IsTrue c.all.result ↔ EachIndex c.args.token.now (λ k. (97 ≤ slice_index_or c.args.token.now k 0) × (slice_index_or c.args.token.now k 0 ≤ 122)) = search (rules, chains) in
    let fits : (leb 1 (length c.args.token.now) && leb (length c.args.token.now) 8) ≡ true = search rules in
    name-told c.args.token.now c.all.result fits each

pub returns-else-contains : goal.returns-else-contains
returns-else-contains c =
    let misfits : (leb 1 (length c.args.token.now) && leb (length c.args.token.now) 8) ≡ false = search rules in
    c.if-contains.false ∙ name-untold c.args.token.now misfits
