-- `normal_entries::stored_place` meets its contract: a node has a place, and nothing else has.
use native.Mathlib.Omega.{arith}
use Rattle.normal_entries.proofs.Entries.{place_none, place-beyond, place_within}
use Rattle.normal_entries.proofs.stored_place.Goals as goal
use Rattle.normal_entries.proofs.stored_place.Goals.{then-end-eq0-via-then-end-eq0, then-end-eq0-via-else-end-eq0+then-end-gt1024}

pub returns-then-end-eq0 : goal.returns-then-end-eq0
returns-then-end-eq0 c =
    let a = c.args in
    elim c.then-end-eq0.branch [
      | then-end-eq0-via-then-end-eq0 w ↦ place_none a.numbers.now a.which w.if-end-eq0.true
      | then-end-eq0-via-else-end-eq0+then-end-gt1024 w ↦ place-beyond a.numbers.now a.which a.end w.if-end-eq0.false (omega (arith, w.if-end-gt1024.true))
    ]

pub returns : goal.returns
returns c = let a = c.args in place_within a.numbers.now a.which a.end c.if-end-eq0.false (omega (arith, c.if-end-eq0.false, c.if-end-gt1024.false))
