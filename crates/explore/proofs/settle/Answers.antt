-- `settle` meets its contract, by its tests.
use native.Mathlib.Omega.{arith}
use Rattle.explore.proofs.SearchLaws.{settled-found, settled-full, settled-new}
use Rattle.explore.proofs.settle.Goals as goal

pub find-requires : goal.find-requires
find-requires c =
    let start = c in
    let bucket = c.bucket-h in
    record { key_tables = start.requires.key_tables; key_len = (start.requires.key_len.0, bucket.ensures.value, bucket.ensures.upper_bound) }

pub returns-in-Some : goal.returns-in-Some
returns-in-Some c = settled-found _ _ _ _ _ _ _ _ c.in-Some.row c.in-Some.ensures c.requires.key_tables

pub insert-requires : goal.insert-requires
insert-requires c =
    let start = c in
    let bucket = c.bucket-h in
    let more = start.requires.key_len in
    record {
      key_tables = start.requires.key_tables;
      h_value = (bucket.ensures.value, bucket.ensures.upper_bound);
      key_len = (more.0, omega (arith, c.if-n-limit.true, more.1), omega (arith, c.if-n-limit.true, more.2), omega (arith, c.if-n-limit.true, more.3));
    }

pub returns-then-n-limit : goal.returns-then-n-limit
returns-then-n-limit c = settled-new _ _ _ _ _ _ _ _ c.in_default.ensures c.if-n-limit.true c.insert.ensures.key_tables_2 c.insert.ensures.inserts c.flag.ensures

pub returns-else-n-limit : goal.returns-else-n-limit
returns-else-n-limit c = settled-full _ _ _ _ _ _ _ _ c.in_default.ensures c.if-n-limit.false c.requires.key_tables
