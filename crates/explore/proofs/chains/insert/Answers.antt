-- `chains::insert` meets its contract: the new row is the first of its bucket's chain.
use native.Mathlib.Omega.{arith}
use Rattle.explore.specs.Chains.{Inserts}
use Rattle.explore.proofs.ChainLaws.{stored, inserted}
use Rattle.explore.proofs.chains.insert.Goals as goal

pub returns : goal.returns
returns c =
    let put = c.put in
    let start = c in
    let args = start.args in
    let pre = start.requires in
    let done : Inserts args.keys.now put.new.list args.n args.key.now =
    rw (put.ensures.copied (omega (arith, pre.key_len.0, pre.key_len.3)), pre.key_len.0) (stored args.keys.now args.n args.key.now pre.key_len.0 pre.key_len.3) in
    record {
      key_tables_2 = inserted args.heads.now args.links.now args.keys.now args.n args.key.now put.new.list args.h
          pre.h_value.0 pre.h_value.1 pre.key_len.2 pre.key_len.3 put.auto.list done pre.key_tables;
      inserts = done;
    }
