-- `chains::bucket` meets its contract.
use mathlib.Core.Path.{◌≡◌, ap}
use mathlib.Core.List.{List}
use Prim.Native.Nat.{ℕ, ◌%◌}
use Rattle.explore.specs.Chains.{hash_from, bucket_of}
use Rattle.explore.proofs.ChainLaws.{bucket_lt}
use Rattle.explore.proofs.chains.bucket.Goals as goal

bucket-is : (m x : ℕ) (key : List ℕ) → x ≡ hash_from 0 key → x % m ≡ bucket_of m key
unfolding bucket_of
bucket-is m x key e = ap (λ (y : ℕ). y % m) e

pub returns : goal.returns
returns c =
    let e = bucket-is c.args.m _ _ c.hash.ensures in
    record { value = e; upper_bound = rw e (bucket_lt c.args.m c.args.key.now c.requires) }
