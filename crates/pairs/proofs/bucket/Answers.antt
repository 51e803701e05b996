-- `bucket` meets its contract.
use mathlib.Core.Path.{◌≡◌, refl}
use Prim.Native.Nat.{ℕ, ◌+◌, ◌*◌, ◌/◌, ◌%◌}
use Rattle.pairs.specs.Rows.{pair_bucket}
use Rattle.pairs.proofs.bucket.Goals as goal

bucket-is : (m key : ℕ) {k : ℕ} → k ≡ key → (k * 2654435761 % 4294967296 / 32768 + k * 2654435761 % 4294967296) % m ≡ pair_bucket m key
unfolding pair_bucket
bucket-is m key e = rw e refl

pub returns-clause-value : goal.returns-clause-value
returns-clause-value c = bucket-is c.args.m c.args.key c.from.ensures
