-- `settle` meets its contract, by its tests. A new key is the last row of its bucket's chain (Keys).
use Rattle.pairs.proofs.Keys.{settled-new}
use Rattle.pairs.proofs.settle.Goals as goal

pub returns-then-n-limit : goal.returns-then-n-limit
returns-then-n-limit c =
    let start = c in
    let bucket = c.bucket-h in
    settled-new _ _ _ _ _ _ c.in_default.ensures c.if-n-limit.true start.requires.2 start.requires.3 bucket.result bucket.ensures.value bucket.ensures.upper_bound start.requires.0
