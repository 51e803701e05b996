-- What a writer holds after one write more.
use Rattle.std.proofs.Common.{◌≡◌, ◌+◌, ◌-◌, ◌++◌, ℕ, List, Option, length, take, drop, ap, sym, ◌∙◌, subst}
use Rattle.std.proofs.lemmas.List.{take_rest}
use Rattle.std.proofs.Math.Seq.{take-add}
use Rattle.std.specs.Io.KnownBytes.{Appends}
use Rattle.std.proofs.KnownBytes.{Appends-trans}

-- The first `done` bytes, and then n of those behind them, are the first `done` + n.
pub written-more : (old mid new : Option (List ℕ)) (bytes : List ℕ) (done n : ℕ) → Appends old mid (take done bytes) → Appends mid new (take n (take (length bytes - done) (drop done bytes))) → Appends old new (take (done + n) bytes)
written-more old mid new bytes done n first then =
    let next : take done bytes ++ take n (take (length bytes - done) (drop done bytes)) ≡ take (done + n) bytes = ap (λ r. take done bytes ++ take n r) (take_rest bytes done) ∙ sym (take-add done n bytes) in
    subst (Appends _ _) next (Appends-trans _ _ _ _ _ first then)
