-- The number of four bytes, written out.
use Rattle.std.proofs.Common.{◌≡◌, ℕ, ◌+◌, ◌*◌, ◌≤◌, List, length, get_or, sym, ap, arith}
use lib.ListN.{get_or-eq_default}
use Rattle.stored.specs.Number.{number_at}

pub four_bytes : (bytes : List ℕ) (at : ℕ) {a b c d : ℕ} → a ≡ get_or bytes at 0 → b ≡ get_or bytes (at + 1) 0 → c ≡ get_or bytes (at + 2) 0 → d ≡ get_or bytes (at + 3) 0
    → a + b * 256 + (c + d * 256) * 65536 ≡ number_at 4 bytes at
unfolding number_at
four_bytes bytes at ea eb ec ed =
    let third : get_or bytes (at + 2) 0 ≡ get_or bytes (at + 1 + 1) 0 = ap (λ n. get_or bytes n 0) (omega arith) in
    let fourth : get_or bytes (at + 3) 0 ≡ get_or bytes (at + 1 + 1 + 1) 0 = ap (λ n. get_or bytes n 0) (omega arith) in
    omega arith

pub none-beyond : (bytes : List ℕ) (at : ℕ) → length bytes ≤ at → 0 ≡ number_at 4 bytes at
none-beyond bytes at h =
    four_bytes bytes at (sym (get_or-eq_default bytes 0 h)) (sym (get_or-eq_default bytes 0 (omega arith))) (sym (get_or-eq_default bytes 0 (omega arith))) (sym (get_or-eq_default bytes 0 (omega arith)))
