-- The contract of `prepare` leaves nothing open: two outcomes for the same arguments are equal. From the definitions, whose conditions can be decided.
use Prim.Native.Nat.{ℕ, suc, ◌+◌, ◌*◌, min}
use native.Mathlib.Decide.{ℕ_discrete, dec_le, map_dec}
use mathlib.Core.Path.{◌≡◌, sym, ◌∙◌}
use mathlib.Core.Logic.Dec
use mathlib.Core.List.{List}
use lib.IntN.{ℤ}
use lib.ListN.{length, get_or}
use Rattle.basics.proofs.Lists.{below_decided}
use Rattle.sheet.specs.Refusal.{stream_bound, first_bound, window_bound}
use Rattle.sizes.specs.Room.{key_size, prepared_size}
use Rattle.prepare.specs.Key.{size_in}
use Rattle.prepare.specs.Prepared.{PreparableSizes, IsPreparable, Prepares}

sizes_dec : (streams width count key room : ℕ) → Dec (PreparableSizes streams width count key room)
sizes_dec streams width count key room =
    map_dec (λ p. (p.0, p.1.0, p.1.1.0, p.1.1.1.0, p.1.1.1.1)) (λ p. (p.0, (p.1, (p.2, (p.3, p.4)))))
    (Dec.and (dec_le width window_bound) (Dec.and (dec_le streams stream_bound) (Dec.and (dec_le count first_bound) (Dec.and (ℕ_discrete key key_size) (ℕ_discrete room prepared_size)))))

preparable_dec : (values streams width count : ℕ) (key : List ℕ) (room : ℕ) → Dec (IsPreparable values streams width count key room)
preparable_dec values streams width count key room =
    map_dec (λ p. record { sizes = p.0; letters = p.1 }) (λ p. (p.sizes, p.letters))
    (Dec.and (sizes_dec streams width count (length key) room) (below_decided (λ p. dec_le (get_or key (suc p) 0 * streams + stream_bound) values) (min (size_in key) width)))

pub prepares_unique : {letter_values : List ℤ} {streams width count : ℕ} {key : List ℕ} {list list' list'' : List ℤ}
    → Prepares letter_values streams width count key list list' → Prepares letter_values streams width count key list list'' → list' ≡ list''
prepares_unique {letter_values} {streams} {width} {count} {key} {list} {list'} {list''} x y = by (preparable_dec (length letter_values) streams width count key (length list))
  where
    by : Dec (IsPreparable (length letter_values) streams width count key (length list)) → list' ≡ list''
    by (yes p) = x.done p ∙ sym (y.done p)
    by (no p) = x.refused p ∙ sym (y.refused p)
