-- Whether an accepted sheet could have the streams that are described is decided, stream by stream.
use Prim.Native.Nat.{ℕ, ◌≤◌, ◌<◌}
use native.Mathlib.Decide.{ℕ_discrete, dec_le, dec_lt, map_dec}
use native.Mathlib.Omega.{arith}
use mathlib.Core.Path.{◌≡◌, refl}
use mathlib.Core.Logic.Dec
use mathlib.Core.Bool.{Bool, true, false, true≢false}
use mathlib.Core.List.{List-discrete}
use lib.IntN.{ℤ, pos, neg_ℤ}
use lib.ListN.{get_or}
use lib.Signed.{le_z, le_z_yes, ◌≤ℤ◌}
use Rattle.basics.proofs.Lists.{below_decided}
use Rattle.basics.proofs.Tests.{T-dec}
use Rattle.text.specs.Token.{is_name, is_reserved}
use Rattle.meaning.specs.Letter.{letter_count}
use Rattle.sheet.specs.Refusal.{magnitude_bound, letter_bound}
use Rattle.sheet.specs.Names.{name_in}
use Rattle.streams.specs.Description.{description_of, StreamsFit, StreamFits, NameFits, RangeFits, EachFits, IsNewName}
use Rattle.streams.specs.declared.StreamsDescription.{StreamsDescription}
use Rattle.streams.proofs.Fit.{each-accepted, accepted-each, streams-length}

≤ℤ_decided : (a b : ℤ) → Dec (a ≤ℤ b)
≤ℤ_decided a b = map_dec le_z_yes (λ h. h.le) (T-dec (le_z a b))

not_decided : {A : Type 0} → Dec A → Dec (A → ⊥)
not_decided (yes a) = no (λ f. f a)
not_decided (no n) = yes n

false_decided : (b : Bool) → Dec (b ≡ false)
false_decided true = no true≢false
false_decided false = yes refl

module _ (s : StreamsDescription) where
  range_decided : (k : ℕ) → Dec (RangeFits (get_or s.lows k (pos 0)) (get_or s.highs k (pos 0)))
  range_decided k =
      let low = get_or s.lows k (pos 0) in
      let high = get_or s.highs k (pos 0) in
      map_dec (λ x. record { in_bounds = record { above = x.0; below = x.1.0 }; ordered = x.1.1 }) (λ r. (r.in_bounds.above, (r.in_bounds.below, r.ordered)))
      (Dec.and (≤ℤ_decided (neg_ℤ (pos magnitude_bound)) low) (Dec.and (≤ℤ_decided high (pos magnitude_bound)) (≤ℤ_decided low high)))

  new_decided : (k : ℕ) → Dec (IsNewName s.names s.lengths k)
  new_decided k = below_decided (λ j. not_decided (List-discrete ℕ_discrete (name_in s.names s.lengths j) (name_in s.names s.lengths k))) k

  name_decided : (k : ℕ) → Dec (NameFits s.names s.lengths k)
  name_decided k =
      let name = name_in s.names s.lengths k in
      map_dec (λ x. record { short = x.0; is_aname = x.1.0; unreserved = x.1.1.0; is_new = x.1.1.1 }) (λ n. (n.short, (n.is_aname, (n.unreserved, n.is_new))))
      (Dec.and (dec_le (get_or s.lengths k 0) 8) (Dec.and (T-dec (is_name name)) (Dec.and (false_decided (is_reserved name)) (new_decided k))))

  stream_decided : (k : ℕ) → Dec (StreamFits s k)
  stream_decided k =
      map_dec (λ x. record { kind = x.0; range = x.1.0; name = x.1.1 }) (λ f. (f.kind, (f.range, f.name)))
      (Dec.and (dec_le (get_or s.kinds k 0) 1) (Dec.and (range_decided k) (name_decided k)))

  pub fit_decided : (letters : ℕ) → Dec (StreamsFit s letters)
  fit_decided letters = map_dec fits parts (Dec.and (dec_lt 0 s.count) (Dec.and (dec_le s.count 8)
      (Dec.and (dec_le letters letter_bound) (Dec.and (below_decided stream_decided s.count) (ℕ_discrete (letter_count (description_of s)) letters)))))
    where
      fits : (0 < s.count) × ((s.count ≤ 8) × ((letters ≤ letter_bound) × (EachFits s × (letter_count (description_of s) ≡ letters)))) → StreamsFit s letters
      fits x = record { kinds = λ k h. (x.1.1.1.0 k h).kind; lengths = λ k h. (x.1.1.1.0 k h).name.short; accepted = each-accepted s x.0 x.1.0 x.1.1.1.0; few_letters = x.1.1.0; makes_letters = x.1.1.1.1 }

      parts : StreamsFit s letters → (0 < s.count) × ((s.count ≤ 8) × ((letters ≤ letter_bound) × (EachFits s × (letter_count (description_of s) ≡ letters))))
      parts f =
          let long = streams-length s 0 s.count in
          let some = f.accepted.some_stream in
          let few = f.accepted.stream_count in
          (omega arith, (omega arith, (f.few_letters, (accepted-each s f, f.makes_letters))))
