-- Descriptions of streams are compared place by place: they have the same streams exactly if these are as many and agree at each place; behind the eight
-- places that are kept nothing differs. From the definition of a description, by induction over the streams.
use Prim.Native.Nat.{ℕ, zero, suc, ◌+◌, ◌*◌, ◌<◌, ◌≤◌, min}
use native.Mathlib.Omega.{arith}
use native.Mathlib.Decide.{ℕ_discrete, dec_lt}
use mathlib.Core.Path.{◌≡◌, refl, sym, ap, ap₂, subst, ◌∙◌}
use mathlib.Core.Bool.{Bool, true, false, not, cond}
use mathlib.Core.List.{◌∷◌, head-eq_of_cons-eq, tail-eq_of_cons-eq}
use lib.Dec.{eqb}
use lib.IntN.{ℤ, pos}
use lib.ListN.{length, get_or, take, drop, get_or-eq_default}
use mir.Syntax.{w64}
use mir.Val.{SFits}
use mir.ValLaws.{to_z-of_z}
use borrow.Author.Tests.{eq-eqb, ne_eqb, eqb-true, eqb-false}
use Rattle.basics.specs.Answers.{Says}
use Rattle.basics.proofs.Answers.{says_either}
use Rattle.meaning.specs.Expression.{read_kind, set_kind, absent_stream}
use Rattle.sheet.specs.Names.{name_in}
use Rattle.arithmetic.proofs.Machine.{held}
use Rattle.streams.specs.Description.{kind_with, stream_in, described_from}
use Rattle.streams.specs.declared.StreamsDescription.{StreamsDescription}
use Rattle.streams.proofs.Fit.{streams-length}
use Rattle.given_tables.specs.Given.{SameStreams}

-- ---- the parts of a stream

-- what holds of numbers that were held holds of the numbers, and the other way round
pub held_same : (a b : ℤ) → SFits w64 a → SFits w64 b → held a ≡ held b → a ≡ b
held_same a b fa fb e = sym (to_z-of_z w64 a fa) ∙ e ∙ to_z-of_z w64 b fb

read-kind : {n : ℕ} → n ≡ 1 → kind_with n ≡ read_kind
read-kind {n} e = ap (λ b. cond b read_kind set_kind) (eq-eqb n 1 e)

set-kind : {n : ℕ} → (n ≡ 1 → ⊥) → kind_with n ≡ set_kind
set-kind {n} d = ap (λ b. cond b read_kind set_kind) (ne_eqb n 1 d)

pub read≢set : read_kind ≡ set_kind → ⊥
read≢set e = let z : ◌≡◌ {A = ℕ} 0 1 = cc in omega arith

module _ (kind other : ℕ) where
  pub same_as_read : kind ≡ 1 → Says (eqb other 1) (kind_with kind ≡ kind_with other)
  same_as_read e =
      says_either (eqb other 1) (λ t. read-kind e ∙ sym (read-kind (eqb-true other 1 t))) (λ f same. read≢set (sym (read-kind e) ∙ same ∙ set-kind (eqb-false other 1 f)))

  pub same_as_set : (kind ≡ 1 → ⊥) → Says (not (eqb other 1)) (kind_with kind ≡ kind_with other)
  same_as_set d = by (eqb other 1) refl
    where
      by : (t : Bool) → eqb other 1 ≡ t → Says (not t) (kind_with kind ≡ kind_with other)
      by true t = λ same. read≢set (sym (read-kind (eqb-true other 1 t)) ∙ sym same ∙ set-kind d)
      by false f = set-kind d ∙ sym (set-kind (eqb-false other 1 f))

-- ---- a stream

module _ (a b : StreamsDescription) (k : ℕ) where
  pub stream-same : get_or a.lows k (pos 0) ≡ get_or b.lows k (pos 0) → get_or a.highs k (pos 0) ≡ get_or b.highs k (pos 0)
      → kind_with (get_or a.kinds k 0) ≡ kind_with (get_or b.kinds k 0) → name_in a.names a.lengths k ≡ name_in b.names b.lengths k → stream_in a k ≡ stream_in b k
  stream-same low high kind name = λ i. record { name = name i; kind = kind i; range = record { low = low i; high = high i } }

-- ---- all streams

-- each list of a description has eight places
pub record HasEightPlaces (s : StreamsDescription) : Type 0 where
  pub lengths : length s.lengths ≡ 8
  pub lows : length s.lows ≡ 8
  pub highs : length s.highs ≡ 8
  pub kinds : length s.kinds ≡ 8

-- behind them every description says the same
no_stream : (s : StreamsDescription) → HasEightPlaces s → (k : ℕ) → 8 ≤ k → stream_in s k ≡ absent_stream
no_stream s e k h =
    let name = ap (λ n. take (min n 8) (drop (k * 8) s.names)) (get_or-eq_default s.lengths 0 {n = k} (omega (arith, e.lengths))) in
    let kind = ap kind_with (get_or-eq_default s.kinds 0 {n = k} (omega (arith, e.kinds))) in
    let low = get_or-eq_default s.lows (pos 0) {n = k} (omega (arith, e.lows)) in
    let high = get_or-eq_default s.highs (pos 0) {n = k} (omega (arith, e.highs)) in
    λ i. record { name = name i; kind = kind i; range = record { low = low i; high = high i } }

module _ (a b : StreamsDescription) where
  places_same : (k n : ℕ) → ((i : ℕ) → k ≤ i → i < k + n → stream_in a i ≡ stream_in b i) → described_from a k n ≡ described_from b k n
  unfolding described_from
  places_same k zero h = refl
  places_same k (suc n) h = ap₂ ◌∷◌ (h k (omega arith) (omega arith)) (places_same (suc k) n (λ i l g. h i (omega arith) (omega arith)))

  same-places : (k n : ℕ) → described_from a k n ≡ described_from b k n → (i : ℕ) → k ≤ i → i < k + n → stream_in a i ≡ stream_in b i
  unfolding described_from
  same-places k zero e i l g = absurd (omega arith)
  same-places k (suc n) e i l g = by (ℕ_discrete i k) (λ m. same-places (suc k) n (tail-eq_of_cons-eq e) i m (omega arith))
    where
      by : Dec (i ≡ k) → (suc k ≤ i → stream_in a i ≡ stream_in b i) → stream_in a i ≡ stream_in b i
      by (yes q) later = subst (λ j. stream_in a j ≡ stream_in b j) (sym q) (head-eq_of_cons-eq e)
      by (no q) later = later (omega arith)

  same_count : SameStreams a b → a.count ≡ b.count
  same_count e = sym (streams-length a 0 a.count) ∙ ap length e ∙ streams-length b 0 b.count

  pub other-count : (a.count ≡ b.count → ⊥) → SameStreams a b → ⊥
  other-count n e = n (same_count e)

  pub each-same : SameStreams a b → (k : ℕ) → k < a.count → stream_in a k ≡ stream_in b k
  each-same e k h = same-places 0 a.count (e ∙ ap (described_from b 0) (sym (same_count e))) k (omega arith) (omega arith)

  pub all_same : HasEightPlaces a → HasEightPlaces b → a.count ≡ b.count → ((k : ℕ) → k < min a.count 8 → stream_in a k ≡ stream_in b k) → SameStreams a b
  all_same ea eb c h = places_same 0 a.count (λ i l g. by i g (dec_lt i 8)) ∙ ap (described_from b 0) c
    where
      by : (i : ℕ) → i < 0 + a.count → Dec (i < 8) → stream_in a i ≡ stream_in b i
      by i g (yes s) = h i (omega arith)
      by i g (no s) = no_stream a ea i (omega arith) ∙ sym (no_stream b eb i (omega arith))
