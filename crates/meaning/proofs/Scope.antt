-- Streams beyond the sheet's play no part: two families of streams that agree on the first n streams give every expression whose names
-- are below n the same value at every time, meet the same constraints, and solve the same sheets.
use Prim.Native.Nat.{ℕ, zero, suc}
use mathlib.Core.Path.{◌≡◌, refl, sym, ap, ap₂, subst}
use lib.Dec.{T}
use lib.ListN.{length}
use Rattle.meaning.specs.Value.{Value, number, truth, Streams, ValueStreams, numbers}
use Rattle.meaning.specs.Arithmetic.{Within, apply}
use Rattle.meaning.specs.Expression.{Expression, integer, name, first, next, negation, binary, conditional, fby, Sign, holds, Constraint, always, until, Sheet, range_of, Until, negated, chosen, value_from, value, MeetsFrom, Meets, Solution}
use Rattle.meaning.specs.Interval.{NamesBelow, SidesBelow}
use Rattle.meaning.specs.Scope.{AgreeBelow, NamesKnown}

pub AgreeBelow-sym : {X : Type 0} {n : ℕ} {w v : ℕ → ℕ → X} → AgreeBelow n w v → AgreeBelow n v w
AgreeBelow-sym g = record { same = λ k i l. sym (g.same k i l) }

-- The value of an `if`, and what a sign and an `until` ask, depend only on the values of their parts.
pub chosen_cong : {c c' a a' b b' : Value} → c ≡ c' → a ≡ a' → b ≡ b' → chosen c a b ≡ chosen c' a' b'
chosen_cong p q r = λ i. chosen (p i) (q i) (r i)

pub always_cong : (s : Sign) {a b a' b' : ℕ → Value} → ((i : ℕ) → a i ≡ a' i) → ((i : ℕ) → b i ≡ b' i)
    → ((i : ℕ) → T (holds s (a i) (b i))) → (i : ℕ) → T (holds s (a' i) (b' i))
always_cong s p q h i = rw (← p i, ← q i) (h i)

pub Until-cong : {a b a' b' : ℕ → Value} → ((i : ℕ) → a i ≡ a' i) → ((i : ℕ) → b i ≡ b' i) → Until a b → Until a' b'
Until-cong p q u =
    record {
      time = u.time;
      right = subst (λ x. T (truth x)) (q u.time) u.right;
      left = λ j l. subst (λ x. T (truth x)) (p j) (u.left j l);
    }

pub value_from-agree : {n : ℕ} {w v : ValueStreams} → AgreeBelow n w v → (e : Expression) → NamesBelow n e → (i : ℕ) → value_from w e i ≡ value_from v e i
unfolding value_from
value_from-agree g (integer z) h i = refl
value_from-agree g (name k) h i = g.same k i h
value_from-agree g (first e) h i = value_from-agree g e h zero
value_from-agree g (next e) h i = value_from-agree g e h (suc i)
value_from-agree g (negation e) h i = ap negated (value_from-agree g e h i)
value_from-agree g (binary o a b) h i = ap₂ (apply o) (value_from-agree g a h.0 i) (value_from-agree g b h.1 i)
value_from-agree g (conditional c a b) h i = chosen_cong (value_from-agree g c h.0 i) (value_from-agree g a h.1 i) (value_from-agree g b h.2 i)
value_from-agree g (fby a b) h zero = value_from-agree g a h.0 zero
value_from-agree g (fby a b) h (suc i) = value_from-agree g b h.1 i

pub MeetsFrom-agree : {n : ℕ} {w v : ValueStreams} → AgreeBelow n w v → (c : Constraint) → SidesBelow n c → MeetsFrom w c → MeetsFrom v c
unfolding MeetsFrom
MeetsFrom-agree g (always s a b) h m = always_cong s (value_from-agree g a h.left) (value_from-agree g b h.right) m
MeetsFrom-agree g (until a b) h m = Until-cong (value_from-agree g a h.left) (value_from-agree g b h.right) m

-- The same for streams of numbers.
numbers-agree : {n : ℕ} {w v : Streams} → AgreeBelow n w v → AgreeBelow n (numbers w) (numbers v)
numbers-agree g = record { same = λ k i l. ap number (g.same k i l) }

pub value-agree : {n : ℕ} {w v : Streams} → AgreeBelow n w v → (e : Expression) → NamesBelow n e → (i : ℕ) → value w e i ≡ value v e i
unfolding value
value-agree g e h i = value_from-agree (numbers-agree g) e h i

pub Meets-agree : {n : ℕ} {w v : Streams} → AgreeBelow n w v → (c : Constraint) → SidesBelow n c → Meets w c → Meets v c
unfolding Meets
Meets-agree g c h m = MeetsFrom-agree (numbers-agree g) c h m

pub Solution-agree : {s : Sheet} {w v : Streams} → NamesKnown s → AgreeBelow (length s.streams) w v → Solution s w → Solution s v
Solution-agree {s} known g h =
    record {
      ranged = λ k i l. subst (Within (range_of s.streams k)) (g.same k i l) (h.ranged k i l);
      meets = λ c m. Meets-agree g c (known.sides c m) (h.meets c m);
    }
