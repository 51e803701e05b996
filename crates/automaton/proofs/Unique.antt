-- A set of endless words has at most one table: as many states, the same entries and the same final bytes. The states of two
-- tables of one set are matched in the order in which they are first met.
use mathlib.Core.Path.{◌≡◌, sym, ◌∙◌}
use mathlib.Core.Logic.{inl, inr}
use mathlib.Core.List.{[], ◌∷◌, ◌++◌}
use Prim.Native.Nat.{ℕ, zero, suc, ◌<◌}
use native.Mathlib.Omega.{arith}
use native.Mathlib.Decide.{dec_lt}
use Rattle.automaton.specs.Words.{Word}
use Rattle.automaton.specs.Solutions.{SameContinuations}
use Rattle.automaton.specs.Table.{Before, FirstMet, IsEntry, Completes, IsTable, SameRows}
use Rattle.automaton.proofs.Solutions.{solutions_refl, solutions_sym, solutions_trans, same-append, begins-same}
use Rattle.automaton.proofs.Flags.{flag_unique}
use Rattle.automaton.proofs.Paths.{follows-agree, begins-entry, entry-state}

-- two places in the order "state by state and letter by letter"
pub data Compared (i a j b : ℕ) : Type 0 where
  before : Before i a j b → Compared i a j b
  equal : i ≡ j → a ≡ b → Compared i a j b
  after : Before j b i a → Compared i a j b

pub compared : (i a j b : ℕ) → Compared i a j b
compared i a j b = go (dec_lt i j) (dec_lt j i) (dec_lt a b) (dec_lt b a)
  where
    go : Dec (i < j) → Dec (j < i) → Dec (a < b) → Dec (b < a) → Compared i a j b
    go (yes h) q r s = before (inl h)
    go (no g) (yes h) r s = after (inl h)
    go (no g) (no h) (yes r) s = before (inr (omega arith, r))
    go (no g) (no h) (no r) (yes s) = after (inr (omega arith, s))
    go (no g) (no h) (no r) (no s) = equal (omega arith) (omega arith)

-- the record of the place where j is first met has the continuations of j
module _ {Sol : Word → Type 0} {k n : ℕ} {entry : ℕ → ℕ → ℕ} {final : ℕ → ℕ} (A : IsTable Sol k n entry final) where
  first-met-same : (j : ℕ) → j < n → (m : FirstMet k entry j)
      → SameContinuations Sol k (A.representative m.state ++ (m.letter ∷ [])) (A.representative j)
  first-met-same j hj m = rw m.holds at
      (entry-state A m.state m.letter (omega (arith, m.earlier_state)) m.is_letter (omega (arith, m.holds, A.room))).1

module _ {Sol : Word → Type 0} {k n n' : ℕ} {entry entry' : ℕ → ℕ → ℕ} {final final' : ℕ → ℕ}
    (A : IsTable Sol k n entry final) (B : IsTable Sol k n' entry' final') where
  -- state i has the same continuations in both tables
  abbrev Matched : ℕ → Type 0
  Matched i = SameContinuations Sol k (A.representative i) (B.representative i)

  -- B cannot meet j later than A does
  not-later : (j : ℕ) → ((i : ℕ) → i < j → Matched i) → j < n → j < n' → (m : FirstMet k entry j) (m' : FirstMet k entry' j)
      → Before m.state m.letter m'.state m'.letter → ⊥
  not-later j matched hj hj' m m' h =
      let i = m.state in
      let a = m.letter in
      let hi : i < j = m.earlier_state in
      let s = solutions_trans (solutions_sym (same-append (m.letter ∷ []) (m.is_letter, tt) (matched i hi))) (first-met-same A j hj m) in
      let ne = begins-entry B i a (omega arith) m.is_letter (begins-same (solutions_sym s) (A.not_empty j hj)) in
      let p = entry' i a in
      let lt : p < j = m'.before i a m.is_letter h ne in
      let t = solutions_trans (entry-state B i a (omega arith) m.is_letter ne).1 (solutions_sym (matched p lt)) in
      let q : j ≡ p = A.distinct j p hj (omega arith) (solutions_trans (solutions_sym s) t) in
      omega arith

  -- A cannot have fewer states
  not-fewer : ((i : ℕ) → i < n → i < n' → Matched i) → n < n' → ⊥
  not-fewer matched h =
      let m = B.first_met n A.some_state h in
      let i = m.state in
      let a = m.letter in
      let hi : i < n = m.earlier_state in
      let s = solutions_trans (same-append (m.letter ∷ []) (m.is_letter, tt) (matched i hi (omega arith))) (first-met-same B n h m) in
      let ne = begins-entry A i a hi m.is_letter (begins-same (solutions_sym s) (B.not_empty n h)) in
      let p = entry i a in
      let e = entry-state A i a hi m.is_letter ne in
      let hp : p < n = e.0 in
      let q : n ≡ p = B.distinct n p h (omega arith) (solutions_trans (solutions_sym s) (solutions_trans e.1 (matched p hp (omega arith)))) in
      omega arith

module _ {Sol : Word → Type 0} {k n n' : ℕ} {entry entry' : ℕ → ℕ → ℕ} {final final' : ℕ → ℕ}
    (A : IsTable Sol k n entry final) (B : IsTable Sol k n' entry' final') where
  matched_next : (j : ℕ) → ((i : ℕ) → i < j → Matched A B i) → j < n → j < n' → Matched A B j
  matched_next zero matched hj hj' = rw (A.start, B.start) solutions_refl
  matched_next (suc j) matched hj hj' = go (compared m.state m.letter m'.state m'.letter)
    where
      m : FirstMet k entry (suc j)
      m = A.first_met (suc j) (omega arith) hj

      m' : FirstMet k entry' (suc j)
      m' = B.first_met (suc j) (omega arith) hj'

      go : Compared m.state m.letter m'.state m'.letter → Matched A B (suc j)
      go (before h) = absurd (not-later A B (suc j) matched hj hj' m m' h)
      go (after h) = absurd (not-later B A (suc j) (λ i h. solutions_sym (matched i h)) hj' hj m' m h)
      go (equal p q) =
          let s = same-append (m.letter ∷ []) (m.is_letter, tt) (matched m.state m.earlier_state) in
          let t : SameContinuations Sol k (B.representative m.state ++ (m.letter ∷ [])) (B.representative (suc j)) =
          rw (p, q) (first-met-same B (suc j) hj' m') in
          solutions_trans (solutions_sym (first-met-same A (suc j) hj m)) (solutions_trans s t)

  matched_below : (b j : ℕ) → j < b → j < n → j < n' → Matched A B j
  matched_below zero j h hj hj' = absurd (omega arith)
  matched_below (suc b) j h hj hj' = matched_next j (λ i hi. matched_below b i (omega arith) (omega arith) (omega arith)) hj hj'

  pub unique_states : (j : ℕ) → j < n → j < n' → SameContinuations Sol k (A.representative j) (B.representative j)
  unique_states j hj hj' = matched_below (suc j) j (omega arith) hj hj'

module _ {Sol : Word → Type 0} {k n n' : ℕ} {entry entry' : ℕ → ℕ → ℕ} {final final' : ℕ → ℕ}
    (A : IsTable Sol k n entry final) (B : IsTable Sol k n' entry' final') where
  unique_count : n ≡ n'
  unique_count = go (dec_lt n n') (dec_lt n' n)
    where
      go : Dec (n < n') → Dec (n' < n) → n ≡ n'
      go (yes h) q = absurd (not-fewer A B (unique_states A B) h)
      go (no g) (yes h) = absurd (not-fewer B A (unique_states B A) h)
      go (no g) (no h) = omega arith

  same-below : {i : ℕ} → i < n → i < n'
  same-below h = omega (arith, unique_count)

  unique_entry : (i a : ℕ) → i < n → a < k → entry i a ≡ entry' i a
  unique_entry i a hi ha = go (A.entries i a hi ha) (B.entries i a (same-below hi) ha)
    where
      s : SameContinuations Sol k (A.representative i ++ (a ∷ [])) (B.representative i ++ (a ∷ []))
      s = same-append (a ∷ []) (ha, tt) (unique_states A B i hi (same-below hi))

      go : IsEntry Sol k n A.representative (A.representative i ++ (a ∷ [])) (entry i a)
          → IsEntry Sol k n' B.representative (B.representative i ++ (a ∷ [])) (entry' i a) → entry i a ≡ entry' i a
      go (inl x) (inl y) = x.0 ∙ sym y.0
      go (inl x) (inr y) = absurd (x.1 (begins-same (solutions_sym (solutions_trans s y.1)) (B.not_empty (entry' i a) y.0)))
      go (inr x) (inl y) = absurd (y.1 (begins-same (solutions_trans (solutions_sym x.1) s) (A.not_empty (entry i a) x.0)))
      go (inr x) (inr y) =
          let t = solutions_trans (solutions_sym x.1) (solutions_trans s y.1) in
          let u = unique_states A B (entry i a) x.0 (same-below x.0) in
          B.distinct (entry i a) (entry' i a) (same-below x.0) y.0 (solutions_trans (solutions_sym u) t)

  unique_completes : (i : ℕ) → i < n → Completes Sol k n entry (A.representative i) i → Completes Sol k n' entry' (B.representative i) i
  unique_completes i hi c w b f =
      let g = follows-agree i w b (λ j a hj ha. sym (unique_entry j a (omega (arith, unique_count)) ha)) f in
      (unique_states A B i hi (same-below hi)).to w b (c w b (rw unique_count g))

pub unique_rows : {Sol : Word → Type 0} {k n n' : ℕ} {entry entry' : ℕ → ℕ → ℕ} {final final' : ℕ → ℕ}
    → IsTable Sol k n entry final → IsTable Sol k n' entry' final' → SameRows k n entry final n' entry' final'
unique_rows A B = record {
  states = unique_count A B;
  entries = unique_entry A B;
  finals = λ i hi.
      let hi' = same-below A B hi in
      flag_unique (unique_completes A B i hi) (unique_completes B A i hi') (A.finals i hi) (B.finals i hi');
}
