-- What a search finds does not depend on how it is done: two searches of one system that come to an end have the same rows, entries and bytes.
use Prim.Native.Nat.{ℕ, zero, suc, ◌≤◌, ◌<◌}
use native.Mathlib.Omega.{arith}
use native.Mathlib.Decide.{ℕ_discrete, dec_lt}
use mathlib.Core.Path.{◌≡◌, sym, ◌∙◌, ap, subst}
use mathlib.Core.Bool.{true, false}
use Rattle.basics.proofs.Count.{count_unique}
use Rattle.automaton.specs.Table.{no_state, FirstMet, SameRows}
use Rattle.automaton.specs.Reachable.{System, byte_of, IsRow, IsRow.no_row, IsRow.row, SearchedKeys}
use Rattle.automaton.proofs.Unique.{Compared, Compared.before, Compared.equal, Compared.after, compared}
use Rattle.automaton.proofs.Reachable.{searched-count}
use Rattle.automaton.proofs.ReachedRows.{true_false}

module _ (S : System) where
  row-leads : {key : ℕ → S.Key} {n : ℕ} {x : S.Key} {a v : ℕ} → n ≤ no_state → v < n → IsRow S key n x a v → (S.ok x a ≡ true) × (key v ≡ S.after x a)
  row-leads room h (no_row e f) = absurd (omega arith)
  row-leads room h (row b f e) = (f, e)

  row_other : {key : ℕ → S.Key} {n : ℕ} {x : S.Key} {a v : ℕ} → S.ok x a ≡ true → IsRow S key n x a v → (v < n) × (key v ≡ S.after x a)
  row_other g (no_row e f) = absurd (true_false g f)
  row_other g (row b f e) = (b, e)

  -- where one search first meets row j, the other has a row from j on that holds the same key
  meets : {limit limit' n n' : ℕ} {key key' : ℕ → S.Key} {entry entry' : ℕ → ℕ → ℕ} {byte byte' : ℕ → ℕ} → SearchedKeys S limit key entry byte false n → SearchedKeys S limit' key' entry' byte' false n' → n ≤ no_state
      → {j : ℕ} → j < n → j < n' → ((i : ℕ) → i < j → key i ≡ key' i) → (m : FirstMet S.letters entry j)
      → (j ≤ entry' m.state m.letter) × (entry' m.state m.letter < n') × (key' (entry' m.state m.letter) ≡ key j)
  meets {n = n} {n'} {key} {key'} {entry} {entry'} z z' room {j} h h' same m =
      let s = m.state in
      let a = m.letter in
      let l = row-leads room h (subst (IsRow S key n (key s) a) m.holds (z.outcome s a (omega (arith, m.earlier_state)) m.is_letter)) in
      let e : key s ≡ key' s = same s m.earlier_state in
      let o = row_other (ap (λ x. S.ok x a) (sym e) ∙ l.0) (z'.outcome s a (omega (arith, m.earlier_state)) m.is_letter) in
      let q : key' (entry' s a) ≡ key j = o.1 ∙ ap (λ x. S.after x a) (sym e) ∙ sym l.1 in
      (by (dec_lt (entry' s a) j) q, o.0, q)
    where
      by : {v : ℕ} → Dec (v < j) → key' v ≡ key j → j ≤ v
      by {v} (yes b) q = absurd (z.known.distinct v j b h (same v b ∙ q))
      by (no b) q = omega arith

  module _ {limit limit' n n' : ℕ} {key key' : ℕ → S.Key} {entry entry' : ℕ → ℕ → ℕ} {byte byte' : ℕ → ℕ} (z : SearchedKeys S limit key entry byte false n) (z' : SearchedKeys S limit' key' entry' byte' false n') (room : n ≤ no_state) where
    pub same_count : n ≡ n'
    same_count = count_unique (searched-count S z) (searched-count S z')

    next_same : (j : ℕ) → j < n → ((i : ℕ) → i < j → key i ≡ key' i) → key j ≡ key' j
    next_same zero h same = z.known.first ∙ sym z'.known.first
    next_same (suc i) h same =
        let c = same_count in
        let m = z.first_met (suc i) (omega arith) h in
        let m' = z'.first_met (suc i) (omega arith) (omega arith) in
        let p = meets z z' room h (omega arith) same m in
        let p' = meets z' z (omega arith) (omega arith) h (λ i b. sym (same i b)) m' in
        by m m' p p' (ℕ_discrete (entry' m.state m.letter) (suc i)) (ℕ_discrete (entry m'.state m'.letter) (suc i)) (compared m.state m.letter m'.state m'.letter)
      where
        by : (m : FirstMet S.letters entry (suc i)) (m' : FirstMet S.letters entry' (suc i))
            → (suc i ≤ entry' m.state m.letter) × (entry' m.state m.letter < n') × (key' (entry' m.state m.letter) ≡ key (suc i))
            → (suc i ≤ entry m'.state m'.letter) × (entry m'.state m'.letter < n) × (key (entry m'.state m'.letter) ≡ key' (suc i))
            → Dec (entry' m.state m.letter ≡ suc i) → Dec (entry m'.state m'.letter ≡ suc i)
            → Compared m.state m.letter m'.state m'.letter → key (suc i) ≡ key' (suc i)
        by m m' p p' (yes e) d c = sym p.2 ∙ ap key' e
        by m m' p p' (no e) (yes f) c = ap key (sym f) ∙ p'.2
        by m m' p p' (no e) (no f) (before b) =
            absurd (omega (arith, p.0, m'.before m.state m.letter m.is_letter b (λ q. omega (arith, p.1, same_count, q))))
        by m m' p p' (no e) (no f) (after b) =
            absurd (omega (arith, p'.0, m.before m'.state m'.letter m'.is_letter b (λ q. omega (arith, p'.1, q))))
        by m m' p p' (no e) (no f) (equal c d) = absurd (f (ap (λ s. entry s m'.letter) (sym c) ∙ ap (entry m.state) (sym d) ∙ m.holds))

    same-below : (j : ℕ) → j ≤ n → (i : ℕ) → i < j → key i ≡ key' i
    same-below zero h i b = absurd (omega arith)
    same-below (suc j) h i b = by (ℕ_discrete i j) (same-below j (omega arith)) (next_same j h)
      where
        by : Dec (i ≡ j) → ((i : ℕ) → i < j → key i ≡ key' i) → (((i : ℕ) → i < j → key i ≡ key' i) → key j ≡ key' j) → key i ≡ key' i
        by (yes e) again last = subst (λ x. key x ≡ key' x) (sym e) (last again)
        by (no e) again last = again i (omega arith)

    pub same_keys : (i : ℕ) → i < n → key i ≡ key' i
    same_keys = same-below n (omega arith)

    pub same_entries : (i a : ℕ) → i < n → a < S.letters → entry i a ≡ entry' i a
    same_entries i a h l = by (z.outcome i a h l) (z'.outcome i a (omega (arith, same_count)) l)
      where
        apart : (v v' : ℕ) → v < n → v' < n → key v ≡ key v' → v ≡ v'
        apart v v' b b' q = go (dec_lt v v') (dec_lt v' v)
          where
            go : Dec (v < v') → Dec (v' < v) → v ≡ v'
            go (yes c) d = absurd (z.known.distinct v v' c b' q)
            go (no c) (yes d) = absurd (z.known.distinct v' v d b (sym q))
            go (no c) (no d) = omega arith

        by : {v v' : ℕ} → IsRow S key n (key i) a v → IsRow S key' n' (key' i) a v' → v ≡ v'
        by (no_row e f) (no_row e' f') = e ∙ sym e'
        by (no_row e f) (row b' f' e') = absurd (true_false f' (ap (λ x. S.ok x a) (sym (same_keys i h)) ∙ f))
        by (row b f e) (no_row e' f') = absurd (true_false f (ap (λ x. S.ok x a) (same_keys i h) ∙ f'))
        by {v} {v'} (row b f e) (row b' f' e') =
            let c : v' < n = omega (arith, same_count) in
            apart v v' b c (e ∙ ap (λ x. S.after x a) (same_keys i h) ∙ sym e' ∙ sym (same_keys v' c))

    -- The used rows are the same.
    pub searched_unique : SameRows S.letters n entry byte n' entry' byte'
    searched_unique =
        record {
          states = same_count;
          entries = same_entries;
          finals = λ i h. z.known.flagged i h ∙ ap (byte_of S) (same_keys i h) ∙ sym (z'.known.flagged i (omega (arith, same_count)));
        }
