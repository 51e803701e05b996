-- Moving the first rows of the classes to the front: what a turn of the loop does. A row moves to an
-- earlier place or stays, so no entry is overwritten before it is read.
use mathlib.Core.Path.{◌≡◌, ◌∙◌}
use mathlib.Core.List.{List}
use Prim.Native.Nat.{ℕ, zero, suc, ◌+◌, ◌*◌, ◌<◌, ◌≤◌}
use native.Mathlib.Omega.{arith}
use native.Mathlib.Decide.{ℕ_discrete}
use lib.ListN.{get_or, length, set, length-set}
use lib.Seq.{get_or-set_same}
use Rattle.basics.proofs.Lists.{below_set, set_other, row_fits}
use Rattle.minimise.specs.Compacting.{IsNumbered, IsState, IsMoved, IsCompacted}

-- the rows of states lie behind their numbers
pub first-least : {class number first : List ℕ} {r n : ℕ} → IsNumbered class number first r n → (j : ℕ) → j < n → j ≤ get_or first j 0
first-least I zero h = omega arith
first-least I (suc j) h = omega (arith, first-least I j (omega arith), I.rising j (suc j) (omega arith) h)

-- moving one row

pub moved-next : {class number old new : List ℕ} {from to a : ℕ} (v : ℕ) → to ≤ from → from + a < length new → IsMoved class number old new from to a (from + a) → IsState class number (get_or new (from + a) 0) v
    → IsMoved class number old (set new (to + a) v) from to (a + 1) (from + (a + 1))
moved-next {class} {number} {old} {new} {from} {to} {a} v l h I s = record {
  moved = λ b g. moved b g (ℕ_discrete b a);
  before = λ i g. set_other new (to + a) v i (omega arith) ∙ I.before i g;
  after = λ i g. set_other new (to + a) v i (omega arith) ∙ I.after i (omega arith);
}
  where
    read : IsState class number (get_or old (from + a) 0) v
    read = rw (I.after (from + a) (omega arith)) at s

    moved : (b : ℕ) → b < a + 1 → Dec (b ≡ a) → IsState class number (get_or old (from + b) 0) (get_or (set new (to + a) v) (to + b) 0)
    moved b g (yes q) = rw (q, get_or-set_same new (to + a) v 0 (omega arith)) read
    moved b g (no q) = rw (set_other new (to + a) v (to + b) (omega arith)) (I.moved b (omega arith))

-- moving all rows

-- the rows of the first `state` states are moved, and every row behind their old places is as it was
pub record IsCompacting (letters : ℕ) (class number first entries finals entries' finals' : List ℕ) (state : ℕ) : Type 0 where
  pub entries_length : length entries' ≡ length entries
  pub finals_length : length finals' ≡ length finals
  pub done : IsCompacted letters class number first entries finals entries' finals' state
  pub rows_later : (s a : ℕ) → a < letters → ((j : ℕ) → j < state → get_or first j 0 < s) → get_or entries' (s * letters + a) 0 ≡ get_or entries (s * letters + a) 0
  pub bytes_later : (s : ℕ) → ((j : ℕ) → j < state → get_or first j 0 < s) → get_or finals' s 0 ≡ get_or finals s 0

pub compacting_next : {letters : ℕ} {class number first entries finals entries' finals' : List ℕ} {state n : ℕ} (entries'' : List ℕ) → IsNumbered class number first (length class) n → state < n → state < length finals'
    → length entries'' ≡ length entries'
    → IsMoved class number entries' entries'' (get_or first state 0 * letters) (state * letters) letters (get_or first state 0 * letters + letters)
    → IsCompacting letters class number first entries finals entries' finals' state
    → IsCompacting letters class number first entries finals entries'' (set finals' state (get_or finals' (get_or first state 0) 0)) (state + 1)
compacting_next {letters} {class} {number} {first} {entries} {finals} {entries'} {finals'} {state} {n} entries'' N h hf el M I = record {
  entries_length = el ∙ I.entries_length;
  finals_length = simp length-set I.finals_length;
  done = record { rows = λ j a g ha. rows j a g ha (ℕ_discrete j state); bytes = below_set (λ j x. x ≡ get_or finals (get_or first j 0) 0) finals' state (get_or finals' row 0) hf I.done.bytes (I.bytes_later row before-row) };
  rows_later = λ s a ha f. M.after (s * letters + a) (omega (arith, row_fits row s letters (s * letters) (f state (omega arith)) (omega arith))) ∙ I.rows_later s a ha (λ j g. f j (omega arith));
  bytes_later = λ s f. set_other finals' state (get_or finals' row 0) s (omega (arith, f state (omega arith), first-least N state h)) ∙ I.bytes_later s (λ j g. f j (omega arith));
}
  where
    row : ℕ
    row = get_or first state 0

    before-row : (j : ℕ) → j < state → get_or first j 0 < row
    before-row j g = N.rising j state g h

    rows : (j a : ℕ) → j < state + 1 → a < letters → Dec (j ≡ state) → IsState class number (get_or entries (get_or first j 0 * letters + a) 0) (get_or entries'' (j * letters + a) 0)
    rows j a g ha (yes q) = rw q (rw (I.rows_later row a ha before-row) at (M.moved a ha))
    rows j a g ha (no q) = rw (M.before (j * letters + a) (omega (arith, row_fits j state letters (state * letters) (omega arith) (omega arith)))) (I.done.rows j a (omega arith) ha)
