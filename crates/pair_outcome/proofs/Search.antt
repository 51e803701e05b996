-- A search over any keys that can be told apart ends with all that is reached, or with more than the limit. By the laws of its turns (automaton), row by row and
-- letter by letter.
use Prim.Native.Nat.{ℕ, zero, suc, ◌+◌, ◌≤◌, ◌<◌}
use native.Mathlib.Omega.{arith}
use native.Mathlib.Decide.{dec_lt}
use mathlib.Core.Path.{◌≡◌, refl, ap, ◌∙◌}
use mathlib.Core.HLevel.{Discrete}
use mathlib.Core.Bool.{Bool, true, false, cond}
use mathlib.Core.Logic.{◌⊎◌, inl, inr}
use lib.Dec.{eqb}
use borrow.Author.Tests.{eq-eqb, ne_eqb}
use Rattle.meaning.proofs.Search.{search_below}
use Rattle.automaton.specs.Table.{no_state, Before}
use Rattle.automaton.specs.Numbering.{IsPut}
use Rattle.automaton.specs.Reachable.{System, byte_of, IsRow, IsRow.no_row, IsRow.row, Absent, IsAdded, SearchTurn, SearchedKeys}
use Rattle.automaton.proofs.Reachable.{known_start, turn_start, turn_row, turn_end, turn_old, turn-full, turn_new}

-- ---- one number more

put : (ℕ → ℕ → ℕ) → ℕ → ℕ → ℕ → ℕ → ℕ → ℕ
put entry s a v i b = cond (eqb i s) (cond (eqb b a) v (entry i b)) (entry i b)

is-put : (k : ℕ) (entry : ℕ → ℕ → ℕ) (s a v : ℕ) → IsPut k entry (put entry s a v) s a v
unfolding put
is-put k entry s a v =
    record {
      here = ap (λ t. cond t (cond (eqb a a) v (entry s a)) (entry s a)) (eq-eqb s s refl) ∙ ap (λ t. cond t v (entry s a)) (eq-eqb a a refl);
      earlier = λ j b h q. by j b q;
    }
  where
    same : (t : Bool) (x : ℕ) → cond t x x ≡ x
    same true x = refl
    same false x = refl

    by : (j b : ℕ) → Before j b s a → cond (eqb j s) (cond (eqb b a) v (entry j b)) (entry j b) ≡ entry j b
    by j b (inl h) = ap (λ t. cond t (cond (eqb b a) v (entry j b)) (entry j b)) (ne_eqb j s (omega arith))
    by j b (inr p) = ap (λ t. cond (eqb j s) (cond t v (entry j b)) (entry j b)) (ne_eqb b a (omega (arith, p.1))) ∙ same (eqb j s) (entry j b)

with_last : {X : Type 0} → (ℕ → X) → ℕ → X → ℕ → X
with_last f n x i = cond (eqb i n) x (f i)

last-here : {X : Type 0} (f : ℕ → X) (n : ℕ) (x : X) → with_last f n x n ≡ x
unfolding with_last
last-here f n x = ap (λ t. cond t x (f n)) (eq-eqb n n refl)

last-old : {X : Type 0} (f : ℕ → X) (n : ℕ) (x : X) (i : ℕ) → i < n → with_last f n x i ≡ f i
unfolding with_last
last-old f n x i h = ap (λ t. cond t x (f i)) (ne_eqb i n (omega arith))

-- ---- the search

module _ (S : System) (apart : Discrete S.Key) (limit : ℕ) where
  -- what a search leaves
  pub record Searched : Type 0 where
    pub key : ℕ → S.Key
    pub entry : ℕ → ℕ → ℕ
    pub byte : ℕ → ℕ
    pub full : Bool
    pub count : ℕ
    pub searched : SearchedKeys S limit key entry byte full count

  is-added : (key : ℕ → S.Key) (byte : ℕ → ℕ) (n : ℕ) (x : S.Key) → IsAdded S key (with_last key n x) byte (with_last byte n (byte_of S x)) n x
  is-added key byte n x = record { new = last-here key n x; new_byte = last-here byte n (byte_of S x); old = last-old key n x; old_byte = last-old byte n (byte_of S x) }

  -- At a letter of a row: the row is done, the entry names a row or none, a row is added, or rows have run out.
  module _ {key : ℕ → S.Key} {entry : ℕ → ℕ → ℕ} {byte : ℕ → ℕ} {n s a : ℕ} (t : SearchTurn S limit key entry byte n s a) (in_rows : s < n) (row_done : S.letters ≤ a → Searched)
      (old : a < S.letters → (v : ℕ) → IsRow S key n (key s) a v → Searched) (new : a < S.letters → S.ok (key s) a ≡ true → Absent S key n (S.after (key s) a) → n < limit → Searched) where
    absent-turn : a < S.letters → S.ok (key s) a ≡ true → Absent S key n (S.after (key s) a) → Dec (n < limit) → Searched
    absent-turn l g x (yes h) = new l g x h
    absent-turn l g x (no h) = record { key = key; entry = entry; byte = byte; full = true; count = n; searched = turn-full S t in_rows l g x (let w = t.within in omega arith) }

    found_turn : a < S.letters → S.ok (key s) a ≡ true → ((i : ℕ) × (i < n) × (key i ≡ S.after (key s) a)) ⊎ ((i : ℕ) → i < n → key i ≡ S.after (key s) a → ⊥) → Searched
    found_turn l g (inl x) = old l x.0 (row x.1 g x.2)
    found_turn l g (inr x) = absent-turn l g x (dec_lt n limit)

    told : (i : ℕ) → Dec (key i ≡ S.after (key s) a) → (key i ≡ S.after (key s) a) ⊎ (key i ≡ S.after (key s) a → ⊥)
    told i (yes e) = inl e
    told i (no e) = inr e

    letter-turn : a < S.letters → (b : Bool) → S.ok (key s) a ≡ b → Searched
    letter-turn l false g = old l no_state (no_row refl g)
    letter-turn l true g = found_turn l g (search_below (λ i. key i ≡ S.after (key s) a) (λ i. key i ≡ S.after (key s) a → ⊥) (λ i. told i (apart (key i) (S.after (key s) a))) n)

    one-turn : Searched
    one-turn = by (dec_lt a S.letters)
      where
        by : Dec (a < S.letters) → Searched
        by (yes l) = letter-turn l (S.ok (key s) a) refl
        by (no l) = row_done (omega arith)

  row_from : (g : ℕ) {key : ℕ → S.Key} {entry : ℕ → ℕ → ℕ} {byte : ℕ → ℕ} {n s a : ℕ} → SearchTurn S limit key entry byte n s a → s < n → S.letters ≤ a + g
      → ((key : ℕ → S.Key) (entry : ℕ → ℕ → ℕ) (byte : ℕ → ℕ) (n : ℕ) → SearchTurn S limit key entry byte n (s + 1) 0 → Searched) → Searched
  row_from zero {key} {entry} {byte} {n} t h e go = go key entry byte n (turn_row S t (omega arith))
  row_from (suc g) {key} {entry} {byte} {n} {s} {a} t h e go =
      one-turn t h (λ d. go key entry byte n (turn_row S t d)) (λ l v r. row_from g (turn_old S t h l (is-put S.letters entry s a v) r) h (omega arith) go)
      (λ l k x room. row_from g (turn_new S t h l k x room (is-added key byte n (S.after (key s) a)) (is-put S.letters entry s a n)) (omega arith) (omega arith) go)

  ended : {key : ℕ → S.Key} {entry : ℕ → ℕ → ℕ} {byte : ℕ → ℕ} {n s : ℕ} → SearchTurn S limit key entry byte n s 0 → n ≤ s → Searched
  ended {key} {entry} {byte} {n} t h = record { key = key; entry = entry; byte = byte; full = false; count = n; searched = turn_end S t h }

  row_or_end : {key : ℕ → S.Key} {entry : ℕ → ℕ → ℕ} {byte : ℕ → ℕ} {n s : ℕ} → SearchTurn S limit key entry byte n s 0 → Dec (s < n) → (s < n → Searched) → Searched
  row_or_end t (yes h) go = go h
  row_or_end t (no h) go = ended t (omega arith)

  rows-from : (g : ℕ) {key : ℕ → S.Key} {entry : ℕ → ℕ → ℕ} {byte : ℕ → ℕ} {n s : ℕ} → SearchTurn S limit key entry byte n s 0 → limit ≤ s + g → Searched
  rows-from zero t h = ended t (let w = t.within in omega arith)
  rows-from (suc g) {n = n} {s} t h = row_or_end t (dec_lt s n) (λ l. row_from S.letters t l (omega arith) (λ key entry byte m u. rows-from g u (omega arith)))

  pub search_total : 0 < limit → Searched
  search_total h = rows-from limit {key = λ i. S.start} {entry = λ i a. 0} (turn_start S h (known_start S {byte = λ i. byte_of S S.start} refl refl)) (omega arith)
