-- A table of a sheet's solutions has at most as many states as the sheet has situations: the records that stand for its states are lawful
-- and have different situations. From equal continuations of equal situations (meaning).
use Prim.Native.Nat.{ℕ, zero, suc, ◌≤◌, ◌<◌}
use native.Mathlib.Omega.{arith}
use mathlib.Core.Path.{◌≡◌, refl, sym, ap, subst, fun_ext}
use mathlib.Core.List.{List, [], ◌∷◌, Memᴰ}
use lib.Dec.{T}
use lib.ListN.{length}
use Rattle.basics.proofs.Count.{InRows, rows_at_most}
use Rattle.automaton.specs.Words.{Word, append, prefix, AllBelow}
use Rattle.automaton.specs.Table.{IsTable}
use Rattle.automaton.proofs.Words.{in_range-append}
use Rattle.meaning.specs.Expression.{Sheet}
use Rattle.meaning.specs.Letter.{letter_count, record_of, SolutionWord}
use Rattle.meaning.specs.Situation.{Situation, lawful, situation, IsSituation, SituationCount}
use Rattle.meaning.proofs.Beginning.{append_word}
use Rattle.meaning.proofs.Continuation.{SameSituation, same_continuations_words, record_of-letters}
use Rattle.outcome.proofs.SheetWords.{solution_prefixes}

-- ---- a record put before a word, as both crates write it

append_word-append : (r : List ℕ) (w : Word) → append_word r w ≡ append r w
append_word-append r w = fun_ext (go r)
  where
    go : (r : List ℕ) (i : ℕ) → append_word r w i ≡ append r w i
    go [] i = refl
    go (a ∷ r) zero = refl
    go (a ∷ r) (suc i) = go r i

prefix-length : (r : List ℕ) (w : Word) → prefix (append r w) (length r) ≡ r
prefix-length [] w = refl
prefix-length (a ∷ r) w = ap (a ∷◌) (prefix-length r w)

below-member : (k : ℕ) (r : List ℕ) → AllBelow k r → (n : ℕ) → Memᴰ n r → n < k
below-member k (a ∷ r) h n (Memᴰ.head e) = rw e h.0
below-member k (a ∷ r) h n (Memᴰ.tail m) = below-member k r h.1 n m
below-member k [] h n x'' = elim x'' [ ]

module _ (s : Sheet) {n : ℕ} {entry : ℕ → ℕ → ℕ} {final : ℕ → ℕ} (t : IsTable (SolutionWord s) (letter_count s.streams) n entry final) where
  abbrev situation_at : ℕ → Situation
  situation_at i = situation s.constraints (record_of s.streams (t.representative i))

  representative-lawful : (i : ℕ) → i < n → T (lawful s.constraints (record_of s.streams (t.representative i)))
  representative-lawful i h =
      let b = t.not_empty i h in
      let r = t.representative i in
      let p = (solution_prefixes s).to (append r b.word) (in_range-append r (t.letters i h) b.in_range) b.continues.solves in
      subst (λ q. T (lawful s.constraints (record_of s.streams q))) (prefix-length r b.word) (p.all_lawful (length r)).is_lawful

  same-situation : (i j : ℕ) → i < n → j < n → situation_at i ≡ situation_at j → SameSituation s (record_of s.streams (t.representative i)) (record_of s.streams (t.representative j))
  same-situation i j hi hj e =
      record {
        letters = record_of-letters s.streams (t.representative i) (below-member (letter_count s.streams) (t.representative i) (t.letters i hi));
        letters' = record_of-letters s.streams (t.representative j) (below-member (letter_count s.streams) (t.representative j) (t.letters j hj));
        is_lawful = representative-lawful i hi;
        is_lawful' = representative-lawful j hj;
        same = e;
      }

  continue : (i j : ℕ) → i < n → j < n → situation_at i ≡ situation_at j → (w : Word) → SolutionWord s (append (t.representative i) w) → SolutionWord s (append (t.representative j) w)
  continue i j hi hj e w x =
      subst (SolutionWord s) (append_word-append (t.representative j) w)
      ((same_continuations_words s (t.representative i) (t.representative j) (same-situation i j hi hj e) w).0 (subst (SolutionWord s) (sym (append_word-append (t.representative i) w)) x))

  situations-differ : (i j : ℕ) → i < n → j < n → situation_at i ≡ situation_at j → i ≡ j
  situations-differ i j hi hj e =
      t.distinct i j hi hj (record { to = λ w b x. record { solves = continue i j hi hj e w x.solves }; from = λ w b x. record { solves = continue j i hj hi (sym e) w x.solves } })

  situations_in_rows : InRows (IsSituation s) situation_at n
  situations_in_rows =
      record {
        distinct = λ i j h k e. omega (arith, situations-differ i j (omega arith) k e);
        holds = λ i h.
            record {
              lawful_record = record_of s.streams (t.representative i);
              letters = record_of-letters s.streams (t.representative i) (below-member (letter_count s.streams) (t.representative i) (t.letters i h));
              is_lawful = representative-lawful i h;
              same = refl;
            };
      }

  pub states-at-most-situations : {m : ℕ} → SituationCount s m → n ≤ m
  states-at-most-situations c = rows_at_most situations_in_rows c
