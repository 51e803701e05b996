-- Streams in their ranges, the words of their letter numbers, and records: a table of the sheet's solution words is followed along exactly the
-- solutions, its paths are the records that begin one, and two tables agree exactly if the sheets have the same solutions. From the laws of tables
-- (automaton) and of letters and words (meaning).
use Prim.Native.Nat.{ℕ, zero, suc, ◌<◌}
use native.Mathlib.Omega.{arith}
use mathlib.Core.Path.{◌≡◌, refl, sym, ◌∙◌, ap, subst}
use mathlib.Core.Logic.{◌↔◌}
use mathlib.Core.List.Memᴰ
use mathlib.Core.List.{List, [], ◌∷◌, map}
use lib.IntN.{pos}
use lib.ListN.{length, get_or, length-map}
use Rattle.basics.proofs.Lists.{get_d_map}
use Rattle.automaton.specs.Words.{Word, tail, prefix, suffix, append, AllBelow, InRange}
use Rattle.automaton.specs.Solutions.{SameSolutions, Begins, Settles}
use Rattle.automaton.specs.Table.{IsPath, AcceptedWord}
use Rattle.automaton.specs.Stored.{StoredTable, SameUsedRows, entry_at, final_at}
use Rattle.automaton.proofs.Words.{append-prefix-suffix, in_range-suffix}
use Rattle.automaton.proofs.Acceptance.{solution↔accepted}
use Rattle.automaton.proofs.Equality.{used_rows↔solutions}
use Rattle.automaton.proofs.Paths.{run-walk, path↔begins, follows↔paths}
use Rattle.meaning.specs.Value.{Streams}
use Rattle.meaning.specs.Expression.{Stream, Constraint, Sheet, Solution}
use Rattle.meaning.specs.Letter.{Letter, Record, IsLetter, none, more, OfLetters, letter_count, letter_number, letter_of, spell, letter_with, word_of, SolutionWord}
use Rattle.meaning.specs.Scope.{NamesKnown}
use Rattle.meaning.proofs.Letter.{letter_number-bound, letter_of-letter_number}
use Rattle.meaning.proofs.Word.{Spells, spell-ranged, word_of-spells, spells_unique, solution-word}
use Rattle.outcome.proofs.SheetWords.{solutions_settle}
use Rattle.theorems.specs.Following.{FollowedAlong, BeginsSolution, HaveSameSolutions, SolvesByWord}

-- ---- records and words

-- A word that has the letters of a list begins with it.
prefix-list : (x : Word) (l : List ℕ) → ((i : ℕ) → i < length l → x i ≡ get_or l i 0) → prefix x (length l) ≡ l
prefix-list x [] h = refl
prefix-list x (a ∷ l) h = λ j. h 0 (omega arith) j ∷ prefix-list (tail x) l (λ i b. h (suc i) (omega arith)) j

append-get_or : (l : List ℕ) (v : Word) (i : ℕ) → i < length l → append l v i ≡ get_or l i 0
append-get_or [] v i h = absurd (omega arith)
append-get_or (a ∷ l) v zero h = refl
append-get_or (a ∷ l) v (suc i) h = append-get_or l v i (omega arith)

-- The letter with the values that a letter has is this letter.
letter_with-values : {ss : List Stream} {l : Letter} → IsLetter ss l → letter_with ss (λ k. get_or l k (pos 0)) ≡ l
letter_with-values none = refl
letter_with-values (more {v = v} w h) = ap (v ∷◌) (letter_with-values h)

pub letter_with-same : (ss : List Stream) (f g : ℕ → _) → ((k : ℕ) → k < length ss → f k ≡ g k) → letter_with ss f ≡ letter_with ss g
letter_with-same [] f g h = refl
letter_with-same (s ∷ ss) f g h = λ j. h 0 (omega arith) j ∷ letter_with-same ss (λ k. f (suc k)) (λ k. g (suc k)) (λ k b. h (suc k) (omega arith)) j

get_or-letter : {ss : List Stream} (r : Record) (i : ℕ) → OfLetters ss r → i < length r → IsLetter ss (get_or r i [])
get_or-letter [] i h b = absurd (omega arith)
get_or-letter (l ∷ r) zero h b = h l (Memᴰ.head refl)
get_or-letter (l ∷ r) (suc i) h b = get_or-letter r i (λ m p. h m (Memᴰ.tail p)) (omega arith)

pub all-below : {ss : List Stream} (r : Record) → OfLetters ss r → AllBelow (letter_count ss) (map (letter_number ss) r)
all-below [] h = tt
all-below (l ∷ r) h = (letter_number-bound (h l (Memᴰ.head refl)), all-below r (λ m p. h m (Memᴰ.tail p)))

-- ---- streams that solve exactly if their words lie in a set

module _ {ss : List Stream} {Sol : Word → Type 0} {Solves : Streams → Type 0} (x : SolvesByWord ss Sol Solves) where
  -- The streams that a word spells solve exactly if it lies in the set.
  pub spelled↔word : (a : Word) → InRange (letter_count ss) a → Solves (spell ss a) ↔ Sol a
  spelled↔word a b =
      let w = spell ss a in
      let p : Spells ss a w = record { letters = b; agrees = record { same = λ j i l. refl } } in
      let ranged = spell-ranged ss a b in
      let e : word_of ss w ≡ a = λ j i. spells_unique ss (word_of-spells ss w ranged) p i j in
      (λ h. subst Sol e ((x.word w ranged).1 h), λ h. (x.word w ranged).0 (subst Sol (sym e) h))

  -- A table of a set that settles is followed along exactly the streams that solve.
  module _ {n : ℕ} {entries finals : List ℕ} (settles : Settles Sol (letter_count ss)) (stored : StoredTable Sol (letter_count ss) n entries finals) where
    abbrev entry : ℕ → ℕ → ℕ
    entry = entry_at (letter_count ss) entries

    pub solves↔followed : (w : Streams) → Solves w ↔ FollowedAlong ss entries finals w
    solves↔followed w = (to, from)
      where
        to : Solves w → FollowedAlong ss entries finals w
        to h =
            let ranged = x.ranged w h in
            let v = word_of ss w in
            let b = (word_of-spells ss w ranged).letters in
            let a = (solution↔accepted stored.table settles v b).0 ((x.word w ranged).1 h) in
            record {
              ranged = ranged;
              path = (follows↔paths stored.table 0 v stored.table.some_state b).0 a.follows;
              again = λ m. let g = a.again m in (g.0, g.1, ap (final_at finals) (sym (run-walk entry g.0 0 v)) ∙ g.2);
            }

        from : FollowedAlong ss entries finals w → Solves w
        from f =
            let v = word_of ss w in
            let p = word_of-spells ss w f.ranged in
            let a : AcceptedWord n entry (final_at finals) v = record {
              follows = (follows↔paths stored.table 0 v stored.table.some_state p.letters).1 f.path;
              again = λ m. let g = f.again m in (g.0, g.1, ap (final_at finals) (run-walk entry g.0 0 v) ∙ g.2);
            } in
            (x.word w f.ranged).0 ((solution↔accepted stored.table settles v p.letters).1 a)

-- Two such sets over the same streams are equal exactly if the same streams solve.
pub words↔streams : {ss : List Stream} {Sol Sol' : Word → Type 0} {Solves Solves' : Streams → Type 0} → SolvesByWord ss Sol Solves → SolvesByWord ss Sol' Solves'
    → SameSolutions (letter_count ss) Sol Sol' ↔ (((w : Streams) → Solves w → Solves' w) × ((w : Streams) → Solves' w → Solves w))
words↔streams {ss} x y = (
  (λ e. (
    (λ w h. let r = x.ranged w h in (y.word w r).0 (e.to (word_of ss w) (word_of-spells ss w r).letters ((x.word w r).1 h))),
    λ w h. let r = y.ranged w h in (x.word w r).0 (e.from (word_of ss w) (word_of-spells ss w r).letters ((y.word w r).1 h)),
  )),
  λ e. record {
    to = λ a b h. (spelled↔word y a b).0 (e.0 (spell ss a) ((spelled↔word x a b).1 h));
    from = λ a b h. (spelled↔word x a b).0 (e.1 (spell ss a) ((spelled↔word y a b).1 h));
  },
)

-- ---- a sheet's solutions

module _ (s : Sheet) (known : NamesKnown s) where
  abbrev ss : List Stream
  ss = s.streams

  abbrev k : ℕ
  k = letter_count ss

  -- Streams are a solution exactly if they are in their ranges and the word of their letter numbers is a solution word.
  pub solution-by-word : SolvesByWord ss (SolutionWord s) (Solution s)
  solution-by-word = record { ranged = λ w h. h.ranged; word = λ w ranged. solution-word known (word_of-spells ss w ranged) }

  module _ {n : ℕ} {entries finals : List ℕ} (stored : StoredTable (SolutionWord s) k n entries finals) where
    pub solution↔followed : (w : Streams) → Solution s w ↔ FollowedAlong ss entries finals w
    solution↔followed w = solves↔followed solution-by-word (solutions_settle s) stored w

    -- a record, the empty one too
    pub path↔begins_solution : (r : Record) → OfLetters ss r → IsPath (entry_at k entries) (map (letter_number ss) r) ↔ BeginsSolution s r
    path↔begins_solution r h = (to, from)
      where
        to : IsPath (entry_at k entries) (map (letter_number ss) r) → BeginsSolution s r
        to p =
            let g = (path↔begins stored.table (map (letter_number ss) r) (all-below r h)).0 p in
            record {
              solution = spell ss (append (map (letter_number ss) r) g.word);
              solves = g.continues.solves.solves;
              letters = λ j i b l.
                  let e : append (map (letter_number ss) r) g.word i ≡ letter_number ss (get_or r i []) =
                  append-get_or (map (letter_number ss) r) g.word i (rw length-map l) ∙ get_d_map (letter_number ss) r i [] 0 l in
                  ap (λ a. get_or (letter_of ss a) j (pos 0)) e ∙ ap (λ m. get_or m j (pos 0)) (letter_of-letter_number (get_or-letter r i h l));
            }

        from : BeginsSolution s r → IsPath (entry_at k entries) (map (letter_number ss) r)
        from g =
            let w = g.solution in
            let x = word_of ss w in
            let b = (word_of-spells ss w g.solves.ranged).letters in
            let same : (i : ℕ) → i < length r → x i ≡ letter_number ss (get_or r i []) = λ i l.
            ap (letter_number ss) (letter_with-same ss (λ j. w j i) (λ j. get_or (get_or r i []) j (pos 0)) (λ j c. g.letters j i c l) ∙ letter_with-values (get_or-letter r i h l)) in
            let e : prefix x (length (map (letter_number ss) r)) ≡ map (letter_number ss) r =
            prefix-list x (map (letter_number ss) r) (λ i l. let l' : i < length r = rw length-map at l in same i l' ∙ sym (get_d_map (letter_number ss) r i [] 0 l')) in
            let c : Begins (SolutionWord s) k (prefix x (length (map (letter_number ss) r))) = record {
              word = suffix x (length (map (letter_number ss) r));
              in_range = in_range-suffix (length (map (letter_number ss) r)) x b;
              continues = record { solves = rw (append-prefix-suffix x (length (map (letter_number ss) r))) ((solution-by-word.word w g.solves.ranged).1 g.solves) };
            } in
            (path↔begins stored.table (map (letter_number ss) r) (all-below r h)).1 (subst (Begins (SolutionWord s) k) e c)

-- ---- two sheets over the same streams

module _ (ss : List Stream) (cs cs' : List Constraint) where
  abbrev S : Sheet
  S = record { streams = ss; constraints = cs }

  abbrev S' : Sheet
  S' = record { streams = ss; constraints = cs' }

  module _ (known : NamesKnown S) (known' : NamesKnown S') where
    pub used_rows↔same_solutions : {n n' : ℕ} {entries finals entries' finals' : List ℕ}
        → StoredTable (SolutionWord S) (letter_count ss) n entries finals → StoredTable (SolutionWord S') (letter_count ss) n' entries' finals'
        → SameUsedRows (letter_count ss) n entries finals n' entries' finals' ↔ HaveSameSolutions S S'
    used_rows↔same_solutions a b =
        let e = used_rows↔solutions (solutions_settle S) (solutions_settle S') a b in
        let same = words↔streams (solution-by-word S known) (solution-by-word S' known') in
        (λ r. let h = same.0 (e.0 r) in record { to = h.0; from = h.1 }, λ h. e.1 (same.1 (h.to, h.from)))
