-- Sets of endless words over k letters: when two are equal, what a record leaves over of one, and sets given by prefixes.
-- "Solution" is document 01's term for a member of the set of a sheet. The definitions hold for any set `Sol`, and nothing
-- here knows about tables.
use Rattle.std.specs.Prelude.{◌≡◌, List, ℕ}
use Rattle.automaton.specs.Words.{Word, append, prefix, InRange}

-- "Two sheets over the same streams have the same solutions if each solution of either is a solution of the other."
pub record SameSolutions (k : ℕ) (Sol Sol' : Word → Type 0) : Type 0 where
  pub to : (w : Word) → InRange k w → Sol w → Sol' w
  pub from : (w : Word) → InRange k w → Sol' w → Sol w

-- "no solution"
abbrev pub NoSolution : (k : ℕ) (Sol : Word → Type 0) → Type 0
NoSolution k Sol = (w : Word) → InRange k w → ¬ Sol w

-- w is one of the "endless continuations" that the record r leaves over: r and then w is a solution.
pub record Continuation (Sol : Word → Type 0) (r : List ℕ) (w : Word) : Type 0 where
  pub solves : Sol (append r w)

-- the records r and s leave over the same set of endless continuations
abbrev pub SameContinuations : (Sol : Word → Type 0) (k : ℕ) (r s : List ℕ) → Type 0
SameContinuations Sol k r s = SameSolutions k (Continuation Sol r) (Continuation Sol s)

-- "It begins a solution if the solution's letters at times 0 to n−1 are its own."
pub record Begins (Sol : Word → Type 0) (k : ℕ) (r : List ℕ) : Type 0 where
  pub word : Word
  pub in_range : InRange k word
  pub continues : Continuation Sol r word

-- The words whose prefixes are all lawful, and one of whose prefixes is done. For document 01's lawful records, with `done`
-- for the records after which each `until` is done, these are the solutions of a sheet.
pub record ByPrefixes (lawful done : List ℕ → Type 0) (w : Word) : Type 0 where
  pub all_lawful : (t : ℕ) → lawful (prefix w t)
  pub time : ℕ
  pub is_done : done (prefix w time)

-- A set settles if every solution w has a time from which on prefixes alone decide: a word that agrees with w up to that time,
-- and each of whose prefixes begins a solution, is a solution.
pub record Settles (Sol : Word → Type 0) (k : ℕ) : Type 0 where
  pub time : (w : Word) → InRange k w → Sol w → ℕ
  pub settled : (w : Word) (b : InRange k w) (x : Sol w) (v : Word) → InRange k v → prefix v (time w b x) ≡ prefix w (time w b x)
      → ((t : ℕ) → Begins Sol k (prefix v t)) → Sol v
