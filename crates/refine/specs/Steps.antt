-- What the steps of the refinement ask of their lists, and what they leave.
use Rattle.std.specs.Prelude.{◌≡◌, ◌⊎◌, ◌≢◌, Bool, List, ℕ, suc, ◌*◌, ◌<◌, ◌≤◌, get_or, length, replicate}
use Rattle.basics.specs.Answers.{Says}
use Rattle.marks.specs.Marks.{Marked}
use Rattle.row_envelopes.specs.Envelopes.{Enveloped}
use Rattle.refine.specs.Classes.{IsNamed, Refined, Sizes}
use Rattle.refine.specs.Signatures.{EnvelopedClasses}
use Rattle.refine.specs.Splitting.{Falling, Sharing}

-- the live rows in two classes, the final ones and the others
pub record ByFinals (live finals class : List ℕ) : Type 0 where
  pub named : IsNamed live class
  pub finals_alike : (s t : ℕ) → Marked live s → Marked live t → get_or class s 0 ≡ get_or class t 0 → Marked finals s → Marked finals t
  pub parted : (s t : ℕ) → Marked live s → Marked live t → get_or class s 0 ≢ get_or class t 0
      → (Marked finals s × (¬ Marked finals t)) ⊎ (Marked finals t × (¬ Marked finals s))

-- `row` is a row, and the chain from `head` leads through earlier rows
pub record Searchable (letters : ℕ) (entries class envelopes links : List ℕ) (head row : ℕ) : Type 0 where
  pub inside : row < length class
  pub head_most : head ≤ row
  pub entries_fit : length class * letters ≤ length entries
  pub envelopes_fit : length envelopes ≡ length class
  pub enveloped : EnvelopedClasses letters entries class envelopes
  pub links_fit : length links ≡ length class
  pub falling : Falling links

-- `row` is a row, and all chains lead through earlier rows
pub record Splittable (letters : ℕ) (entries class envelopes heads links : List ℕ) (row : ℕ) : Type 0 where
  pub few : length class < 65536
  pub inside : row < length class
  pub entries_fit : length class * letters ≤ length entries
  pub envelopes_fit : length envelopes ≡ length class
  pub enveloped : EnvelopedClasses letters entries class envelopes
  pub heads_fit : length heads ≡ length class
  pub links_fit : length links ≡ length class
  pub heads_most : (k : ℕ) → get_or heads k 0 ≤ row
  pub falling : Falling links

-- before a round: no row stands in a chain, and `next` has the marks of the first rows of classes with another row
pub record IsSized (letters : ℕ) (entries class envelopes next heads links : List ℕ) : Type 0 where
  pub few : length class < 65536
  pub entries_fit : length class * letters ≤ length entries
  pub envelopes_fit : length envelopes ≡ length class
  pub enveloped : EnvelopedClasses letters entries class envelopes
  pub next_fits : length next ≡ length class
  pub heads_fit : length heads ≡ length class
  pub links_fit : length links ≡ length class
  pub low : (s : ℕ) → get_or class s 0 ≤ suc s
  pub sharing : Sharing class next (length class)
  pub empty : (k : ℕ) → get_or heads k 0 ≡ 0
  pub falling : Falling links

-- before a round: its tables may hold anything, but links lead to earlier rows
pub record Rounds (letters : ℕ) (entries class envelopes next heads links : List ℕ) : Type 0 where
  pub few : length class < 65536
  pub entries_fit : length class * letters ≤ length entries
  pub envelopes_fit : length envelopes ≡ length class
  pub enveloped : EnvelopedClasses letters entries class envelopes
  pub next_fits : length next ≡ length class
  pub heads_fit : length heads ≡ length class
  pub links_fit : length links ≡ length class
  pub low : (s : ℕ) → get_or class s 0 ≤ suc s
  pub falling : Falling links

-- before the rounds: the lists have their sizes, and the rows their envelopes
pub record Roundable (letters : ℕ) (entries live finals envelopes class next heads links : List ℕ) : Type 0 where
  pub sizes : Sizes letters entries live finals class next heads links envelopes
  pub enveloped : Enveloped letters entries live envelopes (length live)

-- After a refinement the work tables are zero.
pub record IsRefinement (letters : ℕ) (entries live finals class next heads links envelopes class' next' heads' links' envelopes' : List ℕ) : Type 0 where
  pub class_length : length class' ≡ length class
  pub refined : Refined letters entries live finals class'
  pub next_zero : next' ≡ replicate (length next) 0
  pub heads_zero : heads' ≡ replicate (length heads) 0
  pub links_zero : links' ≡ replicate (length links) 0
  pub envelopes_zero : envelopes' ≡ replicate (length envelopes) 0

-- The classes are those of the rows that no record tells apart, and the work tables are zero, if the lists have the sizes; and
-- else nothing changes. The answer says which. So nothing is left open: `Refined` holds of one list only (`Rattle.refine.proofs.Unique`).
pub record RefineOutcome (letters : ℕ) (entries live finals class next heads links envelopes : List ℕ) (answer : Bool) (class' next' heads' links' envelopes' : List ℕ) : Type 0 where
  pub says : Says answer (Sizes letters entries live finals class next heads links envelopes)
  pub fits : Sizes letters entries live finals class next heads links envelopes → IsRefinement letters entries live finals class next heads links envelopes class' next' heads' links' envelopes'
  pub unchanged : ¬ Sizes letters entries live finals class next heads links envelopes
      → (class' ≡ class) × (next' ≡ next) × (heads' ≡ heads) × (links' ≡ links) × (envelopes' ≡ envelopes)
