-- One round of splitting classes. The classes of the round before do not change while it goes through the rows: each row gets
-- the first row with its signature. Rows that begin a new class stand in chains, one for each bucket: `heads` has one more than
-- the row last put there, `links` one more than the row before it, 0 for none.
use Rattle.std.specs.Prelude.{Option, None, Some, ◌≡◌, ◌⊎◌, ◌≢◌, Bool, true, false, List, ℕ, suc, ◌-◌, ◌<◌, ◌≤◌, get_or, length, set}
use Rattle.marks.specs.Marks.{Marked}
use Rattle.refine.specs.Signatures.{SameSignature, row_bucket}

-- row i stands in the chain that begins with row j - 1, or in none if j is 0
pub data OnChain (links : List ℕ) : ℕ → ℕ → Type 0 where
  here : {j i : ℕ} → j ≡ suc i → OnChain links j i
  further : {j i : ℕ} (r : ℕ) → j ≡ suc r → OnChain links (get_or links r 0) i → OnChain links j i

-- a link leads to an earlier row
abbrev pub Falling : List ℕ → Type 0
Falling links = (r : ℕ) → get_or links r 0 ≤ r

-- a row of the chain from `head` with the signature of row s, which comes before row s; or none if there is no such row
abbrev pub RowFound : (letters : ℕ) (entries class links : List ℕ) (head s : ℕ) → Option ℕ → Type 0
RowFound letters entries class links head s None = (i : ℕ) → OnChain links head i → ¬ SameSignature letters entries class i s
RowFound letters entries class links head s (Some r) = (r < s) × OnChain links head r × SameSignature letters entries class r s

-- row s joins the new class that row v - 1 began
pub record Joins (letters : ℕ) (entries class envelopes heads links heads' links' : List ℕ) (s v : ℕ) : Type 0 where
  pub some : 0 < v
  pub on_chain : OnChain links (get_or heads (row_bucket (length heads) letters entries class envelopes s) 0) (v - 1)
  pub same : SameSignature letters entries class (v - 1) s
  pub heads_kept : heads' ≡ heads
  pub links_kept : links' ≡ links

-- row s begins a new class, and is put into its bucket's chain
pub record BeginsClass (letters : ℕ) (entries class envelopes heads links heads' links' : List ℕ) (s v : ℕ) : Type 0 where
  pub own : v ≡ suc s
  pub none : (i : ℕ) → OnChain links (get_or heads (row_bucket (length heads) letters entries class envelopes s) 0) i → ¬ SameSignature letters entries class i s
  pub heads_changed : heads' ≡ set heads (row_bucket (length heads) letters entries class envelopes s) (suc s)
  pub links_changed : links' ≡ set links s (get_or heads (row_bucket (length heads) letters entries class envelopes s) 0)

-- Row s has a class, and joins or begins a new one; where it is the first row of its class, `mark`, which is that of row s, says that there is another.
pub record Splits (letters : ℕ) (entries class envelopes : List ℕ) (mark : ℕ) (heads links heads' links' : List ℕ) (s v : ℕ) : Type 0 where
  pub some : 0 < get_or class s 0
  pub shares : get_or class s 0 ≡ suc s → mark ≡ 1
  pub way : Joins letters entries class envelopes heads links heads' links' s v ⊎ BeginsClass letters entries class envelopes heads links heads' links' s v

-- row s keeps its class: it has none, or its class has no other row
pub record Stays (class : List ℕ) (mark : ℕ) (heads links heads' links' : List ℕ) (s v : ℕ) : Type 0 where
  pub kept : v ≡ get_or class s 0
  pub alone : 0 < get_or class s 0 → (get_or class s 0 ≡ suc s) × (mark ≢ 1)
  pub heads_kept : heads' ≡ heads
  pub links_kept : links' ≡ links

-- the first row of a class with another row is marked in `shared`
abbrev pub Sharing : List ℕ → List ℕ → ℕ → Type 0
Sharing class shared n = (s : ℕ) → s < n → 0 < get_or class s 0 → get_or class s 0 ≢ suc s → Marked shared (get_or class s 0 - 1)

-- v is one more than the first row with the signature of row s
pub record IsFirst (letters : ℕ) (entries class : List ℕ) (s v : ℕ) : Type 0 where
  pub some : 0 < v
  pub low : v ≤ suc s
  pub same : SameSignature letters entries class (v - 1) s
  pub least : (j : ℕ) → suc j < v → ¬ SameSignature letters entries class j s

-- `next` has the new classes of the first n rows
pub record IsSplit (letters : ℕ) (entries class next : List ℕ) (n : ℕ) : Type 0 where
  pub none : (s : ℕ) → s < n → get_or class s 0 ≡ 0 → get_or next s 0 ≡ 0
  pub first : (s : ℕ) → s < n → 0 < get_or class s 0 → IsFirst letters entries class s (get_or next s 0)

-- whether some of the first n rows has another class than before
abbrev pub ClassesMoved : Bool → List ℕ → List ℕ → ℕ → Type 0
ClassesMoved true class next n = (s : ℕ) × (s < n) × (get_or next s 0 ≢ get_or class s 0)
ClassesMoved false class next n = (s : ℕ) → s < n → get_or next s 0 ≡ get_or class s 0

pub record Round (letters : ℕ) (entries class next : List ℕ) (changed : Bool) : Type 0 where
  pub split : IsSplit letters entries class next (length class)
  pub moved : ClassesMoved changed class next (length class)
