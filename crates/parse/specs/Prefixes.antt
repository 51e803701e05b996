-- `first`, `next` and `not` that stand one before the other, and what is read of the part that they begin from what was read behind them.
use Rattle.std.specs.Prelude.{ℕ, ◌+◌, ◌-◌, ◌≡◌, true, cond, List, ◌∷◌, eqb}
use Rattle.nodes.specs.Evaluate.{Nodes}
use Rattle.text.specs.Bytes.{Token}
use Rattle.sheet.specs.Vocabulary.{prefix_of}
use Rattle.sheet.specs.Parser.{part_to}
use Rattle.vocabulary.specs.Word.{code_or255, prefix_code}
use Rattle.parse.specs.declared.Read.{Read}
use Rattle.parse.specs.Reading.{TreeRead, firsts_inside}

-- The number of the first `first` from the node of this kind on, where g is that of the first `first` inside it.
abbrev pub firsts_before : ℕ → ℕ → ℕ
firsts_before kind g = cond (eqb kind 2) (g - 1) g

-- What was read, up to the node before m.
abbrev pub read_up_to : Read → ℕ → Read
read_up_to r m = record { ok = true; next = r.next; nodes = m; firsts = r.firsts; beyond = r.beyond }

-- The tokens from the number `at` to before m are prefixes, and the `first`s among them have the numbers from f to before g.
pub data Passes (rest : ℕ → List Token) (at f : ℕ) : ℕ → ℕ → Type 0 where
  passes_nothing : {m g : ℕ} → m ≡ at → g ≡ f → Passes rest at f m g
  passes_more : {m g m' g' : ℕ} {w : Token} {k : ℕ} → Passes rest at f m g → rest m ≡ w ∷ rest m' → m' ≡ m + 1 → k ≡ code_or255 prefix_code (prefix_of w) → (k ≡ 255 → ⊥) → g' ≡ firsts_inside k g
      → Passes rest at f m' g'

-- A part that was read as r from the token with the number m on leads to one that was read as s from the token with the number `at` on.
pub record ReadLeads (rest : ℕ → List Token) (n m g : ℕ) (mid : Nodes) (r : Read) (at f : ℕ) (new : Nodes) (s : Read) : Type 0 where
  pub read : s.ok ≡ true
  pub found : (names : List Token) (old : Nodes) → TreeRead (part_to names) rest m old mid n g r → TreeRead (part_to names) rest at old new n f s
