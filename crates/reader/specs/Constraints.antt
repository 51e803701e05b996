-- What is stored of the constraint lines, line after line (document 01, "Every further line is one constraint").
use Rattle.std.specs.Prelude.{ℕ, ◌+◌, ◌≤◌, ◌≡◌, Bool, true, false, cond, ◌||◌, List, [], ◌∷◌, eqb, length, set}
use Rattle.std.proofs.Math.Option.{Option, some, none}
use Rattle.nodes.specs.Evaluate.{Nodes}
use Rattle.text.specs.Bytes.{Token, tokens}
use Rattle.meaning.specs.Expression.{Constraint}
use Rattle.meaning.specs.Window.{side_firsts}
use Rattle.nodes.specs.Postfix.{side_nodes, stored_constraint}
use Rattle.sheet.specs.Refusal.{token_count}
use Rattle.sheet.specs.Parser.{and_then, parse_constraint}
use Rattle.parse.specs.Stored.{store}
use Rattle.parse.specs.Bounded.{bounded_constraint, constraint_beyond}
use Rattle.reader.specs.declared.ConstraintsRead.{ConstraintsRead}

-- The tables and counts after some lines.
pub record State : Type 0 where
  pub nodes : Nodes
  pub relations : List ℕ
  pub lefts : List ℕ
  pub rights : List ℕ
  pub counts : ConstraintsRead

abbrev pub state : Nodes → List ℕ → List ℕ → List ℕ → ConstraintsRead → State
state a p l r k = record { nodes = a; relations = p; lefts = l; rights = r; counts = k }

abbrev pub counts : ℕ → ℕ → ℕ → ℕ → Bool → ConstraintsRead
counts c n f u b = record { ok = true; count = c; nodes = n; firsts = f; untils = u; beyond = b }

-- One constraint more.
unfoldable pub with_constraint : State → Constraint → State
with_constraint s c =
    let k = s.counts in
    let t = stored_constraint k.nodes k.firsts (bounded_constraint c) in
    let l = side_nodes k.nodes k.firsts (bounded_constraint c) in
    state
    (store s.nodes k.nodes l)
    (set s.relations k.count t.relation)
    (set s.lefts k.count t.left)
    (set s.rights k.count t.right)
    (counts (k.count + 1) (k.nodes + length l) (k.firsts + length (side_firsts (bounded_constraint c))) (k.untils + cond (eqb t.relation 7) 1 0) (k.beyond || constraint_beyond c))

unfoldable pub read_all : List Token → State → List (List ℕ) → Option State
read_all names s [] = some s
read_all names s (l ∷ ls) = and_then (parse_constraint names (tokens l)) (λ c. read_all names (with_constraint s c) ls)

-- As many lines and tokens as refusal 2 leaves.
pub record LinesFit (ls : List (List ℕ)) : Type 0 where
  pub count : length ls ≤ 32
  pub tokens : token_count ls ≤ 1024

-- The lines are constraints, and the tables and counts are those after them; or they are not, and what the tables hold is left open.
pub data ConstraintsOutcome (names : List Token) (ls : List (List ℕ)) (old new : State) : Type 0 where
  no_form : read_all names old ls ≡ none → new.counts.ok ≡ false → ConstraintsOutcome names ls old new
  are_read : read_all names old ls ≡ some new → ConstraintsOutcome names ls old new
