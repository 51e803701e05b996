-- What the readers of parts, expressions and constraints give and store.
use Rattle.std.specs.Prelude.{ℕ, ◌+◌, ◌≤◌, ◌<◌, ◌≡◌, Bool, true, false, cond, not, ◌&&◌, List, eqb, ℤ, pos, length}
use Rattle.std.proofs.Math.Option.{some, none}
use Rattle.std.proofs.lemmas.List.Edits.{sets}
use Rattle.nodes.specs.Evaluate.{Nodes}
use Rattle.text.specs.Bytes.{Token, tokens}
use Rattle.text.specs.Token.{is_name, is_integer, is_reserved}
use Rattle.scan.specs.Start.{token_starts_of}
use Rattle.meaning.specs.Expression.{Expression, Constraint}
use Rattle.meaning.specs.Window.{firsts, side_firsts}
use Rattle.nodes.specs.Postfix.{postfix, side_nodes, stored_constraint}
use Rattle.sheet.specs.Parser.{parsed, Reader, part_from, opening_of, parse_constraint}
use Rattle.parse.specs.declared.Read.{Read}
use Rattle.parse.specs.declared.ConstraintRead.{ConstraintRead}
use Rattle.parse.specs.Stored.{store, SameBelow}
use Rattle.parse.specs.Bounded.{bounded_expression, has_beyond, bounded_constraint, constraint_beyond}

-- The nodes of one line and those before it fit the arrays, since no token makes more than one node; and so few `first`s are numbered that
-- their numbers fit.
pub record LineFits (ts : List Token) (n f : ℕ) : Type 0 where
  pub nodes : n + length ts ≤ 1024
  pub firsts : f + length ts ≤ 2048

-- The tree's nodes were stored from n on, its `first`s numbered from f on, up to m and g; b says whether an integer in it is beyond the bound.
pub record StoresTree (tree : Expression) (old new : Nodes) (n f m g : ℕ) (b : Bool) : Type 0 where
  pub arrays : new ≡ store old n (postfix n f (bounded_expression tree))
  pub nodes : m ≡ n + length (postfix n f (bounded_expression tree))
  pub firsts : g ≡ f + length (firsts (bounded_expression tree))
  pub beyond : b ≡ has_beyond tree

-- A tree was read from the token with the number `at` on, up to before that with r's next number, where `rest` gives the tokens from a
-- number on. Bounds of the reader at least as large as the number of tokens agree. `numbers` says that one number was passed for each token
-- read, `room` and `room_firsts` that no more nodes were stored and `first`s numbered than tokens read.
pub record TreeRead (R : ℕ → Reader) (rest : ℕ → List Token) (at : ℕ) (old new : Nodes) (n f : ℕ) (r : Read) : Type 0 where
  pub tree : Expression
  pub reads : (d : ℕ) → length (rest at) ≤ d → R d (rest at) ≡ parsed tree (rest r.next)
  pub stores : StoresTree tree old new n f r.nodes r.firsts r.beyond
  pub fewer : length (rest r.next) < length (rest at)
  pub numbers : r.next + length (rest r.next) ≡ at + length (rest at)
  pub room : r.nodes + length (rest r.next) ≤ n + length (rest at)
  pub room_firsts : r.firsts + length (rest r.next) ≤ f + length (rest at)

-- What a reader's answer says of the tokens from the number `at` on. Where nothing was read, what stands in the arrays from n on is left open.
pub record PartReading (R : ℕ → Reader) (rest : ℕ → List Token) (at : ℕ) (old new : Nodes) (n f : ℕ) (r : Read) : Type 0 where
  pub found : r.ok ≡ true → TreeRead R rest at old new n f r
  pub missing : r.ok ≡ false → (d : ℕ) → length (rest at) ≤ d → R d (rest at) ≡ none
  pub kept : SameBelow n new old

-- An integer or a name by itself: what a part that begins with this token is, whatever stands after it.
pub record Leaf (names : List Token) (word : Token) (old new : Nodes) (n f : ℕ) (r : Read) : Type 0 where
  pub tree : Expression
  pub reads : (p : Reader) (us : List Token) → part_from names p (opening_of word) word us ≡ parsed tree us
  pub stores : StoresTree tree old new n f r.nodes r.firsts r.beyond
  pub one : r.nodes ≡ n + 1
  pub none : r.firsts ≡ f

pub record LeafReading (names : List Token) (word : Token) (next : ℕ) (old new : Nodes) (n f : ℕ) (r : Read) : Type 0 where
  pub found : r.ok ≡ true → Leaf names word old new n f r
  pub place : r.ok ≡ true → r.next ≡ next
  pub missing : r.ok ≡ false → (is_integer word ≡ false) × (is_name word && not (is_reserved word) ≡ false)
  pub kept : SameBelow n new old

-- How many `first`s are numbered inside the node of this kind, and the node's value: a `first`'s number is given when its word is read.
abbrev pub firsts_inside : ℕ → ℕ → ℕ
firsts_inside kind f = cond (eqb kind 2) (f + 1) f

abbrev pub prefix_value : ℕ → ℕ → ℤ
prefix_value kind f = cond (eqb kind 2) (pos f) (pos 0)

-- What is read of a constraint line: nothing, with whether the arrays have room for it, or the constraint.
abbrev pub unread : Bool → ConstraintRead
unread fits = record { fits = fits; ok = false; relation = 0; left = 0; right = 0; next = 0; firsts = 0; beyond = false }

abbrev pub constraint_read : ℕ → ℕ → Constraint → ConstraintRead
constraint_read n f c =
    let s = stored_constraint n f (bounded_constraint c) in
    record {
      fits = true;
      ok = true;
      relation = s.relation;
      left = s.left;
      right = s.right;
      next = n + length (side_nodes n f (bounded_constraint c));
      firsts = f + length (side_firsts (bounded_constraint c));
      beyond = constraint_beyond c;
    }

-- The line is within what the arrays can take.
pub record Fits (line : List ℕ) (n f : ℕ) : Type 0 where
  pub nodes : n + length (tokens line) ≤ 1024
  pub firsts : f ≤ 1024

-- What the array of token starts holds after a line: it is unchanged where the line is too long, else the line's are stored from n on.
pub data StartsOutcome (line : List ℕ) (n f : ℕ) (old new : List ℕ) : Type 0 where
  are_kept : (Fits line n f → ⊥) → new ≡ old → StartsOutcome line n f old new
  are_stored : Fits line n f → new ≡ sets old n (token_starts_of line) → StartsOutcome line n f old new

-- The answer to a constraint line and what the arrays hold after it: nothing is changed where the line is too long; where it is no
-- constraint, the arrays hold below n what they held, and what they hold from n on is left open.
pub data ConstraintOutcome (names line : List ℕ) (n f : ℕ) (old new : Nodes) (r : ConstraintRead) : Type 0 where
  is_too_long : (Fits line n f → ⊥) → r ≡ unread false → new ≡ old → ConstraintOutcome names line n f old new r
  is_no_constraint : Fits line n f → parse_constraint (tokens names) (tokens line) ≡ none → r ≡ unread true → SameBelow n new old → ConstraintOutcome names line n f old new r
  is_read : {c : Constraint} → Fits line n f → parse_constraint (tokens names) (tokens line) ≡ some c → r ≡ constraint_read n f c
      → new ≡ store old n (side_nodes n f (bounded_constraint c)) → ConstraintOutcome names line n f old new r
