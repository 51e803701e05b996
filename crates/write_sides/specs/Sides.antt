-- The residues of the sides of constraints, written one behind the other.
use Rattle.std.specs.Prelude.{ℕ, zero, suc, ◌+◌, ◌-◌, ◌≤◌, ◌<◌, min, ◌≡◌, Bool, true, List, leb, length, get_or}
use Rattle.sheet.specs.Refusal.{constraint_bound}
use Rattle.nodes.specs.Evaluate.{Nodes, View, places}
use Rattle.nodes.proofs.Postfix.{Holds}
use Rattle.evaluate.proofs.Recursion.{HasArrays}
use Rattle.residue.specs.Residue.{Residue, tree_of, node_residue}
use Rattle.residue.specs.Written.{written, tree_size, SameBelow}
use Rattle.write_residue.specs.Wrote.{end_of}
use Rattle.write_sides.specs.declared.SideNodes.{SideNodes}

-- The newest letter of U is yet to come: U has the letters before the place `letters`. The sides are those of N's nodes at the place p.
module _ (N : Nodes) (U : View) (letters p : ℕ) where
  abbrev pub side_residue : ℕ → Residue
  side_residue root = node_residue N U letters root p

  -- How many nodes a side's residue has.
  abbrev pub side_size : ℕ → ℕ
  side_size root = tree_size (tree_of (side_residue root))

  -- The residue of the side whose last node is `root` stands in M, before the place `end`, with `last` as its last node.
  pub record SideWritten (M : Nodes) (end root last : ℕ) : Type 0 where
    pub start : ℕ
    pub ends : suc last ≡ start + side_size root
    pub within : suc last ≤ end
    pub holds : Holds M start (written start (tree_of (side_residue root)))

  -- Both sides of one constraint were written from the place `at` on, if there was room: `nodes` tells the places behind them.
  pub record ConstraintWritten (old new : Nodes) (at : ℕ) (roots ends : SideNodes) : Type 0 where
    pub end : ends.right ≡ end_of at (side_size roots.left + side_size roots.right)
    pub kept : SameBelow at new old
    pub arrays : HasArrays new
    pub left : ends.right ≤ 1024 → SideWritten new ends.right roots.left (ends.left - 1)
    pub right : ends.right ≤ 1024 → SideWritten new ends.right roots.right (ends.right - 1)
    pub some : ends.right ≤ 1024 → 0 < ends.left

  -- Lists of the sides' last nodes: how many nodes the residues of the first n constraints have, and that those of the first n stand in M before `end`,
  -- with their last nodes in two other lists.
  module _ (lefts rights : List ℕ) where
    unfoldable pub sides_size : ℕ → ℕ
    sides_size zero = 0
    sides_size (suc j) = sides_size j + (side_size (get_or lefts j 0) + side_size (get_or rights j 0))

    pub record SidesWritten (M : Nodes) (end n : ℕ) (new_lefts new_rights : List ℕ) : Type 0 where
      pub left : (j : ℕ) → j < n → SideWritten M end (get_or lefts j 0) (get_or new_lefts j 0)
      pub right : (j : ℕ) → j < n → SideWritten M end (get_or rights j 0) (get_or new_rights j 0)

-- How many constraints have both sides, as far as the bound goes.
abbrev pub sides_within : List ℕ → List ℕ → ℕ
sides_within lefts rights = min (min (length lefts) (length rights)) constraint_bound

-- What is written of the sides of all constraints: everything, if there is room for all. Where there is none, what stands in the lists is left open.
pub record WritesSides (N : Nodes) (U : View) (p : ℕ) (lefts rights : List ℕ) (new : Nodes) (new_lefts new_rights : List ℕ) (ok : Bool) : Type 0 where
  pub answer : ok ≡ leb (sides_size N U (places U) p lefts rights (sides_within lefts rights)) 1024
  pub sides : ok ≡ true → SidesWritten N U (places U) p lefts rights new 1024 (sides_within lefts rights) new_lefts new_rights
  pub arrays : HasArrays new
