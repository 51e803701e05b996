-- For constraints whose sides are stored one behind the other, as a sheet's are, there is room for the residues of all sides where there is room for the
-- sides: the answer of `write_sides` is yes.
use Prim.Native.Nat.{ℕ, zero, suc, ◌≤◌, ◌<◌}
use native.Mathlib.Omega.{arith}
use mathlib.Core.Path.{◌≡◌, ◌∙◌}
use mathlib.Core.Bool.{Bool, true}
use mathlib.Core.List.{List}
use lib.ListN.{get_or}
use borrow.Author.Tests.{le-leb}
use Rattle.meaning.specs.Expression.{Expression}
use Rattle.nodes.specs.Evaluate.{Nodes, View, places}
use Rattle.nodes.proofs.Postfix.{StoredAt, stored-ends}
use Rattle.residue.proofs.Size.{node-size}
use Rattle.write_sides.specs.Sides.{sides_size, sides_within, WritesSides}

-- The place behind the sides of the first j constraints.
abbrev pub end_before : List ℕ → ℕ → ℕ
end_before rights zero = 0
end_before rights (suc j) = suc (get_or rights j 0)

-- Both sides of the constraint j are stored, the left one behind those of the constraint before, and the right one behind it.
pub record SidesStored (N : Nodes) (lefts rights : List ℕ) (j : ℕ) : Type 0 where
  pub left_first : ℕ
  pub right_first : ℕ
  pub left : Expression
  pub right : Expression
  pub left_stored : StoredAt N (end_before rights j) left_first left (suc (get_or lefts j 0))
  pub right_stored : StoredAt N (suc (get_or lefts j 0)) right_first right (suc (get_or rights j 0))

module _ (N : Nodes) (U : View) (letters p : ℕ) (lefts rights : List ℕ) where
  -- The residues have at most as many nodes as the sides.
  pub stored_size : (n : ℕ) → ((j : ℕ) → j < n → SidesStored N lefts rights j) → sides_size N U letters p lefts rights n ≤ end_before rights n
  unfolding sides_size
  stored_size zero s = omega arith
  stored_size (suc n) s =
      let x = s n (omega arith) in
      omega (
        arith,
        stored_size n (λ j h. s j (omega arith)),
        node-size N U letters p x.left_stored,
        node-size N U letters p x.right_stored,
        stored-ends x.left_stored,
        stored-ends x.right_stored,
      )

-- So the answer is yes.
pub stored_answer : {N : Nodes} {U : View} {p : ℕ} {lefts rights : List ℕ} {M : Nodes} {new_lefts new_rights : List ℕ} {ok : Bool} → WritesSides N U p lefts rights M new_lefts new_rights ok
    → ((j : ℕ) → j < sides_within lefts rights → SidesStored N lefts rights j) → end_before rights (sides_within lefts rights) ≤ 1024 → ok ≡ true
stored_answer {N} {U} {p} {lefts} {rights} w s h =
    w.answer
    ∙ le-leb (sides_size N U (places U) p lefts rights (sides_within lefts rights)) 1024 (omega (arith, stored_size N U (places U) p lefts rights (sides_within lefts rights) s))
