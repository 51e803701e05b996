-- The law that joins what was written to the nodes that it was written from: at every letter `evaluate` gives the same number for the written nodes, over
-- the letter alone, with no firsts, at the place 0 of a whole record, as for the node, over the window with that letter behind it. And for the nodes of
-- a stored expression there is room where there is room for the expression.
use Prim.Native.Nat.{ℕ, suc, ◌+◌, ◌-◌, ◌≤◌, ◌<◌}
use native.Mathlib.Omega.{arith}
use native.Mathlib.Decide.{dec_lt}
use mathlib.Core.Path.{◌≡◌, refl, sym, ◌∙◌, ap}
use mathlib.Core.Bool.{true}
use mathlib.Core.List.{List}
use lib.IntN.{ℤ}
use lib.ListN.{length}
use borrow.Author.Tests.{lt-ltb}
use Rattle.meaning.specs.Expression.{Expression}
use Rattle.nodes.specs.Evaluate.{Nodes, has_node, View, places, node_value}
use Rattle.nodes.specs.declared.Evaluated.{Evaluated}
use Rattle.nodes.proofs.Postfix.{StoredAt}
use Rattle.arithmetic.specs.Coded.{coded}
use Rattle.evaluate.proofs.Recursion.{HasArrays}
use Rattle.residue.specs.Residue.{tree_value, Residue, known, tree_of, known_value, node_residue, with_letter, letter_view}
use Rattle.residue.specs.Written.{written, tree_size}
use Rattle.residue.proofs.Residue.{Awaits, node_residue_value}
use Rattle.residue.proofs.Written.{written_node}
use Rattle.residue.proofs.Size.{length-written, size-some, node-size}
use Rattle.residue.proofs.Writing.{writes_hold}
use Rattle.write_residue.specs.declared.WrittenResidue.{WrittenResidue}
use Rattle.write_residue.specs.Wrote.{Wrote}
use Rattle.write_residue.proofs.Answers.{end-room, end-full, known_is}

-- Whatever was written, the answer's end tells whether there was room.
pub room-told : {old new : Nodes} {at : ℕ} {r : Residue} {a : WrittenResidue} → Wrote old new at r a → a.end ≤ 1024 → (at + tree_size (tree_of r) ≤ 1024) × (a.end ≡ at + tree_size (tree_of r))
room-told {at = at} {r = r} {a = a} w h = by (dec_lt 1024 (at + tree_size (tree_of r)))
  where
    by : Dec (1024 < at + tree_size (tree_of r)) → (at + tree_size (tree_of r) ≤ 1024) × (a.end ≡ at + tree_size (tree_of r))
    by (yes l) = absurd (omega (arith, w.end, end-full at (tree_size (tree_of r)) l))
    by (no l) = (omega arith, w.end ∙ end-room at (tree_size (tree_of r)) (omega arith))

known-value : (streams : ℕ) (letter : List ℤ) (x : Evaluated) → tree_value streams letter (tree_of (known x)) ≡ x
unfolding tree_value tree_of
known-value streams letter x = refl

-- The node with the place `root` of N, at the place p of U, where the newest letter is yet to come, was written from `at` on.
module _ (N : Nodes) (U : View) (root p : ℕ) {old new : Nodes} {at : ℕ} {a : WrittenResidue} (w : Wrote old new at (node_residue N U (places U) root p) a) (h : p ≤ places U) where
  module _ (letter : List ℤ) (awaits : Awaits U (places U) letter) where
    -- What was written, at the letter alone.
    pub written_evaluates : HasArrays old → a.end ≤ 1024 → node_value new (letter_view U.streams letter) (a.end - 1) 0 ≡ node_value N (with_letter U letter) root p
    written_evaluates o e =
        let r = node_residue N U (places U) root p in
        let told = room-told w e in
        let some = size-some (tree_of r) in
        let l = length-written at (tree_of r) in
        let i : a.end - 1 < 1024 = omega (arith, told.1) in
        let here : has_node new (a.end - 1) ≡ true =
        simp (lt-ltb (a.end - 1) (length new.kinds) (omega (arith, w.arrays.kinds)), lt-ltb (a.end - 1) (length new.values) (omega (arith, w.arrays.values)), lt-ltb (a.end - 1) (length new.starts) (omega (arith, w.arrays.starts)))
        in
        written_node N U (places U) letter awaits new at (a.end - 1) root p h here (omega (arith, told.1)) (writes_hold old new at (written at (tree_of r)) o (omega (arith, told.0)) (w.nodes told.0))

    -- A value that is known is the same at every letter, and its number is that which was answered.
    pub known_evaluates : a.known ≡ true → a.value ≡ coded (node_value N (with_letter U letter) root p)
    known_evaluates k =
        let r = node_residue N U (places U) root p in
        let x = known_value r in
        w.value
        ∙ ap coded (sym (node_residue_value N U (places U) letter awaits root p h ∙ ap (λ s. tree_value U.streams letter (tree_of s)) (known_is r (sym w.known ∙ k)) ∙ known-value U.streams letter x))

  -- For a stored expression there is room where there is room for as many nodes.
  pub stored-room : {n f : ℕ} {e : Expression} → StoredAt N n f e (suc root) → at + (suc root - n) ≤ 1024 → a.end ≤ at + (suc root - n)
  stored-room s b =
      let z = node-size N U (places U) p s in
      omega (arith, w.end, end-room at (tree_size (tree_of (node_residue N U (places U) root p))) (omega (arith, z)))
