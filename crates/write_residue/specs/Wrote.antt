-- What is answered where a residue is written, and what stands in the lists of nodes then.
use Rattle.std.specs.Prelude.{ℕ, zero, suc, ◌+◌, ◌-◌, ◌≤◌, ◌<◌, ◌≡◌, Bool, true, false, cond, List, [], ◌∷◌, leb, ℤ}
use Rattle.nodes.specs.Bounded.{no_value, bounded}
use Rattle.nodes.specs.Postfix.{Node}
use Rattle.nodes.specs.Evaluate.{Nodes, View, view, places}
use Rattle.nodes.specs.declared.Evaluated.{Evaluated}
use Rattle.arithmetic.specs.Coded.{coded}
use Rattle.evaluate.proofs.Recursion.{HasArrays}
use Rattle.residue.specs.Residue.{Residue, known, tree_of, is_known, known_value, negated_residue, operated_residue, residue_before}
use Rattle.residue.specs.Written.{written, tree_size, SameBelow, Writes}
use Rattle.write_residue.specs.declared.WrittenResidue.{WrittenResidue}
use Rattle.write_residue.specs.declared.Moved.{Moved}
use Rattle.write_residue.specs.declared.Moved.TheVariants.{Known, To}

-- The place behind so many nodes from the place `at` on, in arrays of 1024; 1025 where there is no room for them.
abbrev pub end_of : ℕ → ℕ → ℕ
end_of at size = cond (leb (at + size) 1024) (at + size) 1025

-- One more node was written at the place `end`, if there was room.
pub record Appended (old new : Nodes) (end : ℕ) (x : Node) (r : ℕ) : Type 0 where
  pub next : r ≡ end_of end 1
  pub kept : SameBelow end new old
  pub nodes : end < 1024 → Writes old new end (x ∷ [])
  pub arrays : HasArrays new

-- The answer for a value that is known, and for a tree that reads the letter; the nodes end before `end`.
abbrev pub known_at : ℤ → ℕ → WrittenResidue
known_at value end = record { known = true; value = value; end = end }

abbrev pub varying_at : ℕ → WrittenResidue
varying_at end = record { known = false; value = coded no_value; end = end }

-- The residue r was written from the place `at` on: the answer says whether its value is known, and then the number of that value, and where its nodes
-- end. What stood before stays. What stands behind them is left open, and where there is no room for them, what stands from `at` on.
pub record Wrote (old new : Nodes) (at : ℕ) (r : Residue) (a : WrittenResidue) : Type 0 where
  pub known : a.known ≡ is_known r
  pub value : a.value ≡ coded (known_value r)
  pub end : a.end ≡ end_of at (tree_size (tree_of r))
  pub kept : SameBelow at new old
  pub nodes : at + tree_size (tree_of r) ≤ 1024 → Writes old new at (written at (tree_of r))
  pub arrays : HasArrays new

-- A number was written as the value that it stands for.
pub record WroteKnown (old new : Nodes) (at : ℕ) (number : ℤ) (a : WrittenResidue) : Type 0 where
  pub wrote : (x : Evaluated) → number ≡ coded x → Wrote old new at (known x) a

-- What was written last, from the place `at` on, is negated there.
pub record NegatesLast (mid new : Nodes) (at : ℕ) (inner a : WrittenResidue) : Type 0 where
  pub wrote : (old : Nodes) (r : Residue) → bounded (coded (known_value r)) ≡ known_value r → Wrote old mid at r inner → Wrote old new at (negated_residue r) a

-- A residue negated so many times.
unfoldable pub negated_times : ℕ → Residue → Residue
negated_times zero r = r
negated_times (suc n) r = negated_residue (negated_times n r)

-- From the part that ends at d up to the part that ends at e there are only `not`s, whatever else is stored.
pub record PassesNegations (kinds : List ℕ) (e d : ℕ) : Type 0 where
  pub ends_within : d ≤ e
  pub same : (N : Nodes) (U : View) (letters p : ℕ) → N.kinds ≡ kinds → negated_times (e - d) (residue_before N U letters d p) ≡ residue_before N U letters e p

-- An operator of this kind is applied to what was written last, its operands one behind the other from the place `at` on.
pub record OperatesLast (mid new : Nodes) (kind at : ℕ) (left right a : WrittenResidue) : Type 0 where
  pub wrote : (old between : Nodes) (r s : Residue) → Wrote old between at r left → Wrote between mid left.end s right → Wrote old new at (operated_residue kind r s) a

-- What the recursion keeps: the part's nodes are in the arrays, `at` is a place of the other arrays or says that there is no room, and `letters` is
-- how many letters the window has.
pub record IsAsked (U : View) (letters end at : ℕ) : Type 0 where
  pub end_within : end ≤ 1024
  pub at_within : at ≤ 1025
  pub letters_places : letters ≡ places U

-- Where a `first`, a `next` or a `fby` leads: to a value that is known, or to a part that ends earlier, at a place, with the same residue, whatever
-- the letters are.
pub record MovesToKnown (N : Nodes) (streams : ℕ) (firsts : List ℤ) (whole : Bool) (letters e p : ℕ) (value : ℤ) : Type 0 where
  pub number : value ≡ coded (bounded value)
  pub known : (window : List ℤ) → residue_before N (view window streams firsts whole) letters e p ≡ known (bounded value)

pub record MovesToPart (N : Nodes) (streams : ℕ) (firsts : List ℤ) (whole : Bool) (letters e p end place : ℕ) : Type 0 where
  pub same : (window : List ℤ)
      → residue_before N (view window streams firsts whole) letters end place ≡ residue_before N (view window streams firsts whole) letters e p
  pub earlier : end < e

abbrev pub MovesTo : (N : Nodes) (streams : ℕ) (firsts : List ℤ) (whole : Bool) (letters e p : ℕ) → Moved → Type 0
MovesTo N streams firsts whole letters e p (Known value) = MovesToKnown N streams firsts whole letters e p value
MovesTo N streams firsts whole letters e p (To end place) = MovesToPart N streams firsts whole letters e p end place
