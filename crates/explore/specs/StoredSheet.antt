-- The stored form of a sheet: the nodes and constraints of its lines, the places of its firsts, and the values of its letters. "First" is
-- document 01's term.
use Rattle.std.specs.Prelude.{ℕ, ◌+◌, ◌<◌, ◌≡◌, List, ◌++◌, map, ℤ, length}
use Rattle.meaning.specs.Expression.{Sheet}
use Rattle.meaning.specs.Letter.{letter_count, letter_of}
use Rattle.meaning.specs.Window.{B, D}
use Rattle.nodes.specs.Postfix.{Node, StoredConstraint, all_nodes, stored_constraints}
use Rattle.nodes.specs.FirstPlaces.{all_first_places}
use Rattle.nodes.specs.Evaluate.{nodes_of}
use Rattle.prepare.specs.Prepared.{letter_at}
use Rattle.extend.specs.Step.{Store}

-- The stored sheet with these nodes behind its own and these values of its letters. No side of a constraint reads what stands behind its nodes.
abbrev pub store_for : Sheet → List Node → List ℤ → Store
store_for s behind values =
    record {
      nodes = nodes_of (all_nodes 0 0 s.constraints ++ behind);
      relations = map (λ (t : StoredConstraint). t.relation) (stored_constraints 0 0 s.constraints);
      lefts = map (λ (t : StoredConstraint). t.left) (stored_constraints 0 0 s.constraints);
      rights = map (λ (t : StoredConstraint). t.right) (stored_constraints 0 0 s.constraints);
      first_nodes = all_first_places 0 s.constraints;
      letter_values = values;
      streams = length s.streams;
      ahead = D s.constraints;
      width = D s.constraints + B s.constraints;
    }

-- The values are those of the sheet's letters, letter after letter.
pub record HasLetters (s : Sheet) (values : List ℤ) : Type 0 where
  pub letter : (a : ℕ) → a < letter_count s.streams → letter_at (length s.streams) values a ≡ letter_of s.streams a

pub record IsStored (s : Sheet) (K : Store) : Type 0 where
  pub behind : List Node
  pub same : K ≡ store_for s behind K.letter_values
  pub letters : HasLetters s K.letter_values
