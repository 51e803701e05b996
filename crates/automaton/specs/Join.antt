-- Two tables on one river (document 02, S-9): the words whose cuts lie in two sets, the records that two tables follow together, and the pairs of
-- states that these lead to. Nothing here knows about sheets, so it holds "for whichever release made them" (S-11).
use Rattle.std.specs.Prelude.{◌≡◌, List, [], ◌∷◌, ◌++◌, map, ℕ, ◌<◌}
use Rattle.automaton.specs.Words.{Word, AllBelow}
use Rattle.automaton.specs.Solutions.{ByPrefixes}
use Rattle.automaton.specs.Table.{walk, IsPath}
use Rattle.automaton.specs.ReachedRows.{IsThing}

-- The entries and final bytes of two tables, and how many joined letters there are; the letter a has the letter `left a` of the one table and the
-- letter `right a` of the other.
pub record TwoTables : Type 0 where
  pub letters : ℕ
  pub left : ℕ → ℕ
  pub right : ℕ → ℕ
  pub left_entry : ℕ → ℕ → ℕ
  pub right_entry : ℕ → ℕ → ℕ
  pub left_final : ℕ → ℕ
  pub right_final : ℕ → ℕ

-- "The joined solutions are those whose cuts to either sheet's streams solve that sheet."
pub record Joined (left right : ℕ → ℕ) (LeftSol RightSol : Word → Type 0) (w : Word) : Type 0 where
  pub solves_left : LeftSol (λ t. left (w t))
  pub solves_right : RightSol (λ t. right (w t))

module _ (T : TwoTables) where
  -- both tables can be followed along the record's cuts
  pub record BothFollow (r : List ℕ) : Type 0 where
    pub left_path : IsPath T.left_entry (map T.left r)
    pub right_path : IsPath T.right_entry (map T.right r)

  -- the states that the cuts lead to
  abbrev pub left_state : List ℕ → ℕ
  left_state r = walk T.left_entry 0 (map T.left r)

  abbrev pub right_state : List ℕ → ℕ
  right_state r = walk T.right_entry 0 (map T.right r)

  abbrev pub pair_of : List ℕ → ℕ × ℕ
  pair_of r = (left_state r, right_state r)

  -- both are final
  pub record BothFinal (r : List ℕ) : Type 0 where
    pub left_final : T.left_final (left_state r) ≡ 1
    pub right_final : T.right_final (right_state r) ≡ 1

  -- two records lead to one pair of states
  pub record SamePair (r s : List ℕ) : Type 0 where
    pub same_left : left_state r ≡ left_state s
    pub same_right : right_state r ≡ right_state s

  -- "reachable pairs of states": those that some joined record leads to
  abbrev pub IsPair : ℕ × ℕ → Type 0
  IsPair = IsThing T.letters BothFollow pair_of

  -- The words along which both tables can be followed for ever, and at some time both are in a final state. For tables as compiled these are the joined
  -- solutions (`Rattle.automaton.proofs.Join.joined_prefixes`).
  abbrev pub Together : Word → Type 0
  Together = ByPrefixes BothFollow BothFinal

  -- A pair with both states final leads to such pairs only. It does for tables as compiled (`Rattle.automaton.proofs.Join.compiled-stay`).
  pub record FinalsStay : Type 0 where
    pub stay : (r : List ℕ) (a : ℕ) → AllBelow T.letters r → a < T.letters → BothFollow (r ++ (a ∷ [])) → BothFinal r → BothFinal (r ++ (a ∷ []))
