-- Records of a lent table and how many they are, and what a call that counts them gives (document 02, S-13: "the number of records of n letters"). A count is
-- the length of a list without repeats (basics, Count). Record is document 01's own term.
use Rattle.std.specs.Prelude.{◌≡◌, Bool, true, false, List, [], ◌∷◌, ℕ, ◌≤◌, ◌<◌, T, ltb, eqb, length, get_or, replicate}
use Rattle.basics.specs.Answers.{Says}
use Rattle.basics.specs.Count.{CountOf, MoreThan}
use Rattle.automaton.specs.Words.{AllBelow}
use Rattle.automaton.specs.Table.{walk}
use Rattle.automaton.specs.Stored.{entry_at, final_at}
use Rattle.automaton.specs.WellFormed.{IsWellFormed}
use Rattle.figure_sums.specs.Sums.{highest_figure}

-- ---- records from a state

-- Every state on the way, and the last, are below n.
abbrev pub StaysBelow : (n : ℕ) (entry : ℕ → ℕ → ℕ) → ℕ → List ℕ → Type 0
StaysBelow n entry i [] = Unit {0}
StaysBelow n entry i (a ∷ r) = T (ltb (entry i a) n) × StaysBelow n entry (entry i a) r

-- A record of t letters that can be followed from a state of n to a state that passes a test.
pub record IsRecordFrom (k n : ℕ) (entry : ℕ → ℕ → ℕ) (passing : ℕ → Bool) (t i : ℕ) (r : List ℕ) : Type 0 where
  pub letters : AllBelow k r
  pub stays : StaysBelow n entry i r
  pub passes : T (passing (walk entry i r))
  pub long : length r ≡ t

abbrev pub any_state : ℕ → Bool
any_state i = true

abbrev pub has_final_byte : List ℕ → ℕ → Bool
has_final_byte finals i = eqb (final_at finals i) 1

-- A record of t letters that can be followed from the start of a lent table; and one that ends in a final state.
abbrev pub FollowedRecord : (k : ℕ) (entries finals : List ℕ) → ℕ → List ℕ → Type 0
FollowedRecord k entries finals t = IsRecordFrom k (length finals) (entry_at k entries) any_state t 0

abbrev pub FinalRecord : (k : ℕ) (entries finals : List ℕ) → ℕ → List ℕ → Type 0
FinalRecord k entries finals t = IsRecordFrom k (length finals) (entry_at k entries) (has_final_byte finals) t 0

-- ---- what a call gives

-- The table is well formed, both lists have room for the figures from 0 letters up to so many, and none of these is above the highest.
pub record HasFigures (k : ℕ) (entries finals : List ℕ) (most room final_room : ℕ) : Type 0 where
  pub well_formed : IsWellFormed k entries finals
  pub fits : most < room
  pub final_fits : most < final_room
  pub bounded : (t : ℕ) → t ≤ most → MoreThan (FollowedRecord k entries finals t) highest_figure → ⊥

-- A list holds the numbers of the records of 0 letters up to so many, and zeros behind them.
pub record HoldsFigures (Counted : ℕ → List ℕ → Type 0) (most : ℕ) (list : List ℕ) : Type 0 where
  pub held : (t : ℕ) → t ≤ most → CountOf (Counted t) (get_or list t 0)
  pub behind : (t : ℕ) → most < t → get_or list t 0 ≡ 0

-- What a call gives: whether there are figures, and the figures in both lists, or zeros.
pub record CountsRecords (k : ℕ) (entries finals : List ℕ) (most room final_room : ℕ) (r : Bool) (figures final_figures : List ℕ) : Type 0 where
  pub says : Says r (HasFigures k entries finals most room final_room)
  pub counted : r ≡ true → HoldsFigures (FollowedRecord k entries finals) most figures × HoldsFigures (FinalRecord k entries finals) most final_figures
  pub refused : r ≡ false → (figures ≡ replicate room 0) × (final_figures ≡ replicate final_room 0)
  pub same_room : (length figures ≡ room) × (length final_figures ≡ final_room)
