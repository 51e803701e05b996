-- How a play table is found (document 02, S-7). Each state has a number, its rank, and is ranked if that is not 0. First all states have the rank 1, and each
-- loses it from which the environment can bring the play to a missing entry, until every ranked state has, for each choice, a letter into a ranked state:
-- these states are safe. Then the safe states that are final keep the rank 1, and each further state from which the controller can go on to ranked states
-- gets the next number, from 2 on. A play that goes from each state to a lower rank reaches a final state. Everything here is local: it speaks of a state
-- and its entries. `Rattle.automaton.proofs.Forced` says what follows for strategies.
use Rattle.std.specs.Prelude.{◌≡◌, ◌⊎◌, ◌≢◌, Bool, true, false, List, [], ◌∷◌, ℕ, zero, suc, ◌+◌, ◌<◌, ◌≤◌, length, get_or, set, replicate}
use Rattle.automaton.specs.Table.{no_state}
use Rattle.automaton.specs.PlayTable.{Game}

-- ---- ranks

abbrev pub rank_of : List ℕ → ℕ → ℕ
rank_of ranks s = get_or ranks s 0

-- an entry that is no state's number names no state, so it is never ranked
abbrev pub Ranked : List ℕ → ℕ → Type 0
Ranked ranks s = rank_of ranks s ≢ 0

-- a letter with the choice c whose entry at the state s has P
pub record HasAnswer (G : Game) (P : ℕ → Type 0) (s c : ℕ) : Type 0 where
  pub letter : ℕ
  pub is_letter : letter < G.letters
  pub has_choice : G.choice letter ≡ c
  pub leads : P (G.entry s letter)

-- every choice has an answer into a ranked state
pub record Answered (G : Game) (ranks : List ℕ) (s : ℕ) : Type 0 where
  pub answer : (c : ℕ) → c < G.choices → HasAnswer G (Ranked ranks) s c

-- some choice has no answer into a ranked state
pub record Unanswered (G : Game) (ranks : List ℕ) (s : ℕ) : Type 0 where
  pub at : ℕ
  pub is_choice : at < G.choices
  pub none : (a : ℕ) → a < G.letters → G.choice a ≡ at → ¬ Ranked ranks (G.entry s a)

-- ---- turning states one after the other, in any order: to be ranked, or to lose their rank

-- the state s is to be turned
abbrev pub Turnable : Game → Bool → List ℕ → ℕ → Type 0
Turnable G true ranks s = (¬ Ranked ranks s) × Answered G ranks s
Turnable G false ranks s = Ranked ranks s × Unanswered G ranks s

-- nothing is to be turned at the state s
abbrev pub NoneToTurn : Game → Bool → List ℕ → ℕ → Type 0
NoneToTurn G true ranks s = Ranked ranks s ⊎ Unanswered G ranks s
NoneToTurn G false ranks s = (¬ Ranked ranks s) ⊎ Answered G ranks s

-- the rank that a state gets if it is the next to be turned: the next number, or 0
abbrev pub turned_to : Bool → ℕ → ℕ
turned_to true next = next
turned_to false next = 0

-- States turned one after the other, from the ranks `old` to the ranks `new`. The next number goes from `first` to `next`.
pub data RankTurns (G : Game) (to : Bool) (old : List ℕ) (first : ℕ) : (new : List ℕ) (next : ℕ) → Type 0 where
  none : RankTurns G to old first old first
  turn : {ranks : List ℕ} {next s : ℕ} → RankTurns G to old first ranks next → s < length ranks → Turnable G to ranks s
      → RankTurns G to old first (set ranks s (turned_to to next)) (suc next)

-- states turned until nothing is left to be turned
pub record AllTurned (G : Game) (to : Bool) (old : List ℕ) (first : ℕ) (new : List ℕ) : Type 0 where
  pub next : ℕ
  pub turns : RankTurns G to old first new next
  pub settled : (s : ℕ) → s < length new → NoneToTurn G to new s

-- 1 if a state with this rank can still be turned
abbrev pub is_left : Bool → ℕ → ℕ
is_left true zero = 1
is_left true (suc r) = 0
is_left false zero = 0
is_left false (suc r) = 1

-- how many can still be turned
abbrev pub states_left : Bool → List ℕ → ℕ
states_left to [] = 0
states_left to (r ∷ ranks) = is_left to r + states_left to ranks

-- ---- the ranking

-- the environment can bring the play from the state s to an entry that is no state
pub data Lost (G : Game) : ℕ → Type 0 where
  lost : {s : ℕ} (c : ℕ) → c < G.choices → ((a : ℕ) → a < G.letters → G.choice a ≡ c → G.entry s a < G.states → Lost G (G.entry s a)) → Lost G s

-- the ranks of the states that are final, and 0 for each other state
pub record KeepsFinal (G : Game) (old new : List ℕ) : Type 0 where
  pub same : length new ≡ length old
  pub kept : (s : ℕ) → G.final s ≡ 1 → rank_of new s ≡ rank_of old s
  pub cleared : (s : ℕ) → G.final s ≢ 1 → rank_of new s ≡ 0

-- the passes, with the ranks between them
pub record RankingPasses (G : Game) (safe seeds ranks : List ℕ) : Type 0 where
  pub pruned : AllTurned G false (replicate G.states 1) 2 safe
  pub seeded : KeepsFinal G safe seeds
  pub grown : AllTurned G true seeds 2 ranks

-- what they leave
pub record IsRanking (G : Game) (safe ranks : List ℕ) : Type 0 where
  pub safe_states : length safe ≡ G.states
  pub safe_answered : (s : ℕ) → Ranked safe s → Answered G safe s
  pub unsafe_lost : (s : ℕ) → s < G.states → ¬ Ranked safe s → Lost G s
  pub ranked_states : length ranks ≡ G.states
  pub first_safe : (s : ℕ) → rank_of ranks s ≡ 1 → Ranked safe s
  pub first_final : (s : ℕ) → rank_of ranks s ≡ 1 → G.final s ≡ 1
  pub final_first : (s : ℕ) → Ranked safe s → G.final s ≡ 1 → rank_of ranks s ≡ 1
  pub lower : (s c : ℕ) → 1 < rank_of ranks s → c < G.choices → HasAnswer G (λ t. Ranked ranks t × (rank_of ranks t < rank_of ranks s)) s c
  pub bounded : (s : ℕ) → rank_of ranks s ≤ suc G.states
  pub unranked : (s : ℕ) → s < G.states → ¬ Ranked ranks s → Unanswered G ranks s

-- ---- the play table of a ranking

-- The highest rank to which the play may go from a state of this rank: below its own, and from the rank 1 of final states to that rank again. From a state
-- without a rank it goes nowhere.
abbrev pub highest_next : ℕ → ℕ
highest_next zero = zero
highest_next (suc zero) = suc zero
highest_next (suc (suc r)) = suc r

-- the letter a may be played at the state s to the choice c
pub record MayPlay (G : Game) (ranks : List ℕ) (s c a : ℕ) : Type 0 where
  pub is_letter : a < G.letters
  pub has_choice : G.choice a ≡ c
  pub ranked : Ranked ranks (G.entry s a)
  pub low : rank_of ranks (G.entry s a) ≤ highest_next (rank_of ranks s)

-- the first letter that may be played, or 65,535 for none
pub data IsPlayed (G : Game) (ranks : List ℕ) (s c : ℕ) : ℕ → Type 0 where
  played : {v : ℕ} → MayPlay G ranks s c v → ((a : ℕ) → a < v → ¬ MayPlay G ranks s c a) → IsPlayed G ranks s c v
  nothing : ((a : ℕ) → ¬ MayPlay G ranks s c a) → IsPlayed G ranks s c no_state

-- the play table of a ranking
abbrev pub PlaysRanking : (G : Game) (ranks : List ℕ) (play : ℕ → ℕ → ℕ) → Type 0
PlaysRanking G ranks play = (s c : ℕ) → s < G.states → c < G.choices → IsPlayed G ranks s c (play s c)
