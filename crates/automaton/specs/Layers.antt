-- Layers of rows, as a queue from the state given leaves them, and what is stored for each row and letter to find the best course
-- by them. Everything here is local: it speaks of a row and its entries. `Rattle.automaton.proofs.Layers` and
-- `Rattle.automaton.proofs.Costs` say what follows for courses.
use Rattle.std.specs.Prelude.{◌≡◌, ◌⊎◌, ◌≢◌, List, [], ◌∷◌, ℕ, suc, ◌+◌, ◌<◌, ◌≤◌}
use Rattle.automaton.specs.Course.{HasEntry}

-- layers

-- the row i was met from a row one layer before
pub record MetFrom (k : ℕ) (entry : ℕ → ℕ → ℕ) (Met : ℕ → Type 0) (layer : ℕ → ℕ) (i : ℕ) : Type 0 where
  pub row : ℕ
  pub letter : ℕ
  pub met : Met row
  pub has_entry : HasEntry k entry row letter
  pub leads : entry row letter ≡ i
  pub next_layer : layer i ≡ suc (layer row)

-- What a queue from the row s leaves: the rows met, each with its layer. The start is in layer 0, an entry leads at most one
-- layer on, and each other row was met from a row one layer before.
pub record IsLayers (k : ℕ) (entry : ℕ → ℕ → ℕ) (s : ℕ) (Met : ℕ → Type 0) (layer : ℕ → ℕ) : Type 0 where
  pub start_met : Met s
  pub start_layer : layer s ≡ 0
  pub along_met : (i a : ℕ) → Met i → HasEntry k entry i a → Met (entry i a)
  pub along_layer : (i a : ℕ) → Met i → HasEntry k entry i a → layer (entry i a) ≤ suc (layer i)
  pub met_from : (i : ℕ) → Met i → i ≢ s → MetFrom k entry Met layer i

-- each letter of the record leads one layer on
abbrev pub Rising : (entry : ℕ → ℕ → ℕ) (layer : ℕ → ℕ) (s : ℕ) → List ℕ → Type 0
Rising entry layer s [] = Unit {0}
Rising entry layer s (a ∷ r) = (layer (entry s a) ≡ suc (layer s)) × Rising entry layer (entry s a) r

-- the least layer of a final row that is met
pub record IsGoal (final : ℕ → ℕ) (Met : ℕ → Type 0) (layer : ℕ → ℕ) (goal : ℕ) : Type 0 where
  pub row : ℕ
  pub met : Met row
  pub is_final : final row ≡ 1
  pub in_goal : layer row ≡ goal
  pub least : (i : ℕ) → Met i → final i ≡ 1 → goal ≤ layer i

-- costs

-- the letter a leads from the row i to the next layer
pub record Onward (k : ℕ) (entry : ℕ → ℕ → ℕ) (layer : ℕ → ℕ) (i a : ℕ) : Type 0 where
  pub has_entry : HasEntry k entry i a
  pub next_layer : layer (entry i a) ≡ suc (layer i)

-- What is stored for the row i after the letter p: `without` if no course of the letters still needed goes on from i, and
-- otherwise the least that one costs, the letter after p included.
pub data IsCost (changes : ℕ → ℕ → ℕ) (k : ℕ) (entry : ℕ → ℕ → ℕ) (final layer : ℕ → ℕ) (goal without : ℕ) (cost : ℕ → ℕ → ℕ) (i p : ℕ)
    : Type 0 where
  goal_final : layer i ≡ goal → final i ≡ 1 → cost i p ≡ 0 → IsCost changes k entry final layer goal without cost i p
  goal_other : layer i ≡ goal → final i ≢ 1 → cost i p ≡ without → IsCost changes k entry final layer goal without cost i p
  before_some : layer i < goal → (a : ℕ) → Onward k entry layer i a → cost (entry i a) a ≢ without
      → cost i p ≡ changes p a + cost (entry i a) a
      → ((b : ℕ) → Onward k entry layer i b → cost (entry i b) b ≢ without → cost i p ≤ changes p b + cost (entry i b) b)
      → cost i p < without → IsCost changes k entry final layer goal without cost i p
  before_none : layer i < goal → ((b : ℕ) → Onward k entry layer i b → cost (entry i b) b ≡ without) → cost i p ≡ without
      → IsCost changes k entry final layer goal without cost i p

-- the costs of all rows met up to the goal layer
pub record IsCosts (changes : ℕ → ℕ → ℕ) (k : ℕ) (entry : ℕ → ℕ → ℕ) (final : ℕ → ℕ) (Met : ℕ → Type 0) (layer : ℕ → ℕ) (goal without : ℕ)
    (cost : ℕ → ℕ → ℕ) : Type 0 where
  pub some_cost : 0 < without
  pub costs : (i p : ℕ) → Met i → layer i ≤ goal → p < k → IsCost changes k entry final layer goal without cost i p

-- At the row i, where the next letter b costs `first b`, a is the first letter of those that are cheapest with what follows.
pub record IsFirstCheapest (k : ℕ) (entry : ℕ → ℕ → ℕ) (layer : ℕ → ℕ) (without : ℕ) (cost : ℕ → ℕ → ℕ) (first : ℕ → ℕ) (i a : ℕ) : Type 0 where
  pub onward : Onward k entry layer i a
  pub goes_on : cost (entry i a) a ≢ without
  pub least : (b : ℕ) → Onward k entry layer i b → cost (entry i b) b ≢ without
      → (first a + cost (entry i a) a < first b + cost (entry i b) b) ⊎ ((first a + cost (entry i a) a ≡ first b + cost (entry i b) b) × (a ≤ b))

-- the record that the way forward gives, from the row i to a final row of the goal layer
pub data Chosen (changes : ℕ → ℕ → ℕ) (k : ℕ) (entry : ℕ → ℕ → ℕ) (final layer : ℕ → ℕ) (goal without : ℕ) (cost : ℕ → ℕ → ℕ)
    : (first : ℕ → ℕ) (i : ℕ) → List ℕ → Type 0 where
  chosen_end : {first : ℕ → ℕ} {i : ℕ} → layer i ≡ goal → final i ≡ 1 → Chosen changes k entry final layer goal without cost first i []
  chosen_letter : {first : ℕ → ℕ} {i a : ℕ} {r : List ℕ} → IsFirstCheapest k entry layer without cost first i a
      → Chosen changes k entry final layer goal without cost (changes a) (entry i a) r
      → Chosen changes k entry final layer goal without cost first i (a ∷ r)
