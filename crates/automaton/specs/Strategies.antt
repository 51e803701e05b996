-- Two players make an endless word (document 02, S-7): "At every time the river gives all read values, any in range, and then the keeper gives the set
-- values, knowing all so far." The field calls the river the environment and the keeper the controller. There are k letters, numbered from 0, and so many
-- choices of the environment, numbered from 0; the letter a has the choice `choice a`. A strategy is a function of the record so far.
use Rattle.std.specs.Prelude.{◌≡◌, List, ℕ, ◌<◌}
use Rattle.automaton.specs.Words.{Word, prefix, InRange}
use Rattle.automaton.specs.Solutions.{Continuation}

module _ (k choices : ℕ) (choice : ℕ → ℕ) where
  -- each letter has one of the choices, and each choice is that of some letter
  pub record AreChoices : Type 0 where
    pub some_choice : 0 < choices
    pub is_choice : (a : ℕ) → a < k → choice a < choices
    pub letter : ℕ → ℕ
    pub is_letter : (c : ℕ) → c < choices → letter c < k
    pub has_choice : (c : ℕ) → c < choices → choice (letter c) ≡ c

  -- "and then the keeper gives the set values, knowing all so far": after the record r and the choice c, a letter with that choice
  pub record Controller : Type 0 where
    pub answer : List ℕ → ℕ → ℕ
    pub is_letter : (r : List ℕ) (c : ℕ) → c < choices → answer r c < k
    pub has_choice : (r : List ℕ) (c : ℕ) → c < choices → choice (answer r c) ≡ c

  -- "a way for the river to choose, from the record so far"
  pub record Environment : Type 0 where
    pub choose : List ℕ → ℕ
    pub is_choice : (r : List ℕ) → choose r < choices

  -- at every time the letter of w is the controller's answer to its choice
  abbrev pub PlayedBy : Controller → Word → Type 0
  PlayedBy K w = (t : ℕ) → w t ≡ K.answer (prefix w t) (choice (w t))

  -- at every time the letter of w has the choice of the environment
  abbrev pub ChosenBy : Environment → Word → Type 0
  ChosenBy E w = (t : ℕ) → choice (w t) ≡ E.choose (prefix w t)

  -- After the record r "the keeper can make every endless play a solution".
  pub record Forces (Sol : Word → Type 0) (r : List ℕ) : Type 0 where
    pub controller : Controller
    pub solves : (w : Word) → InRange k w → PlayedBy controller w → Continuation Sol r w

  -- After the record r the river has "a way [..] to choose, from the record so far, that defeats every play of the keeper".
  pub record Prevents (Sol : Word → Type 0) (r : List ℕ) : Type 0 where
    pub environment : Environment
    pub defeats : (w : Word) → InRange k w → ChosenBy environment w → ¬ Continuation Sol r w
