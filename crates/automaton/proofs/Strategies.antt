-- Laws of strategies: a controller and an environment make one word, so never can both players have their way; and what a record leaves over is all that
-- matters for either. From the definitions of strategies.
use mathlib.Core.Path.{◌≡◌, refl, ◌∙◌, ap}
use mathlib.Core.List.{List, [], ◌∷◌, ◌++◌}
use Prim.Native.Nat.{ℕ, zero, suc, ◌<◌}
use native.Mathlib.Omega.{arith}
use Rattle.automaton.specs.Words.{Word, prefix, InRange}
use Rattle.automaton.specs.Solutions.{Continuation, SameContinuations}
use Rattle.automaton.specs.Strategies.{Controller, Environment, PlayedBy, ChosenBy, Forces, Prevents}
use Rattle.automaton.proofs.Words.{prefix_extend}

module _ {k choices : ℕ} {choice : ℕ → ℕ} where
  -- ---- the word that both make

  module _ (K : Controller k choices choice) (E : Environment k choices choice) where
    -- the record that they make in t letters
    made : ℕ → List ℕ
    made zero = []
    made (suc t) = made t ++ (K.answer (made t) (E.choose (made t)) ∷ [])

    pub made_word : Word
    made_word t = K.answer (made t) (E.choose (made t))

    made-prefix : (t : ℕ) → prefix made_word t ≡ made t
    unfolding made made_word
    made-prefix zero = refl
    made-prefix (suc t) = prefix_extend t made_word ∙ ap (λ r. r ++ (made_word t ∷ [])) (made-prefix t)

    made-choice : (t : ℕ) → choice (made_word t) ≡ E.choose (made t)
    unfolding made_word
    made-choice t = K.has_choice (made t) (E.choose (made t)) (E.is_choice (made t))

    pub made-in_range : InRange k made_word
    unfolding made_word
    made-in_range t = K.is_letter (made t) (E.choose (made t)) (E.is_choice (made t))

    pub made-played : PlayedBy k choices choice K made_word
    unfolding made_word
    made-played t = rw (made-prefix t, made-choice t)

    pub made-chosen : ChosenBy k choices choice E made_word
    made-chosen t = rw (made-prefix t) (made-choice t)

  -- ---- never both

  pub not-both : {Sol : Word → Type 0} {r : List ℕ} → Forces k choices choice Sol r → ¬ Prevents k choices choice Sol r
  not-both f p =
      let w = made_word f.controller p.environment in
      let b = made-in_range f.controller p.environment in
      p.defeats w b (made-chosen f.controller p.environment) (f.solves w b (made-played f.controller p.environment))

  -- ---- records with the same continuations

  module _ {Sol : Word → Type 0} {r s : List ℕ} (same : SameContinuations Sol k r s) where
    pub forces-same : Forces k choices choice Sol r → Forces k choices choice Sol s
    forces-same f = record { controller = f.controller; solves = λ w b p. same.to w b (f.solves w b p) }

    pub prevents-same : Prevents k choices choice Sol r → Prevents k choices choice Sol s
    prevents-same p = record { environment = p.environment; defeats = λ w b c x. p.defeats w b c (same.from w b x) }

  -- ---- one choice: the river has nothing to choose, so it cannot prevent what is possible

  pub one-choice_open : {Sol : Word → Type 0} {r : List ℕ} → choices ≡ 1 → ((a : ℕ) → a < k → choice a < choices) → (w : Word) → InRange k w → Continuation Sol r w → ¬ Prevents k choices choice Sol r
  one-choice_open one is_choice w b x p = p.defeats w b (λ t. omega (arith, one, is_choice (w t) (b t), p.environment.is_choice (prefix w t))) x
