-- The answers of a row, letter by letter from the last to the first. From the definitions of answers.
use Prim.Native.Nat.{ℕ, ◌-◌, ◌<◌, ◌≤◌}
use mathlib.Core.Path.{◌≡◌, sym, subst}
use mathlib.Core.List.{List}
use native.Mathlib.Omega.{arith}
use native.Mathlib.Decide.{ℕ_discrete}
use lib.ListN.{length, get_or, set, replicate, length-set, length-replicate, get_or-replicate}
use lib.Seq.{get_or-set_same, get_or-set_other}
use Rattle.automaton.specs.Table.{no_state}
use Rattle.winning_rows.specs.Answers.{LetterAnswers, FirstAnswer, found, lacking, AreAnswers}

module _ {row choice ranks : List ℕ} {highest : ℕ} where
  -- before any letter is looked at
  pub answers-none : (m : ℕ) {answers : List ℕ} → answers ≡ replicate m no_state → AreAnswers row choice ranks highest (length row) answers
  answers-none m e = rw e (record { at = λ c h. subst (FirstAnswer row choice ranks highest (length row) c) (sym (get_or-replicate m c no_state 0 (omega (arith, length-replicate {A = ℕ} m no_state)))) (lacking λ a g x. omega (arith, x.is_letter)) })

  -- a letter that answers no choice, or another one
  first_skip : {m c v : ℕ} → ¬ LetterAnswers row choice ranks highest c (m - 1) → FirstAnswer row choice ranks highest m c v → FirstAnswer row choice ranks highest (m - 1) c v
  first_skip {m} {c} n (found {v} h x f) = found {v = v} (omega arith) x λ a l g. by a l g (ℕ_discrete a (m - 1))
    where
      by : (a : ℕ) → m - 1 ≤ a → a < v → Dec (a ≡ m - 1) → ¬ LetterAnswers row choice ranks highest c a
      by a l g (yes e) y = n (subst (LetterAnswers row choice ranks highest c) e y)
      by a l g (no e) y = f a (omega arith) g y
  first_skip {m} {c} n (lacking f) = lacking λ a l. by a l (ℕ_discrete a (m - 1))
    where
      by : (a : ℕ) → m - 1 ≤ a → Dec (a ≡ m - 1) → ¬ LetterAnswers row choice ranks highest c a
      by a l (yes e) y = n (subst (LetterAnswers row choice ranks highest c) e y)
      by a l (no e) y = f a (omega arith) y

  pub answers_skip : {m : ℕ} {answers : List ℕ} → ((c : ℕ) → ¬ LetterAnswers row choice ranks highest c (m - 1)) → AreAnswers row choice ranks highest m answers → AreAnswers row choice ranks highest (m - 1) answers
  answers_skip n A = record { at = λ c h. first_skip (n c) (A.at c h) }

  -- a letter that answers its choice
  pub answers-store : {m : ℕ} {answers : List ℕ} → get_or choice (m - 1) 0 < length answers → LetterAnswers row choice ranks highest (get_or choice (m - 1) 0) (m - 1) → AreAnswers row choice ranks highest m answers
      → AreAnswers row choice ranks highest (m - 1) (set answers (get_or choice (m - 1) 0) (m - 1))
  answers-store {m} {answers} inside x A = record { at = λ c h. by c (subst (λ n. c < n) (length-set answers k (m - 1)) h) (ℕ_discrete c k) }
    where
      k : ℕ
      k = get_or choice (m - 1) 0

      by : (c : ℕ) → c < length answers → Dec (c ≡ k) → FirstAnswer row choice ranks highest (m - 1) c (get_or (set answers k (m - 1)) c 0)
      by c h (yes e) = rw (e, get_or-set_same answers k (m - 1) 0 inside) (found {v = m - 1} (omega arith) x λ a l g. absurd (omega arith))
      by c h (no e) = rw (get_or-set_other answers k c (m - 1) 0 e) (first_skip (λ y. e (sym y.has_choice)) (A.at c h))

  -- after all letters
  pub answers-all : {m : ℕ} {answers : List ℕ} → m ≡ 0 → AreAnswers row choice ranks highest m answers → AreAnswers row choice ranks highest 0 answers
  answers-all {answers = answers} e A = subst (λ m. AreAnswers row choice ranks highest m answers) e A
