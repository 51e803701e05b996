-- One more letter, read from a situation alone: the value of an expression from a window of letters and stored first values, and the
-- situation that follows (document 01, "Letters, situations, table"). These functions can be run; proofs/Window and proofs/Congruence
-- show that they agree with `value`, `lawful` and `situation`.
use Rattle.std.specs.Prelude.{ℕ, zero, suc, ◌+◌, Bool, true, false, cond, ◌&&◌, ◌||◌, List, [], ◌∷◌, ◌++◌, pos, length, get_or, drop}
use Rattle.std.proofs.Math.Option.{Option, none, some}
use Rattle.meaning.specs.Value.{Value, absent, number, truth, Streams}
use Rattle.meaning.specs.Arithmetic.{apply}
use Rattle.meaning.specs.Expression.{Expression, integer, name, first, next, negation, binary, conditional, fby, Constraint, always, until, holds, negated, chosen}
use Rattle.meaning.specs.Letter.{Letter, streams_of}
use Rattle.meaning.specs.Window.{firsts, B}
use Rattle.meaning.specs.Situation.{all, Situation, whole, cut, lawful, until_marks, situation}

-- The value of an expression at the place i of a window of letters. Its firsts are numbered from n on, as the words `first` stand in the
-- text; their values are `stored`, and what they stand before is not read. The left of `fby` is not read: from the place `back` on no value
-- needs it.
unfoldable pub window_value : Streams → List Value → ℕ → Expression → ℕ → Value
window_value w stored n (integer z) i = number z
window_value w stored n (name k) i = number (w k i)
window_value w stored n (first e) i = get_or stored n absent
window_value w stored n (next e) i = window_value w stored n e (suc i)
window_value w stored n (negation e) i = negated (window_value w stored n e i)
window_value w stored n (binary o a b) i = apply o (window_value w stored n a i) (window_value w stored (n + length (firsts a)) b i)
window_value w stored n (conditional c a b) i =
    chosen (window_value w stored n c i)
    (window_value w stored (n + length (firsts c)) a i)
    (window_value w stored (n + length (firsts c) + length (firsts a)) b i)
window_value w stored n (fby a b) zero = number (pos 0)
window_value w stored n (fby a b) (suc i) = window_value w stored (n + length (firsts a)) b i

-- Constraints judged at the place i of a window. Their firsts are numbered from n on and their untils from u on; `marks` says which untils
-- were done before.
module _ (w : Streams) (stored : List Value) (marks : List Bool) (i : ℕ) where
  -- No comparison or implication fails, and no until meets 0 on both sides before it is done.
  unfoldable pub window_permits : ℕ → ℕ → List Constraint → Bool
  window_permits n u [] = true
  window_permits n u (always s a b ∷ cs) =
      holds s (window_value w stored n a i) (window_value w stored (n + length (firsts a)) b i)
      && window_permits (n + length (firsts a) + length (firsts b)) u cs
  window_permits n u (until a b ∷ cs) =
      (truth (window_value w stored n a i) || (get_or marks u false || truth (window_value w stored (n + length (firsts a)) b i)))
      && window_permits (n + length (firsts a) + length (firsts b)) (suc u) cs

  -- Which untils are done now.
  unfoldable pub window_marks : ℕ → ℕ → List Constraint → List Bool
  window_marks n u [] = []
  window_marks n u (always s a b ∷ cs) = window_marks (n + length (firsts a) + length (firsts b)) u cs
  window_marks n u (until a b ∷ cs) =
      (get_or marks u false || truth (window_value w stored (n + length (firsts a)) b i))
      ∷ window_marks (n + length (firsts a) + length (firsts b)) (suc u) cs

module _ (cs : List Constraint) where
  -- Whether a lawful record with this situation stays lawful with one more letter. After a cut the window is the last D+B letters and the
  -- new one, and the time newly judged has the place B in it.
  unfoldable pub allows_letter : Situation → Letter → Bool
  allows_letter (whole r) l = lawful cs (r ++ (l ∷ []))
  allows_letter (cut r stored marks) l = window_permits (streams_of (r ++ (l ∷ []))) stored marks (B cs) 0 0 cs

  -- The situation with one more letter. A window loses its oldest letter, and the values of the firsts stay.
  unfoldable pub situation_after : Situation → Letter → Situation
  situation_after (whole r) l = situation cs (r ++ (l ∷ []))
  situation_after (cut r stored marks) l = cut (drop 1 (r ++ (l ∷ []))) stored (window_marks (streams_of (r ++ (l ∷ []))) stored marks (B cs) 0 0 cs)

  -- The situation of a lawful record with one more letter; none if the longer record is unlawful.
  unfoldable pub successor : Situation → Letter → Option Situation
  successor t l = cond (allows_letter t l) (some (situation_after t l)) none

  -- Which untils are done, and whether all are.
  unfoldable pub marks_of : Situation → List Bool
  marks_of (whole r) = until_marks cs r
  marks_of (cut r stored marks) = marks

  unfoldable pub all_done : Situation → Bool
  all_done t = all (λ b. b) (marks_of t)
