-- The answer to a text is one: the same refusal, or the same sheet, and never both.
use Prim.Native.Nat.{ℕ}
use native.Mathlib.Omega.{arith}
use mathlib.Core.Path.{◌≡◌}
use mathlib.Core.List.{List}
use Rattle.meaning.specs.Expression.{Sheet}
use Rattle.sheet.specs.Refusal.{refused, sheet, AnswerTo}
use Rattle.sheet.proofs.Reading.{answer_unique}

module _ {text : List ℕ} where
  pub one_number : {n m : ℕ} → AnswerTo text (refused n) → AnswerTo text (refused m) → n ≡ m
  one_number {n} {m} r r' = inside (answer_unique r r')
    where
      inside : refused n ≡ refused m → n ≡ m
      inside e = cc

  pub one-sheet : {s t : Sheet} → AnswerTo text (sheet s) → AnswerTo text (sheet t) → s ≡ t
  one-sheet {s} {t} r r' = inside (answer_unique r r')
    where
      inside : sheet s ≡ sheet t → s ≡ t
      inside e = cc

  pub refused≢sheet : {n : ℕ} {s : Sheet} → AnswerTo text (refused n) → AnswerTo text (sheet s) → ⊥
  refused≢sheet {n} {s} r r' = inside (answer_unique r r')
    where
      inside : refused n ≡ sheet s → ⊥
      inside e = let z : ◌≡◌ {A = ℕ} 0 1 = cc in omega arith
