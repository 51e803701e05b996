-- Tables without rows are refused by 10, whatever the sheet, since the empty record is a situation.
use Prim.Native.Nat.{ℕ}
use native.Mathlib.Omega.{arith}
use mathlib.Core.Path.{◌≡◌, sym, subst}
use mathlib.Core.List.Memᴰ
use mathlib.Core.List.{List, [], ◌∷◌}
use Rattle.meaning.specs.Expression.{Sheet}
use Rattle.meaning.specs.Letter.{letter_count}
use Rattle.meaning.specs.Situation.{situation, IsSituation, MoreSituations}
use Rattle.meaning.proofs.Exploration.{start-situation}
use Rattle.sheet.specs.Refusal.{sheet, AnswerTo}
use Rattle.outcome.specs.Compile.{CompileAnswer, refused_answer, Room, room_rows, Tables, all_zero, too_few_rows, CompileOutcome, read}
use Rattle.outcome.proofs.CompileUnique.{compile_unique}

pub some-situation : (s : Sheet) → MoreSituations s 0
some-situation s =
    record {
      list = situation s.constraints [] ∷ [];
      distinct = (Memᴰ.not-nil, tt);
      found = λ t m. subst (IsSituation s) (sym (Memᴰ.eq_of_singleton m)) (start-situation s);
      longer = omega arith;
    }

module _ (text : List ℕ) (room : Room) {s : Sheet} (r : AnswerTo text (sheet s)) (none : room_rows room (letter_count s.streams) ≡ 0) where
  pub no_rows-refused : {a : CompileAnswer} {t : Tables} → CompileOutcome text room a t → (a ≡ refused_answer 10) × (t ≡ all_zero room)
  no_rows-refused o =
      compile_unique text room o
      (read r (too_few_rows (omega (arith, none)) (subst (MoreSituations s) (sym none) (some-situation s))))
