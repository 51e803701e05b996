-- Of a list of refusals one number is given, and where the first of them do not apply it is given by the rest. An answer to a text and an outcome
-- of its sheet show which condition holds and which do not.
use Prim.Native.Nat.{ℕ, ◌<◌}
use native.Mathlib.Omega.{arith}
use mathlib.Core.Path.{◌≡◌, refl, sym, ◌∙◌, subst}
use mathlib.Core.Bool.{Bool, true, false, cond}
use mathlib.Core.List.{List, [], ◌∷◌, ◌++◌}
use lib.Dec.{T, eqb, eqb→eq}
use Rattle.basics.proofs.Count.{count_excludes_more}
use Rattle.automaton.proofs.Paths.{has_solution}
use Rattle.meaning.specs.Value.{Streams}
use Rattle.meaning.specs.Expression.{Sheet, Solution}
use Rattle.meaning.specs.Letter.{letter_count}
use Rattle.meaning.specs.Situation.{MoreSituations}
use Rattle.sheet.proofs.Accepted.{accepted_facts}
use Rattle.outcome.proofs.CompileTotal.{no_streams}
use Rattle.sheet.specs.Form.{HasForm}
use Rattle.sheet.specs.Refusal.{Answer, refused, sheet, AnswerTo, refused1, refused2, refused3, refused4, refused5, refused6, refused7, accepted, Refusal1, Refusal2, Refusal3}
use Rattle.sheet.proofs.Form.{form_unique}
use Rattle.outcome.specs.Compile.{CompileAnswer, situation_bound, Room, room_rows, Tables, HoldsSheetTable, SituationsFit, SheetOutcome, too_many_situations, too_few_rows, no_solution, compiled, CompileCall, unread, read}
use Rattle.theorems.specs.Refusals.{Refusal8, Refusal9, Refusal10, Refusal, in_order, NoneOf, IsGiven}

-- ---- any list of refusals

-- Of the same refusals one number is given.
pub given_unique : (rs : List Refusal) (n m : ℕ) → IsGiven rs n → IsGiven rs m → n ≡ m
given_unique [] n m e e' = e ∙ sym e'
given_unique (r ∷ rs) n m g g' = go (eqb n r.number) refl (eqb m r.number) refl (given_unique rs n m) g g'
  where
    go : (b : Bool) → eqb n r.number ≡ b → (b' : Bool) → eqb m r.number ≡ b' → (IsGiven rs n → IsGiven rs m → n ≡ m)
        → cond b r.condition ((r.condition → ⊥) × IsGiven rs n) → cond b' r.condition ((r.condition → ⊥) × IsGiven rs m) → n ≡ m
    go true e true e' later g g' = eqb→eq n r.number (subst T (sym e) tt) ∙ sym (eqb→eq m r.number (subst T (sym e') tt))
    go true e false e' later g g' = absurd (g'.0 g)
    go false e true e' later g g' = absurd (g.0 g')
    go false e false e' later g g' = later g.1 g'.1

-- Where the first refusals do not apply, one of the rest is given.
pub given-rest : (rs rest : List Refusal) (n : ℕ) → NoneOf rs → IsGiven (rs ++ rest) n → IsGiven rest n
given-rest [] rest n f g = g
given-rest (r ∷ rs) rest n f g = go (eqb n r.number) (given-rest rs rest n f.1) g
  where
    go : (b : Bool) → (IsGiven (rs ++ rest) n → IsGiven rest n) → cond b r.condition ((r.condition → ⊥) × IsGiven (rs ++ rest) n) → IsGiven rest n
    go true later g = absurd (f.0 g)
    go false later g = later g.1

pub of-form : {text : List ℕ} {s q : Sheet} → HasForm text s → (P : Sheet → Type 0) → HasForm text q → P q → P s
of-form form P f x = subst P (form_unique f form) x

module _ (text : List ℕ) (room : Room) where
  -- At a numeral `IsGiven` is the conditions themselves: that 3 is given says that 1 and 2 do not apply and 3 does.
  pub three-is : IsGiven (in_order text room) 3 ≡ ((Refusal1 text → ⊥) × ((Refusal2 text → ⊥) × Refusal3 text))
  three-is = refl

  -- ---- refusals 1 to 7

  GivenBy : Answer → Type 0
  GivenBy (refused n) = IsGiven (in_order text room) n
  GivenBy (sheet s) = Unit

  answer-given : {a : Answer} → AnswerTo text a → GivenBy a
  unfolding GivenBy
  answer-given (refused1 r) = r
  answer-given (refused2 a r) = (a, r)
  answer-given (refused3 a b r) = (a, (b, r))
  answer-given (refused4 a b c r) = (a, (b, (c, r)))
  answer-given (refused5 a b c d r) = (a, (b, (c, (d, r))))
  answer-given (refused6 a b c d e r) = (a, (b, (c, (d, (e, r)))))
  answer-given (refused7 a b c d e f r) = (a, (b, (c, (d, (e, (f, r))))))
  answer-given (accepted a b c d e f g h) = tt

  -- ---- refusals 8 to 10, of the sheet that the text has the form of

  module _ {s : Sheet} (form : HasForm text s) where
    not_eight : {m : ℕ} → SituationsFit s room m → Refusal8 text room → ⊥
    not_eight fit r =
        count_excludes_more fit.counted situation_bound fit.within_bound (of-form form (λ q. MoreSituations q situation_bound) r.form r.more)

    not-ten : {m : ℕ} → SituationsFit s room m → Refusal10 text room → ⊥
    not-ten fit r =
        count_excludes_more fit.counted (room_rows room (letter_count s.streams)) fit.within_room
        (of-form form (λ q. MoreSituations q (room_rows room (letter_count q.streams))) r.form r.more)

    not-eight-few : room_rows room (letter_count s.streams) < situation_bound → Refusal8 text room → ⊥
    not-eight-few few r =
        let h = of-form r.form (λ q. room_rows room (letter_count q.streams) < situation_bound) form few in
        omega (arith, h, r.enough_rows)

    not-nine : {n : ℕ} {t : Tables} → HoldsSheetTable s room n t → Refusal9 text → ⊥
    not-nine held r = has_solution held.table.table (λ w b h. of-form form (λ q. (w : Streams) → Solution q w → ⊥) r.form r.unsolved _ h.solves)

  sheet-given : {s : Sheet} {b : CompileAnswer} {u : Tables} → AnswerTo text (sheet s) → SheetOutcome s room b u
      → IsGiven (in_order text room) b.refusal
  sheet-given (accepted a b c d e f g h) (too_many_situations x y) = (a, (b, (c, (d, (e, (f, (g, record { source = _; form = h; enough_rows = x; more = y })))))))
  sheet-given (accepted a b c d e f g h) (too_few_rows x y) =
      (a, (b, (c, (d, (e, (f, (g, (not-eight-few h x, record { source = _; form = h; few_rows = x; more = y }))))))))
  sheet-given (accepted a b c d e f g h) (no_solution x y) = (a, (b, (c, (d, (e, (f, (g, (not_eight h x, (not-ten h x, record { source = _; form = h; unsolved = no_streams (record { sides = (accepted_facts (accepted a b c d e f g h)).names_known }) y })))))))))
  sheet-given (accepted a b c d e f g h) (compiled x y) = (a, (b, (c, (d, (e, (f, (g, (not_eight h x, (not-ten h x, (not-nine h y, refl))))))))))

  -- The refusal of a call is the one given.
  pub call-given : {b : CompileAnswer} {u : Tables} → CompileCall text room b u → IsGiven (in_order text room) b.refusal
  unfolding GivenBy
  call-given (unread r) = answer-given r
  call-given (read r o) = sheet-given r o
