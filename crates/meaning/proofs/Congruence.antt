-- What one more letter does to a lawful record is settled by its situation: `successor` computes it, so two lawful records with the same
-- situation stay lawful with the same letters and keep the same situation. From `window_value-value` (proofs/Window), constraint by constraint.
use Prim.Native.Nat.{ℕ, suc, ◌+◌, ◌-◌, ◌≤◌, ◌<◌}
use native.Mathlib.Omega.{arith}
use native.Mathlib.Decide.{dec_le}
use mathlib.Core.Path.{◌≡◌, refl, sym, ◌∙◌, ap, ap₂, subst}
use mathlib.Core.Bool.{Bool, false, cond, ◌&&◌, ◌||◌}
use mathlib.Core.List.{List, [], ◌∷◌, ◌++◌, map, append-nil, Memᴰ}
use mathlib.Core.Option.{none, some}
use lib.Dec.{T}
use lib.ListN.{length, get_or, drop, length-append}
use lib.Seq.{append_snoc, drop-append-le, get_or-drop, drop-drop}
use lib.IntN.{pos}
use Rattle.basics.proofs.Tests.{true_of_T}
use Rattle.meaning.specs.Value.{Value, absent, truth, Streams}
use Rattle.meaning.specs.Expression.{Expression, Constraint, always, until, holds, value}
use Rattle.meaning.specs.Letter.{Letter, Record, streams_of}
use Rattle.meaning.specs.Window.{reach, back, firsts, B, D, all_firsts, all_untils}
use Rattle.meaning.specs.Situation.{all, cut, done, permits, lawful, first_values, until_marks, situation}
use Rattle.meaning.specs.Evaluation.{window_value, window_permits, window_marks, allows_letter, situation_after, successor, marks_of, all_done}
use Rattle.meaning.proofs.Facts.{length-snoc, all_map}
use Rattle.meaning.proofs.Stored.{Stored, Stored-left, Stored-right, Stored-map}
use Rattle.meaning.proofs.Window.{window_value-value}
use Rattle.meaning.proofs.Bounds.{SidesWithin, sides-within}
use Rattle.meaning.proofs.Lawful.{append-begins, lawful-beginning, lawful-snoc, first_values-begins, first_values-append, until_marks-begins, situation-whole, situation-cut}

-- Constraints judged at the place b of the window v, which shows w from time p on, are judged as at the time p + b of w.
module _ (w v : Streams) (stored : List Value) (marks : List Bool) (p b d : ℕ) (same : (k t : ℕ) → v k t ≡ w k (p + t)) where
  abbrev FirstsFrom : ℕ → List Expression → Type 0
  FirstsFrom n es = Stored (λ f. value w f 0) absent stored n es

  abbrev MarksFrom : ℕ → List Constraint → Type 0
  MarksFrom u cs = Stored (λ c. done w c (p + b)) false marks u cs

  side : (n : ℕ) (e : Expression) → back e ≤ b → reach e ≤ d → FirstsFrom n (firsts e) → window_value v stored n e b ≡ value w e (p + b)
  side n e hb hr f = window_value-value w v stored p (b + d) (λ k t h. same k t) e n b hb (omega arith) f

  -- The firsts of a constraint's sides x and y, and those of the constraints l after it.
  module _ (n : ℕ) (x y : Expression) (l : List Constraint) (f : FirstsFrom n ((firsts x ++ firsts y) ++ all_firsts l)) where
    both-firsts : FirstsFrom n (firsts x ++ firsts y)
    both-firsts = Stored-left _ absent stored n (firsts x ++ firsts y) (all_firsts l) f

    left-value : back x ≤ b → reach x ≤ d → window_value v stored n x b ≡ value w x (p + b)
    left-value hb hr = side n x hb hr (Stored-left _ absent stored n (firsts x) (firsts y) both-firsts)

    right-value : back y ≤ b → reach y ≤ d → window_value v stored (n + length (firsts x)) y b ≡ value w y (p + b)
    right-value hb hr = side (n + length (firsts x)) y hb hr (Stored-right _ absent stored n (firsts x) (firsts y) both-firsts)

    later-firsts : FirstsFrom (n + length (firsts x) + length (firsts y)) (all_firsts l)
    later-firsts =
        let e : n + length (firsts x) + length (firsts y) ≡ n + length (firsts x ++ firsts y) = omega (arith, length-append (firsts x) (firsts y)) in
        rw e (Stored-right _ absent stored n (firsts x ++ firsts y) (all_firsts l) f)

  window_permits-permits : (n u : ℕ) (l : List Constraint) → ((c : Constraint) → Memᴰ c l → SidesWithin b d c) → FirstsFrom n (all_firsts l) → MarksFrom u (all_untils l)
      → window_permits v stored marks b n u l ≡ all (λ c. permits w c (p + b)) l
  unfolding window_permits permits done
  window_permits-permits n u [] h f m = refl
  window_permits-permits n u (always s x y ∷ l) h f m =
      let c = h (always s x y) (Memᴰ.head refl) in
      ap₂ ◌&&◌ (ap₂ (holds s) (left-value n x y l f c.back_left c.reach_left) (right-value n x y l f c.back_right c.reach_right))
      (window_permits-permits (n + length (firsts x) + length (firsts y)) u l (λ c k. h c (Memᴰ.tail k)) (later-firsts n x y l f) m)
  window_permits-permits n u (until x y ∷ l) h f m =
      let c = h (until x y) (Memᴰ.head refl) in
      ap₂ ◌&&◌
      (ap₂ ◌||◌ (ap truth (left-value n x y l f c.back_left c.reach_left)) (ap₂ ◌||◌ m.0 (ap truth (right-value n x y l f c.back_right c.reach_right))))
      (window_permits-permits (n + length (firsts x) + length (firsts y)) (suc u) l (λ c k. h c (Memᴰ.tail k)) (later-firsts n x y l f) m.1)

  window_marks-done : (n u : ℕ) (l : List Constraint) → ((c : Constraint) → Memᴰ c l → SidesWithin b d c) → FirstsFrom n (all_firsts l) → MarksFrom u (all_untils l)
      → window_marks v stored marks b n u l ≡ map (λ c. done w c (suc (p + b))) (all_untils l)
  unfolding window_marks done
  window_marks-done n u [] h f m = refl
  window_marks-done n u (always s x y ∷ l) h f m = window_marks-done (n + length (firsts x) + length (firsts y)) u l (λ c k. h c (Memᴰ.tail k)) (later-firsts n x y l f) m
  window_marks-done n u (until x y ∷ l) h f m =
      let c = h (until x y) (Memᴰ.head refl) in
      ap₂ ◌∷◌ (ap₂ ◌||◌ m.0 (ap truth (right-value n x y l f c.back_right c.reach_right)))
      (window_marks-done (n + length (firsts x) + length (firsts y)) (suc u) l (λ c k. h c (Memᴰ.tail k)) (later-firsts n x y l f) m.1)

module _ (cs : List Constraint) where
  -- A record long enough to be cut, with one more letter.
  module _ (r : Record) (l : Letter) (long : D cs + B cs < length r) where
    abbrev longer : Record
    longer = r ++ (l ∷ [])

    abbrev dropped : ℕ
    dropped = length r - (D cs + B cs)

    abbrev window : Record
    window = drop dropped r ++ (l ∷ [])

    judged : dropped + B cs ≡ length r - D cs
    judged = omega arith

    last-letters : drop dropped longer ≡ window
    last-letters = drop-append-le dropped r (l ∷ []) (omega arith)

    window-shows : (k t : ℕ) → streams_of window k t ≡ streams_of longer k (dropped + t)
    window-shows k t = ap (λ x. get_or x k (pos 0)) (ap (λ x. get_or x t []) (sym last-letters) ∙ get_or-drop dropped longer t [])

    firsts-stored : Stored (λ f. value (streams_of longer) f 0) absent (first_values cs r) 0 (all_firsts cs)
    firsts-stored =
        subst (λ x. Stored (λ f. value (streams_of longer) f 0) absent x 0 (all_firsts cs))
        (sym (first_values-begins cs (streams_of longer) r (append-begins r (l ∷ [])) (omega arith)))
        (Stored-map (λ f. value (streams_of longer) f 0) absent (all_firsts cs))

    marks-stored : Stored (λ c. done (streams_of longer) c (dropped + B cs)) false (until_marks cs r) 0 (all_untils cs)
    marks-stored =
        rw judged
        (subst (λ x. Stored (λ c. done (streams_of longer) c (length r - D cs)) false x 0 (all_untils cs))
        (sym (until_marks-begins cs (streams_of longer) r (append-begins r (l ∷ []))))
        (Stored-map (λ c. done (streams_of longer) c (length r - D cs)) false (all_untils cs)))

    cut-allows_letter : T (lawful cs r) → allows_letter cs (cut (drop dropped r) (first_values cs r) (until_marks cs r)) l ≡ lawful cs longer
    unfolding allows_letter
    cut-allows_letter t =
        window_permits-permits (streams_of longer) (streams_of window) (first_values cs r) (until_marks cs r) dropped (B cs) (D cs) window-shows 0 0 cs (sides-within cs) firsts-stored marks-stored
        ∙ ap (λ i. all (λ c. permits (streams_of longer) c i) cs) judged
        ∙ sym (lawful-snoc cs r l (omega arith) ∙ ap (λ b. b && all (λ c. permits (streams_of longer) c (length r - D cs)) cs) (true_of_T (lawful cs r) t))

    cut-situation_after : situation_after cs (cut (drop dropped r) (first_values cs r) (until_marks cs r)) l ≡ situation cs longer
    unfolding situation_after until_marks
    cut-situation_after =
        let i : dropped + 1 ≡ length longer - (D cs + B cs) = omega (arith, length-snoc r l) in
        let j : suc (dropped + B cs) ≡ length longer - D cs = omega (arith, length-snoc r l) in
        let letters : drop 1 window ≡ drop (length longer - (D cs + B cs)) longer = ap (drop 1) (sym last-letters) ∙ drop-drop 1 dropped longer ∙ ap (λ n. drop n longer) i in
        let firsts = sym (first_values-append cs r (l ∷ []) (omega arith)) in
        let marks =
        window_marks-done (streams_of longer) (streams_of window) (first_values cs r) (until_marks cs r) dropped (B cs) (D cs) window-shows 0 0 cs (sides-within cs) firsts-stored marks-stored
        ∙ ap (λ n. map (λ c. done (streams_of longer) c n) (all_untils cs)) j in
        (λ i. cut (letters i) (firsts i) (marks i)) ∙ sym (situation-cut cs longer (omega (arith, length-snoc r l)))

  -- The situation alone tells which letters keep a lawful record lawful.
  pub allows_letter-lawful : (r : Record) (l : Letter) → T (lawful cs r) → allows_letter cs (situation cs r) l ≡ lawful cs (r ++ (l ∷ []))
  unfolding allows_letter
  allows_letter-lawful r l t = go (dec_le (length r) (D cs + B cs))
    where
      go : Dec (length r ≤ D cs + B cs) → allows_letter cs (situation cs r) l ≡ lawful cs (r ++ (l ∷ []))
      go (yes h) = ap (λ x. allows_letter cs x l) (situation-whole cs r h)
      go (no h) = ap (λ x. allows_letter cs x l) (situation-cut cs r (omega arith)) ∙ cut-allows_letter r l (omega arith) t

  -- The situation alone tells the situation with one more letter, of an unlawful record too.
  pub situation_after-situation : (r : Record) (l : Letter) → situation_after cs (situation cs r) l ≡ situation cs (r ++ (l ∷ []))
  unfolding situation_after
  situation_after-situation r l = go (dec_le (length r) (D cs + B cs))
    where
      go : Dec (length r ≤ D cs + B cs) → situation_after cs (situation cs r) l ≡ situation cs (r ++ (l ∷ []))
      go (yes h) = ap (λ x. situation_after cs x l) (situation-whole cs r h)
      go (no h) = ap (λ x. situation_after cs x l) (situation-cut cs r (omega arith)) ∙ cut-situation_after r l (omega arith)

  pub successor-situation : (r : Record) (l : Letter) → T (lawful cs r)
      → successor cs (situation cs r) l ≡ cond (lawful cs (r ++ (l ∷ []))) (some (situation cs (r ++ (l ∷ [])))) none
  unfolding successor
  successor-situation r l t = λ i. cond (allows_letter-lawful r l t i) (some (situation_after-situation r l i)) none

  -- The situation alone tells which untils are done.
  pub marks_of-situation : (r : Record) → marks_of cs (situation cs r) ≡ until_marks cs r
  unfolding marks_of
  marks_of-situation r = go (dec_le (length r) (D cs + B cs))
    where
      go : Dec (length r ≤ D cs + B cs) → marks_of cs (situation cs r) ≡ until_marks cs r
      go (yes h) = ap (marks_of cs) (situation-whole cs r h)
      go (no h) = ap (marks_of cs) (situation-cut cs r (omega arith))

  pub all_done-situation : (r : Record) → all_done cs (situation cs r) ≡ all (λ c. done (streams_of r) c (length r - D cs)) (all_untils cs)
  unfolding all_done until_marks
  all_done-situation r = ap (all (λ b. b)) (marks_of-situation r) ∙ all_map (λ b. b) _ (all_untils cs)

  -- Two records with the same situation, and the same letter after both.
  pub lawful_congruence : (r s : Record) (l : Letter) → T (lawful cs r) → T (lawful cs s) → situation cs r ≡ situation cs s
      → lawful cs (r ++ (l ∷ [])) ≡ lawful cs (s ++ (l ∷ []))
  lawful_congruence r s l t u e = sym (allows_letter-lawful r l t) ∙ ap (λ x. allows_letter cs x l) e ∙ allows_letter-lawful s l u

  pub situation_congruence : (r s : Record) (l : Letter) → situation cs r ≡ situation cs s → situation cs (r ++ (l ∷ [])) ≡ situation cs (s ++ (l ∷ []))
  situation_congruence r s l e = sym (situation_after-situation r l) ∙ ap (λ x. situation_after cs x l) e ∙ situation_after-situation s l

  -- Any letters after both.
  pub lawful_congruence_append : (u r s : Record) → T (lawful cs r) → T (lawful cs s) → situation cs r ≡ situation cs s → T (lawful cs (r ++ u)) → T (lawful cs (s ++ u))
  lawful_congruence_append [] r s t t' e h = rw append-nil t'
  lawful_congruence_append (l ∷ u) r s t t' e h =
      let h' : T (lawful cs ((r ++ (l ∷ [])) ++ u)) = rw append_snoc h in
      let k = lawful-beginning cs (r ++ (l ∷ [])) u h' in
      rw append_snoc at (lawful_congruence_append u (r ++ (l ∷ [])) (s ++ (l ∷ [])) k (subst T (lawful_congruence r s l t t' e) k) (situation_congruence r s l e) h')

  pub situation_congruence_append : (u r s : Record) → situation cs r ≡ situation cs s → situation cs (r ++ u) ≡ situation cs (s ++ u)
  situation_congruence_append [] r s e = rw (append-nil r, append-nil s) e
  situation_congruence_append (l ∷ u) r s e =
      rw (append_snoc r l u, append_snoc s l u) at (situation_congruence_append u (r ++ (l ∷ [])) (s ++ (l ∷ [])) (situation_congruence r s l e))
