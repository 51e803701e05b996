-- One more letter after the key of a lawful record of an accepted sheet: what is judged of the stored constraints is whether the longer record
-- is lawful, and its marks. From the values of the sides (StoredSides) and what one more letter judges of a record (meaning).
use Prim.Native.Nat.{ℕ, suc, ◌-◌, ◌≤◌, ◌<◌}
use native.Mathlib.Omega.{arith}
use native.Mathlib.Decide.{dec_le}
use mathlib.Core.Path.{◌≡◌, refl, sym, ◌∙◌, ap, ap₂}
use mathlib.Core.Bool.{Bool, true, false, cond, ◌&&◌, ◌||◌}
use mathlib.Core.List.{List, [], ◌∷◌, ◌++◌, map, map-append}
use lib.Dec.{leb}
use lib.IntN.{ℤ}
use lib.ListN.{length, length-map}
use borrow.Author.Tests.{le-leb, lt-leb}
use Rattle.nodes.proofs.Postfix.{stored-length}
use Rattle.basics.proofs.Tests.{true_of_T}
use Rattle.automaton.specs.Words.{AllBelow}
use Rattle.meaning.specs.Value.{Value, truth, Streams}
use Rattle.meaning.specs.Expression.{Constraint, always, until, left_side, right_side, holds, Stream, Sheet, value}
use Rattle.meaning.specs.Letter.{Record, letter_of, record_of, streams_of}
use Rattle.meaning.specs.Window.{all_untils, D}
use Rattle.meaning.specs.Situation.{all, done, permits, lawful, until_marks}
use Rattle.meaning.proofs.Facts.{length-snoc}
use Rattle.meaning.proofs.Lawful.{append-begins, lawful-short, lawful-snoc, until_marks-begins}
use Rattle.sheet.specs.Accepted.{Accepted}
use Rattle.nodes.specs.Postfix.{Node, StoredConstraint, stored_constraints}
use Rattle.prepare.specs.Key.{marks_number, marks_in, key_of}
use Rattle.extend.specs.Step.{Store, unlawful, lawful_with, judged_from, view_after, letters_after, value_at, judged_after}
use Rattle.explore.specs.Rows.{is_lawful, letter_numbers}
use Rattle.explore.specs.StoredSheet.{store_for, HasLetters}
use Rattle.explore.proofs.KeySituations.{record_long}
use Rattle.explore.proofs.KeyMarks.{key-marks}
use Rattle.explore.proofs.JudgeMeaning.{permitted, marks_now, judged-meaning}
use Rattle.explore.proofs.KeyDecoding.{after-known}
use Rattle.explore.proofs.StoredSides.{constraints-read}

or_swap : (x y : Bool) → (x || y) ≡ (y || x)
or_swap true true = refl
or_swap true false = refl
or_swap false true = refl
or_swap false false = refl

-- ---- constraints with their values at a time i of streams

module _ (w : Streams) (i : ℕ) (relations lefts rights : List ℕ) (val : ℕ → Value) where
  abbrev left : Constraint → Value
  left c = value w (left_side c) i

  abbrev right : Constraint → Value
  right c = value w (right_side c) i

  permitted_all : (cs : List Constraint) → permitted relations lefts rights val left right cs (map (λ c. done w c i) (all_untils cs)) ≡ all (λ c. permits w c i) cs
  unfolding permitted permits done
  permitted_all [] = refl
  permitted_all (always s a b ∷ cs) = ap (λ x. holds s (value w a i) (value w b i) && x) (permitted_all cs)
  permitted_all (until a b ∷ cs) = ap₂ ◌&&◌ (or_swap (done w (until a b) i || truth (value w b i)) (truth (value w a i))) (permitted_all cs)

  marks-now : (cs : List Constraint) → marks_now relations lefts rights val left right cs (map (λ c. done w c i) (all_untils cs)) ≡ map (λ c. done w c (suc i)) (all_untils cs)
  unfolding marks_now done
  marks-now [] = refl
  marks-now (always s a b ∷ cs) = marks-now cs
  marks-now (until a b ∷ cs) = ap (λ x. (done w (until a b) i || truth (value w b i)) ∷ x) (marks-now cs)

-- ---- one more letter

-- Nothing is done before anything is judged.
no_marks : (s : Sheet) (l : List ℕ) → length l ≤ D s.constraints → until_marks s.constraints (record_of s.streams l) ≡ map (λ c. false) (all_untils s.constraints)
unfolding until_marks done
no_marks s l h =
    let z : length (record_of s.streams l) - D s.constraints ≡ 0 = omega (arith, length-map l (letter_of s.streams)) in
    ap (λ n. map (λ c. done (streams_of (record_of s.streams l)) c n) (all_untils s.constraints)) z

module _ (s : Sheet) (accepted : Accepted s) (behind : List Node) (values : List ℤ) (has : HasLetters s values)
    (r : List ℕ) (a : ℕ) (below : AllBelow (letter_numbers s) r) (here : a < letter_numbers s) (kept : is_lawful s r ≡ true) where
  abbrev ss : List Stream
  ss = s.streams

  abbrev cs : List Constraint
  cs = s.constraints

  abbrev K : Store
  K = store_for s behind values

  abbrev longer : Record
  longer = record_of ss (r ++ (a ∷ []))

  abbrev now : ℕ
  now = length r - D cs

  abbrev marks_before : List Bool
  marks_before = map (λ c. done (streams_of longer) c now) (all_untils cs)

  snoc_record : longer ≡ record_of ss r ++ (letter_of ss a ∷ [])
  snoc_record = map-append (letter_of ss) r (a ∷ [])

  longer-long : length longer ≡ suc (length r)
  longer-long = length-map (r ++ (a ∷ [])) (letter_of ss) ∙ length-snoc r a

  longer-lawful : D cs ≤ length r → is_lawful s (r ++ (a ∷ [])) ≡ all (λ c. permits (streams_of longer) c now) cs
  longer-lawful h =
      let whole_record = record_of ss r in
      let more = whole_record ++ (letter_of ss a ∷ []) in
      ap (lawful cs) snoc_record
      ∙ lawful-snoc cs whole_record (letter_of ss a) (omega (arith, record_long s r))
      ∙ ap (λ b. b && all (λ c. permits (streams_of more) c (length whole_record - D cs)) cs) kept
      ∙ (λ i. all (λ c. permits (streams_of (sym snoc_record i)) c (record_long s r i - D cs)) cs)

  marks-before : until_marks cs (record_of ss r) ≡ marks_before
  marks-before =
      let whole_record = record_of ss r in
      until_marks-begins cs (streams_of (whole_record ++ (letter_of ss a ∷ []))) whole_record (append-begins whole_record (letter_of ss a ∷ []))
      ∙ (λ i. map (λ c. done (streams_of (sym snoc_record i)) c (record_long s r i - D cs)) (all_untils cs))

  longer-marks : D cs ≤ length r → map (λ c. done (streams_of longer) c (suc now)) (all_untils cs) ≡ until_marks cs longer
  unfolding until_marks
  longer-marks h = let e : suc now ≡ length longer - D cs = omega (arith, longer-long) in ap (λ n. map (λ c. done (streams_of longer) c n) (all_untils cs)) e

  pub judged-after : judged_after K (key_of s r) a ≡ cond (is_lawful s (r ++ (a ∷ []))) (lawful_with (marks_number (until_marks cs longer))) unlawful
  unfolding judged_after
  judged-after = by (dec_le (D cs) (length r))
    where
      by : Dec (D cs ≤ length r) → judged_after K (key_of s r) a ≡ cond (is_lawful s (r ++ (a ∷ []))) (lawful_with (marks_number (until_marks cs longer))) unlawful
      by (yes h) =
          let known = length (letters_after K (key_of s r) a) - 1 in
          let val = value_at K (view_after K (key_of s r) a) (known - D cs) in
          let some : leb (D cs) known ≡ true = le-leb (D cs) known (omega (arith, after-known s accepted behind values has r a below here)) in
          let long : length K.relations ≡ length cs = length-map (stored_constraints 0 0 cs) (λ (t : StoredConstraint). t.relation) ∙ stored-length 0 0 cs in
          ap (λ b. cond b (judged_from K.relations K.lefts K.rights val 0 (length K.relations) (marks_in (key_of s r))) (lawful_with (marks_in (key_of s r)))) some
          ∙ (λ i. judged_from K.relations K.lefts K.rights val 0 (long i) ((key-marks s r ∙ ap marks_number marks-before) i))
          ∙ judged-meaning K.relations K.lefts K.rights val (left (streams_of longer) now K.relations K.lefts K.rights val) (right (streams_of longer) now K.relations K.lefts K.rights val) cs 0 marks_before
          (length-map (all_untils cs) (λ c. done (streams_of longer) c now)) (constraints-read s accepted behind values has r a below here h)
          ∙ (λ i. cond ((permitted_all (streams_of longer) now K.relations K.lefts K.rights val cs ∙ sym (longer-lawful h)) i)
          (lawful_with (marks_number ((marks-now (streams_of longer) now K.relations K.lefts K.rights val cs ∙ longer-marks h) i))) unlawful)
      by (no h) =
          let known = length (letters_after K (key_of s r) a) - 1 in
          let val = value_at K (view_after K (key_of s r) a) (known - D cs) in
          let none : leb (D cs) known ≡ false = lt-leb (D cs) known (omega (arith, after-known s accepted behind values has r a below here)) in
          let all_lawful : is_lawful s (r ++ (a ∷ [])) ≡ true = true_of_T (is_lawful s (r ++ (a ∷ []))) (lawful-short cs longer (omega (arith, longer-long))) in
          ap (λ b. cond b (judged_from K.relations K.lefts K.rights val 0 (length K.relations) (marks_in (key_of s r))) (lawful_with (marks_in (key_of s r)))) none
          ∙ ap lawful_with (key-marks s r ∙ ap marks_number (no_marks s r (omega arith) ∙ sym (no_marks s (r ++ (a ∷ [])) (omega (arith, length-snoc r a)))))
          ∙ sym (ap (λ b. cond b (lawful_with (marks_number (until_marks cs longer))) unlawful) all_lawful)
