-- The key of the empty record, and the flag of a key: it says whether every until is done. From the digits of the marks.
use Prim.Native.Nat.{ℕ, zero, suc, ◌+◌, ◌-◌, ◌*◌, ◌≤◌}
use native.Mathlib.Omega.{arith}
use mathlib.Core.Path.{◌≡◌, refl, sym, ◌∙◌, ap, ap₂}
use mathlib.Core.Bool.{Bool, true, false}
use mathlib.Core.List.{List, [], ◌∷◌, ◌++◌, map}
use lib.Dec.{eqb}
use lib.ListN.{length, get_or, length-map}
use lib.Seq.{get_or-append-add}
use borrow.Author.Tests.{eq-eqb, ne_eqb, eqb-true, eqb-false}
use Rattle.sheet.specs.Refusal.{window_bound, first_bound}
use Rattle.meaning.specs.Value.{less, at_most, equal, at_least, greater, different}
use Rattle.meaning.specs.Expression.{comparison, implies, Constraint, always, until, Sheet}
use Rattle.meaning.specs.Letter.{record_of, streams_of}
use Rattle.meaning.specs.Window.{D, all_untils}
use Rattle.meaning.specs.Situation.{all, done, until_marks}
use Rattle.meaning.specs.Evaluation.{all_done}
use Rattle.meaning.proofs.Congruence.{marks_of-situation}
use Rattle.nodes.specs.Code.{relation_code}
use Rattle.prepare.specs.Key.{with_zeros, encoded_key, digit, marks_number, marks_in, key_of}
use Rattle.explore.specs.Search.{start_key, every_mark, flag_of}
use Rattle.explore.specs.Rows.{situation_of}
use Rattle.prepare.proofs.KeyLists.{length-padded}
use Rattle.explore.proofs.KeySituations.{key-whole}

-- ---- the number of the marks of n untils that are all done

unfoldable pub ones : ℕ → ℕ
ones zero = 0
ones (suc n) = 1 + 2 * ones n

marks-below : (l : List Bool) → marks_number l ≤ ones (length l)
unfolding marks_number ones
marks-below [] = omega arith
marks-below (true ∷ l) = let h = marks-below l in omega arith
marks-below (false ∷ l) = let h = marks-below l in omega arith

-- The marks are those of untils that are all done exactly if all are done.
marks-all : (l : List Bool) → eqb (marks_number l) (ones (length l)) ≡ all (λ b. b) l
unfolding marks_number ones
marks-all [] = refl
marks-all (true ∷ l) = by (marks_number l) (ones (length l)) (marks-all l)
  where
    by : (m n : ℕ) → eqb m n ≡ all (λ b. b) l → eqb (1 + 2 * m) (1 + 2 * n) ≡ all (λ b. b) l
    by m n e = split (all (λ b. b) l) e
      where
        split : (t : Bool) → eqb m n ≡ t → eqb (1 + 2 * m) (1 + 2 * n) ≡ t
        split true h = eq-eqb (1 + 2 * m) (1 + 2 * n) (ap (λ k. 1 + 2 * k) (eqb-true m n h))
        split false h = ne_eqb (1 + 2 * m) (1 + 2 * n) (λ q. eqb-false m n h (omega arith))
marks-all (false ∷ l) = ne_eqb (0 + 2 * marks_number l) (1 + 2 * ones (length l)) (λ q. absurd (omega (arith, marks-below l)))

-- ---- the marks of all untils of a sheet

pub every_mark_ones : (cs : List Constraint) (k : ℕ) → every_mark (ones k) (map relation_code cs) ≡ ones (k + length (all_untils cs))
unfolding every_mark ones
every_mark_ones [] k = let e : k ≡ k + 0 = omega arith in ap ones e
every_mark_ones (always (comparison less) a b ∷ cs) k = every_mark_ones cs k
every_mark_ones (always (comparison at_most) a b ∷ cs) k = every_mark_ones cs k
every_mark_ones (always (comparison equal) a b ∷ cs) k = every_mark_ones cs k
every_mark_ones (always (comparison at_least) a b ∷ cs) k = every_mark_ones cs k
every_mark_ones (always (comparison greater) a b ∷ cs) k = every_mark_ones cs k
every_mark_ones (always (comparison different) a b ∷ cs) k = every_mark_ones cs k
every_mark_ones (always implies a b ∷ cs) k = every_mark_ones cs k
every_mark_ones (until a b ∷ cs) k =
    let e : ones k * 2 + 1 ≡ ones (suc k) = omega arith in
    let f : suc k + length (all_untils cs) ≡ k + suc (length (all_untils cs)) = omega arith in
    ap (λ m. every_mark m (map relation_code cs)) e ∙ every_mark_ones cs (suc k) ∙ ap ones f

-- ---- keys

pub encoded_marks : (size : ℕ) (letters firsts : List ℕ) (m : ℕ) → marks_in (encoded_key size letters firsts m) ≡ m
unfolding encoded_key
encoded_marks size letters firsts m =
    let p = length-padded window_bound letters in
    let q = length-padded first_bound firsts in
    let i : 14 ≡ length (with_zeros window_bound letters) + (length (with_zeros first_bound firsts) + 0) = omega arith in
    ap (λ n. get_or (with_zeros window_bound letters ++ (with_zeros first_bound firsts ++ (m ∷ []))) n 0) i
    ∙ get_or-append-add (with_zeros window_bound letters) (with_zeros first_bound firsts ++ (m ∷ [])) (length (with_zeros first_bound firsts) + 0) 0
    ∙ get_or-append-add (with_zeros first_bound firsts) (m ∷ []) 0 0

module _ (s : Sheet) where
  pub key-marks : (r : List ℕ) → marks_in (key_of s r) ≡ marks_number (until_marks s.constraints (record_of s.streams r))
  unfolding key_of
  key-marks r = encoded_marks _ _ _ _

  marks-long : (r : List ℕ) → length (until_marks s.constraints (record_of s.streams r)) ≡ length (all_untils s.constraints)
  unfolding until_marks
  marks-long r = length-map (all_untils s.constraints) _

  -- The flag of a record's key says whether every until is done in its situation.
  pub key-flag : (every : ℕ) → every ≡ ones (length (all_untils s.constraints)) → (r : List ℕ) → flag_of every (key_of s r) ≡ digit (all_done s.constraints (situation_of s r))
  unfolding all_done
  key-flag every e r =
      let m = until_marks s.constraints (record_of s.streams r) in
      ap digit (ap₂ eqb (key-marks r) (e ∙ ap ones (sym (marks-long r))) ∙ marks-all m ∙ ap (all (λ b. b)) (sym (marks_of-situation s.constraints (record_of s.streams r))))

  none-marked : (cs : List Constraint) (f : Constraint → Bool) → ((c : Constraint) → f c ≡ false) → marks_number (map f cs) ≡ 0
  unfolding marks_number
  none-marked [] f h = refl
  none-marked (c ∷ cs) f h = ap₂ (λ b n. digit b + 2 * n) (h c) (none-marked cs f h) ∙ refl

  -- The key of the empty record is all zero.
  pub key-empty : key_of s [] ≡ start_key
  unfolding encoded_key until_marks done
  key-empty =
      let zero-times : 0 - D s.constraints ≡ 0 = omega arith in
      let m : marks_number (until_marks s.constraints []) ≡ 0 = none-marked (all_untils s.constraints) (λ c. done (streams_of []) c (0 - D s.constraints)) (λ c. ap (λ n. done (streams_of []) c n) zero-times) in
      key-whole s [] (omega arith) ∙ ap (encoded_key 0 [] []) m
