-- What refusals 4 to 7 say of a sheet of the form is what the tests of the stored streams and constraints say.
use Prim.Native.Nat.{ℕ, ◌+◌, ◌*◌, ◌≤◌}
use mathlib.Core.Path.{◌≡◌, refl, sym, ap, ap₂, subst, ◌∙◌}
use mathlib.Core.Bool.{Bool, true, false, not, cond, ◌||◌}
use mathlib.Core.List.{List, [], ◌∷◌, ◌++◌, map}
use native.Mathlib.Omega.{arith}
use lib.Dec.{T, ltb}
use lib.IntN.{ℤ, pos}
use lib.ListN.{length, length-map}
use lib.Signed.{lt_z}
use borrow.Author.Tests.{ltb-false, ltb-true, lt-ltb, le-ltb}
use Rattle.meaning.specs.Expression.{Constraint, Stream, Sheet, left_side, right_side}
use Rattle.meaning.specs.Interval.{subexpressions}
use Rattle.meaning.specs.Letter.{size, letter_count}
use Rattle.meaning.specs.Window.{all_firsts, all_untils, B, D}
use Rattle.nodes.specs.Postfix.{all_nodes, stored_constraints, kinds_of, values_of}
use Rattle.nodes.specs.Evaluate.{nodes_of}
use Rattle.nodes.specs.Bounds.{lows_of, highs_of}
use Rattle.sheet.specs.Form.{names_of}
use Rattle.sheet.specs.Refusal.{refused, sheet}
use Rattle.sheet.specs.Reading.{any_of, sides_below, is_beyond, is_range_faulty, is_integer_beyond, all_expressions, refuses4, refuses5, refuses6, refuses7, answer_to_sheet}
use Rattle.letters.specs.Described.{described, cut_count}
use Rattle.parse.specs.Bounded.{zero_beyond, bounded_constraint, constraint_beyond}
use Rattle.parse.proofs.Outcome.{constraint-same}
use Rattle.parse.proofs.Trees.{any_of-append}
use Rattle.refusals.specs.Names.{names_refused}
use Rattle.reader.specs.Stored.{lefts_of, rights_of}
use Rattle.reader.specs.Unknown.{some_unknown}
use Rattle.reader.specs.Extent.{no_extent, extent_from}
use Rattle.lowest_refusal.specs.Tested.{failed_as}
use Rattle.reader.specs.Tested.{tested_by, tested_as}
use Rattle.reader.specs.declared.Extent.{Extent}
use Rattle.lowest_refusal.specs.declared.Tested.{Tested}
use Rattle.reader.proofs.Unknown.{unknown_names, bounded-names}
use Rattle.reader.proofs.SheetExtent.{extent-sheet}

-- ---- values within the bound

-- The stored values: 0 where one is beyond the bound.
abbrev pub stored_lows : List Stream → List ℤ
stored_lows ss = map (λ x. zero_beyond x.range.low) ss

abbrev pub stored_highs : List Stream → List ℤ
stored_highs ss = map (λ x. zero_beyond x.range.high) ss

pub or_left : (a b : Bool) → a || b ≡ false → a ≡ false
or_left true b e = e
or_left false b e = refl

pub or_right : (a b : Bool) → a || b ≡ false → b ≡ false
or_right true b e = absurd (subst T e tt)
or_right false b e = e

within_same : (z : ℤ) → is_beyond z ≡ false → zero_beyond z ≡ z
within_same z e = ap (λ b. cond b (pos 0) z) e

module _ (x : Stream) (h : is_range_faulty x ≡ false) where
  both-near : is_beyond x.range.low || is_beyond x.range.high ≡ false
  both-near = or_left (is_beyond x.range.low || is_beyond x.range.high) (lt_z x.range.high x.range.low) h

  low_near : is_beyond x.range.low ≡ false
  low_near = or_left (is_beyond x.range.low) (is_beyond x.range.high) both-near

  high-near : is_beyond x.range.high ≡ false
  high-near = or_right (is_beyond x.range.low) (is_beyond x.range.high) both-near

pub lows-same : (ss : List Stream) → any_of is_range_faulty ss ≡ false → stored_lows ss ≡ lows_of ss
lows-same [] e = refl
lows-same (x ∷ ss) e =
    ap₂ (λ l ls. l ∷ ls) (within_same x.range.low (low_near x (or_left (is_range_faulty x) (any_of is_range_faulty ss) e))) (lows-same ss (or_right (is_range_faulty x) (any_of is_range_faulty ss) e))

pub highs-same : (ss : List Stream) → any_of is_range_faulty ss ≡ false → stored_highs ss ≡ highs_of ss
highs-same [] e = refl
highs-same (x ∷ ss) e =
    ap₂ (λ l ls. l ∷ ls) (within_same x.range.high (high-near x (or_left (is_range_faulty x) (any_of is_range_faulty ss) e))) (highs-same ss (or_right (is_range_faulty x) (any_of is_range_faulty ss) e))

pub constraints-same : (cs : List Constraint) → any_of is_integer_beyond (all_expressions cs) ≡ false → map bounded_constraint cs ≡ cs
constraints-same [] e = refl
constraints-same (c ∷ cs) e =
    let both = sym (any_of-append is_integer_beyond (subexpressions (left_side c) ++ subexpressions (right_side c)) (all_expressions cs)) ∙ e in
    ap₂ (λ d ds. d ∷ ds) (constraint-same c (or_left (constraint_beyond c) (any_of is_integer_beyond (all_expressions cs)) both)) (constraints-same cs (or_right (constraint_beyond c) (any_of is_integer_beyond (all_expressions cs)) both))

pub described-count : (ss : List Stream) → letter_count (described (lows_of ss) (highs_of ss)) ≡ letter_count ss
unfolding letter_count
described-count [] = refl
described-count (x ∷ ss) = ap (λ n. size x.range * n) (described-count ss)

-- ---- the tests

-- What holds of a sheet that is not refused.
pub record NothingCut (s : Sheet) : Type 0 where
  pub constraints : map bounded_constraint s.constraints ≡ s.constraints
  pub lows : stored_lows s.streams ≡ lows_of s.streams
  pub highs : stored_highs s.streams ≡ highs_of s.streams
  pub firsts : length (all_firsts s.constraints) ≤ 8

abbrev pub accepted_as : Sheet → Tested
accepted_as s = record { refusal = 0; letters = letter_count s.streams; ahead = D s.constraints; back = B s.constraints }

-- What the tests say of the sheet: the refusal, or what is stored besides.
pub data Told (s : Sheet) (t : Tested) : Type 0 where
  is_refused : (t.refusal ≡ 0 → ⊥) → answer_to_sheet s ≡ refused t.refusal → Told s t
  is_sheet : answer_to_sheet s ≡ sheet s → NothingCut s → t ≡ accepted_as s → Told s t

-- A count that is cut behind the bound passes it exactly where the count does.
cut-above : (n : ℕ) → ltb 1024 (cut_count n) ≡ ltb 1024 n
cut-above n = by (ltb 1024 n) refl
  where
    by : (b : Bool) → ltb 1024 n ≡ b → ltb 1024 (cut_count n) ≡ ltb 1024 n
    by true e = lt-ltb 1024 (cut_count n) (let h = ltb-true 1024 n e in omega arith) ∙ sym e
    by false e = le-ltb 1024 (cut_count n) (let h = ltb-false 1024 n e in omega arith) ∙ sym e

module _ (s : Sheet) where
  abbrev ss : List Stream
  ss = s.streams

  abbrev cs : List Constraint
  cs = s.constraints

  told_refused : {t : Tested} (n : ℕ) → (n ≡ 0 → ⊥) → t ≡ failed_as n → answer_to_sheet s ≡ refused n → Told s t
  told_refused n h e a = is_refused (λ z. h (sym (ap (λ x. x.refusal) e) ∙ z)) (a ∙ ap refused (sym (ap (λ x. x.refusal) e)))

  abbrev cut_constraints : List Constraint
  cut_constraints = map bounded_constraint cs

  abbrev extent_of : List Constraint → List ℤ → List ℤ → Extent
  extent_of ds lows highs = extent_from (nodes_of (all_nodes 0 0 ds)) lows highs no_extent (lefts_of (stored_constraints 0 0 ds)) (rights_of (stored_constraints 0 0 ds))

  -- What the tests for refusals 6 and 7 say of what is stored.
  abbrev tested_near : Tested
  tested_near = tested_by (extent_of cut_constraints (stored_lows ss) (stored_highs ss)) (cut_count (letter_count (described (stored_lows ss) (stored_highs ss)))) (length (all_untils cut_constraints)) (length (all_firsts cut_constraints))

  abbrev counted : ℕ → Bool
  counted letters = ltb 1024 letters || ltb 8 (length (all_untils cs)) || ltb 8 (length (all_firsts cs)) || ltb 6 (D cs + B cs)

  abbrev extent : Bool → Extent
  extent b = record { ok = b; ahead = D cs; back = B cs }

  cut-counted : counted (cut_count (letter_count ss)) ≡ refuses7 s
  unfolding refuses7
  cut-counted = ap (λ b. b || ltb 8 (length (all_untils cs)) || ltb 8 (length (all_firsts cs)) || ltb 6 (D cs + B cs)) (cut-above (letter_count ss))

  -- Refusals 6 and 7, where 4 and 5 do not apply.
  module _ (h4 : refuses4 s ≡ false) (h5 : refuses5 s ≡ false) where
    streams-near : any_of is_range_faulty ss ≡ false
    unfolding refuses5
    streams-near = or_left (any_of is_range_faulty ss) (any_of is_integer_beyond (all_expressions cs)) h5

    constraints-near : any_of is_integer_beyond (all_expressions cs) ≡ false
    unfolding refuses5
    constraints-near = or_right (any_of is_range_faulty ss) (any_of is_integer_beyond (all_expressions cs)) h5

    answer-near : answer_to_sheet s ≡ cond (refuses6 s) (refused 6) (cond (refuses7 s) (refused 7) (sheet s))
    unfolding answer_to_sheet
    answer-near = ap₂ (λ a b. cond a (refused 4) (cond b (refused 5) (cond (refuses6 s) (refused 6) (cond (refuses7 s) (refused 7) (sheet s))))) h4 h5

    accepted-letters : refuses7 s ≡ false → letter_count ss ≤ 1024
    unfolding refuses7
    accepted-letters h =
        let untils = ltb 8 (length (all_untils cs)) in
        let firsts = ltb 8 (length (all_firsts cs)) in
        ltb-false 1024 (letter_count ss) (or_left (ltb 1024 (letter_count ss)) untils (or_left (ltb 1024 (letter_count ss) || untils) firsts (or_left (ltb 1024 (letter_count ss) || untils || firsts) (ltb 6 (D cs + B cs)) h)))

    accepted : refuses7 s ≡ false → NothingCut s
    unfolding refuses7
    accepted h =
        let untils = ltb 8 (length (all_untils cs)) in
        let firsts = ltb 8 (length (all_firsts cs)) in
        record {
          constraints = constraints-same cs constraints-near;
          lows = lows-same ss streams-near;
          highs = highs-same ss streams-near;
          firsts = ltb-false 8 (length (all_firsts cs)) (or_right (ltb 1024 (letter_count ss) || untils) firsts (or_left (ltb 1024 (letter_count ss) || untils || firsts) (ltb 6 (D cs + B cs)) h));
        }

    told-7 : (b : Bool) → refuses6 s ≡ false → refuses7 s ≡ b → {t : Tested} → t ≡ cond b (failed_as 7) (record { refusal = 0; letters = cut_count (letter_count ss); ahead = D cs; back = B cs }) → Told s t
    told-7 true h6 h7 e = told_refused 7 (λ z. omega arith) e (answer-near ∙ ap₂ (λ a b. cond a (refused 6) (cond b (refused 7) (sheet s))) h6 h7)
    told-7 false h6 h7 e =
        let few = accepted-letters h7 in
        let same : cut_count (letter_count ss) ≡ letter_count ss = omega arith in
        is_sheet
        (answer-near ∙ ap₂ (λ a b. cond a (refused 6) (cond b (refused 7) (sheet s))) h6 h7)
        (accepted h7)
        (e ∙ ap (λ n. record { refusal = 0; letters = n; ahead = D cs; back = B cs }) same)

    told-6 : (b : Bool) → refuses6 s ≡ b → {t : Tested} → t ≡ tested_by (extent (not b)) (cut_count (letter_count ss)) (length (all_untils cs)) (length (all_firsts cs)) → Told s t
    told-6 true h6 e = told_refused 6 (λ z. omega arith) e (answer-near ∙ ap (λ a. cond a (refused 6) (cond (refuses7 s) (refused 7) (sheet s))) h6)
    told-6 false h6 e = told-7 (refuses7 s) h6 refl (e ∙ ap (λ b. cond b (failed_as 7) (record { refusal = 0; letters = cut_count (letter_count ss); ahead = D cs; back = B cs })) cut-counted)

    -- The extent and the counts of what is stored are those of the sheet.
    stored-extent : length (all_nodes 0 0 cut_constraints) ≤ 1024 → extent_of cut_constraints (stored_lows ss) (stored_highs ss) ≡ extent (not (refuses6 s))
    stored-extent few =
        let same = constraints-same cs constraints-near in
        ap (λ ds. extent_of ds (stored_lows ss) (stored_highs ss)) same
        ∙ ap₂ (extent_of cs) (lows-same ss streams-near) (highs-same ss streams-near)
        ∙ extent-sheet s h4 h5 (subst (λ ds. length (all_nodes 0 0 ds) ≤ 1024) same few)

    stored-letters : cut_count (letter_count (described (stored_lows ss) (stored_highs ss))) ≡ cut_count (letter_count ss)
    stored-letters = ap₂ (λ l h. cut_count (letter_count (described l h))) (lows-same ss streams-near) (highs-same ss streams-near) ∙ ap cut_count (described-count ss)

    told-near : length (all_nodes 0 0 cut_constraints) ≤ 1024 → {t : Tested} → t ≡ tested_near → Told s t
    told-near few e =
        told-6 (refuses6 s) refl
        (e ∙ ap₂ (λ x n. tested_by x n (length (all_untils cut_constraints)) (length (all_firsts cut_constraints))) (stored-extent few) stored-letters
        ∙ ap (λ ds. tested_by (extent (not (refuses6 s))) (cut_count (letter_count ss)) (length (all_untils ds)) (length (all_firsts ds))) (constraints-same cs constraints-near))

  -- Refusal 4, where the names of line 1 are not refused.
  unknown_refused : names_refused (names_of ss) ≡ false → some_unknown (kinds_of (all_nodes 0 0 cut_constraints)) (values_of (all_nodes 0 0 cut_constraints)) (length (stored_lows ss)) ≡ refuses4 s
  unfolding refuses4 names_refused
  unknown_refused names =
      ap (some_unknown (kinds_of (all_nodes 0 0 cut_constraints)) (values_of (all_nodes 0 0 cut_constraints))) (length-map ss (λ x. zero_beyond x.range.low))
      ∙ unknown_names 0 0 (length ss) cut_constraints
      ∙ bounded-names (length ss) cs
      ∙ ap (λ b. b || any_of (λ c. not (sides_below (length ss) c)) cs) (sym names)

  module _ (few : length (all_nodes 0 0 cut_constraints) ≤ 1024) where
    told-4 : (b4 b5 : Bool) → refuses4 s ≡ b4 → refuses5 s ≡ b5 → {t : Tested} → t ≡ cond b4 (failed_as 4) (cond b5 (failed_as 5) tested_near) → Told s t
    unfolding answer_to_sheet
    told-4 true b5 h4 h5 e = told_refused 4 (λ z. omega arith) e (ap (λ a. cond a (refused 4) (cond (refuses5 s) (refused 5) (cond (refuses6 s) (refused 6) (cond (refuses7 s) (refused 7) (sheet s))))) h4)
    told-4 false true h4 h5 e = told_refused 5 (λ z. omega arith) e (ap₂ (λ a b. cond a (refused 4) (cond b (refused 5) (cond (refuses6 s) (refused 6) (cond (refuses7 s) (refused 7) (sheet s))))) h4 h5)
    told-4 false false h4 h5 e = told-near h4 h5 few e

    pub tests_told : names_refused (names_of ss) ≡ false → {t : Tested}
        → t ≡ tested_as (nodes_of (all_nodes 0 0 cut_constraints)) (stored_lows ss) (stored_highs ss) (lefts_of (stored_constraints 0 0 cut_constraints)) (rights_of (stored_constraints 0 0 cut_constraints)) (any_of is_range_faulty ss || any_of is_integer_beyond (all_expressions cs)) (length (all_untils cut_constraints)) (length (all_firsts cut_constraints))
        → Told s t
    unfolding tested_as refuses5
    tests_told names e = told-4 (refuses4 s) (refuses5 s) refl refl (e ∙ ap (λ b. cond b (failed_as 4) (cond (refuses5 s) (failed_as 5) tested_near)) (unknown_refused names))
