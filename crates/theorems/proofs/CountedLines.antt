-- Lines counted by a value: which lines a number counts, lines in two parts, and the sum over the values of a stream; the first line with a fault, and
-- records that are bad or good; and streams with the same names and ranges. From the laws of counts and of sums (tally), of letters (records) and of kinds
-- (KindsApart), by induction over the lines.
use Prim.Native.Nat.{ℕ, zero, suc, ◌+◌, ◌≤◌, ◌<◌}
use native.Mathlib.Omega.{arith}
use native.Mathlib.Numerals.{one-add}
use mathlib.Core.Path.{◌≡◌, refl, sym, ◌∙◌, ap, ap₂, subst}
use mathlib.Core.Logic.{◌↔◌, ◌⊎◌, inl, inr}
use mathlib.Core.Bool.{Bool, true, false, cond}
use mathlib.Core.List.Memᴰ
use mathlib.Core.List.{List, [], ◌∷◌, ◌++◌, Memᴰ}
use mathlib.Core.Option.{Option, none, some}
use lib.Dec.{T}
use lib.IntN.{ℤ, pos, nat_abs, ◌+ℤ◌, ◌-ℤ◌}
use lib.ListN.{length, get_or, drop}
use Rattle.basics.specs.Count.{NoRepeats, CountOf}
use Rattle.basics.proofs.Count.{count_same}
use Rattle.basics.proofs.Tests.{T-of_true}
use Rattle.meaning.specs.Expression.{Stream, range_of}
use Rattle.meaning.specs.Letter.{size}
use Rattle.meaning.specs.StreamKinds.{SameNamesAndRanges}
use Rattle.meaning.proofs.Letter.{letter-within, within-size}
use Rattle.meaning.proofs.StreamKinds.{kinds-length, kinds-range_of}
use Rattle.meaning.proofs.Value.{compares-equal}
use Rattle.sheet.specs.Form.{names_of}
use Rattle.nodes.proofs.Record.{letter-length}
use Rattle.print.specs.Lines.{lines_from}
use Rattle.records.specs.Line.{ValueLine, malformed, outside, letter, line_values, value_line, IsLetterLine, AreLetters}
use Rattle.record_names.specs.Line.{is_names_line}
use Rattle.records.proofs.Letters.{letter-line}
use Rattle.held_lines.specs.Counts.{how_many, holds_value, lines_holding}
use Rattle.tally.specs.Faults.{line_fault, first_of, values_fault, record_fault}
use Rattle.held_lines.specs.Held.{sum_below}
use Rattle.held_lines.proofs.Sums.{hit, sum_same, sum_add, sum-none, sum_one}
use Rattle.held_lines.proofs.Digits.{value-digit}
use Rattle.held_lines.proofs.Held.{how_many-more}
use Rattle.histogram_text.specs.Histogram.{histogram_heading, count_line, total_line, range_value, histogram_text, text_or, counted_text}
use Rattle.theorems.specs.Histograms.{LineHolds, summed_counts, FirstFaultyLine, BadRecord, no_names, other_names, faulty_line, GoodRecord}
use Rattle.theorems.proofs.KindsApart.{names_same, line_same}

-- ---- how many members pass a test

module _ {X : Type 0} (test : X → Bool) where
  pub how_many-parts : (xs ys : List X) → how_many test (xs ++ ys) ≡ how_many test xs + how_many test ys
  unfolding how_many
  how_many-parts [] ys = omega arith
  how_many-parts (x ∷ xs) ys =
      let rest = how_many-parts xs ys in
      let whole = how_many-more test x (xs ++ ys) in
      let first = how_many-more test x xs in
      omega arith

  -- The places of the members that pass, counted from a number on.
  places_from : ℕ → List X → List ℕ
  places_from from [] = []
  places_from from (x ∷ xs) = cond (test x) (from ∷ places_from (suc from) xs) (places_from (suc from) xs)

  places-length : (from : ℕ) (xs : List X) → length (places_from from xs) ≡ how_many test xs
  unfolding places_from how_many
  places-length from [] = refl
  places-length from (x ∷ xs) = by (test x) (places-length (suc from) xs)
    where
      by : (t : Bool) → length (places_from (suc from) xs) ≡ how_many test xs
          → length (cond t (from ∷ places_from (suc from) xs) (places_from (suc from) xs)) ≡ cond t (suc (how_many test xs)) (how_many test xs)
      by true e = ap suc e
      by false e = e

  -- The member at a place, counted from a number on, passes; beyond the list stands another.
  pub record PassesAt (beyond : X) (from : ℕ) (xs : List X) (place : ℕ) : Type 0 where
    pub number : ℕ
    pub at : place ≡ from + number
    pub there : number < length xs
    pub passes : T (test (get_or xs number beyond))

  module _ (beyond : X) where
    passes_later : {from place : ℕ} {x : X} {xs : List X} → PassesAt beyond (suc from) xs place → PassesAt beyond from (x ∷ xs) place
    passes_later p = record { number = suc p.number; at = let e = p.at in omega arith; there = let h = p.there in omega arith; passes = p.passes }

    places_found : (from : ℕ) (xs : List X) (place : ℕ) → Memᴰ place (places_from from xs) → PassesAt beyond from xs place
    unfolding places_from
    places_found from [] place m = absurd (Memᴰ.not-nil m)
    places_found from (x ∷ xs) place m = by (test x) refl m (places_found (suc from) xs place)
      where
        by : (t : Bool) → test x ≡ t → Memᴰ place (cond t (from ∷ places_from (suc from) xs) (places_from (suc from) xs))
            → (Memᴰ place (places_from (suc from) xs) → PassesAt beyond (suc from) xs place) → PassesAt beyond from (x ∷ xs) place
        by true e (Memᴰ.head h) later = record { number = 0; at = omega arith; there = omega arith; passes = T-of_true (test x) e }
        by true e (Memᴰ.tail k) later = passes_later (later k)
        by false e k later = passes_later (later k)

    places_every : (from : ℕ) (xs : List X) (place : ℕ) → PassesAt beyond from xs place → Memᴰ place (places_from from xs)
    unfolding places_from
    places_every from [] place p = absurd (omega (arith, p.there))
    places_every from (x ∷ xs) place p = by (test x) refl p.number p.at p.there p.passes (places_every (suc from) xs place)
      where
        by : (t : Bool) → test x ≡ t → (n : ℕ) → place ≡ from + n → n < suc (length xs) → T (test (get_or (x ∷ xs) n beyond))
            → (PassesAt beyond (suc from) xs place → Memᴰ place (places_from (suc from) xs))
            → Memᴰ place (cond t (from ∷ places_from (suc from) xs) (places_from (suc from) xs))
        by true e zero at h passes later = let z : place ≡ from = omega arith in Memᴰ.head z
        by true e (suc n) at h passes later = Memᴰ.tail (later (record { number = n; at = omega arith; there = omega arith; passes = passes }))
        by false e zero at h passes later = absurd (subst T e passes)
        by false e (suc n) at h passes later = later (record { number = n; at = omega arith; there = omega arith; passes = passes })

    places_distinct : (from : ℕ) (xs : List X) → NoRepeats (places_from from xs)
    unfolding places_from
    places_distinct from [] = tt
    places_distinct from (x ∷ xs) = by (test x) (places_distinct (suc from) xs)
      where
        by : (t : Bool) → NoRepeats (places_from (suc from) xs) → NoRepeats (cond t (from ∷ places_from (suc from) xs) (places_from (suc from) xs))
        by true d = (λ m. let p = places_found (suc from) xs from m in omega (arith, p.at), d)
        by false d = d

    pub places_counted : (xs : List X) → CountOf (PassesAt beyond 0 xs) (how_many test xs)
    places_counted xs =
        record { list = places_from 0 xs; distinct = places_distinct 0 xs; found = places_found 0 xs; every = places_every 0 xs; count = places-length 0 xs }

-- A line that is a letter has a value for each stream.
values-written : (ss : List Stream) (ls : List (List ℕ)) → AreLetters ss ls → (number : ℕ) → number < length ls → length (line_values (get_or ls number [])) ≡ length ss
values-written ss [] h number there = absurd (omega arith)
values-written ss (l ∷ ls) h zero there = letter-length (letter-line ss l h.0).0
values-written ss (l ∷ ls) h (suc number) there = values-written ss ls h.1 number (omega arith)

-- The lines that hold a value.
pub holding_counted : (ss : List Stream) (stream : ℕ) → stream < length ss → (value : ℤ) (ls : List (List ℕ)) → AreLetters ss ls → CountOf (LineHolds stream value ls) (lines_holding stream value ls)
holding_counted ss stream known value ls letters = count_same to from (places_counted (holds_value stream value) [] ls)
  where
    to : (number : ℕ) → PassesAt (holds_value stream value) [] 0 ls number → LineHolds stream value ls number
    to number p =
        let e : p.number ≡ number = omega (arith, p.at) in
        let passes = subst (λ n. T (holds_value stream value (get_or ls n []))) e p.passes in
        let there : number < length ls = omega (arith, p.there) in
        record { there = there; written = omega (arith, values-written ss ls letters number there); same = (compares-equal (get_or (line_values (get_or ls number [])) stream (pos 0)) value).0 passes }

    from : (number : ℕ) → LineHolds stream value ls number → PassesAt (holds_value stream value) [] 0 ls number
    from number h = record { number = number; at = omega arith; there = h.there; passes = (compares-equal (get_or (line_values (get_or ls number [])) stream (pos 0)) value).1 h.same }

-- ---- the values of a stream

module _ (ss : List Stream) where
  -- The lines that are letters hold one value of the range each.
  pub counts-sum : (stream : ℕ) → stream < length ss → (ls : List (List ℕ)) → AreLetters ss ls → summed_counts ss ls stream ≡ length ls
  unfolding how_many
  counts-sum stream known [] h = sum-none (λ digit. 0) (size (range_of ss stream)) (λ digit b. refl)
  counts-sum stream known (l ∷ ls) h =
      let held = get_or (line_values l) stream (pos 0) in
      let low = (range_of ss stream).low in
      let inside = letter-within (letter-line ss l h.0).0 stream known in
      let rest : ℕ → ℕ = λ digit. lines_holding stream (range_value ss stream digit) ls in
      sum_same (λ digit. lines_holding stream (range_value ss stream digit) (l ∷ ls)) (λ digit. hit (nat_abs (held -ℤ low)) digit + rest digit) (size (range_of ss stream))
      (λ digit b.
      how_many-more (holds_value stream (range_value ss stream digit)) l ls ∙ ap (λ t. cond t 1 0 + rest digit) (value-digit low held inside.above digit))
      ∙ sum_add (hit (nat_abs (held -ℤ low))) rest (size (range_of ss stream))
      ∙ ap₂ ◌+◌ (sum_one (size (range_of ss stream)) (nat_abs (held -ℤ low)) (within-size (range_of ss stream) held inside)) (counts-sum stream known ls h.1) ∙ one-add (length ls)

  -- ---- the first line with a fault

  letter_unfaulted : (l : List ℕ) → IsLetterLine ss l → line_fault (value_line ss l) ≡ none
  letter_unfaulted l h = ap line_fault h

  unfaulted_letter : (l : List ℕ) → line_fault (value_line ss l) ≡ none → IsLetterLine ss l
  unfaulted_letter l e = go (value_line ss l) refl e
    where
      go : (v : ValueLine) → value_line ss l ≡ v → line_fault v ≡ none → IsLetterLine ss l
      go malformed q f = let z : ◌≡◌ {A = ℕ} 0 1 = cc in absurd (omega arith)
      go outside q f = let z : ◌≡◌ {A = ℕ} 0 1 = cc in absurd (omega arith)
      go (letter a) q f = q ∙ ap letter (letter-line ss l q).1

  pub letters_unfaulted : (ls : List (List ℕ)) → AreLetters ss ls → values_fault ss ls ≡ none
  unfolding values_fault
  letters_unfaulted [] h = refl
  letters_unfaulted (l ∷ ls) h = ap (λ f. first_of f (values_fault ss ls)) (letter_unfaulted l h.0) ∙ letters_unfaulted ls h.1

  pub faulty-refused : {ls : List (List ℕ)} {n : ℕ} → FirstFaultyLine ss ls n → values_fault ss ls ≡ some n
  unfolding values_fault
  faulty-refused {n = n} f = ap (values_fault ss) f.split ∙ go f.before f.letters
    where
      go : (before : List (List ℕ)) → AreLetters ss before → values_fault ss (before ++ (f.line ∷ f.after)) ≡ some n
      go [] h = ap (λ x. first_of x (values_fault ss f.after)) f.fault
      go (l ∷ ls) h = ap (λ x. first_of x (values_fault ss (ls ++ (f.line ∷ f.after)))) (letter_unfaulted l h.0) ∙ go ls h.1

  later-fault : {l : List ℕ} {ls : List (List ℕ)} {n : ℕ} → IsLetterLine ss l → FirstFaultyLine ss ls n → FirstFaultyLine ss (l ∷ ls) n
  later-fault {l} h f = record { before = l ∷ f.before; line = f.line; after = f.after; split = ap (λ ls. l ∷ ls) f.split; letters = (h, f.letters); fault = f.fault }

  pub letters_or_fault : (ls : List (List ℕ)) → AreLetters ss ls ⊎ ((n : ℕ) × FirstFaultyLine ss ls n)
  letters_or_fault [] = inl tt
  letters_or_fault (l ∷ ls) = go (line_fault (value_line ss l)) refl (letters_or_fault ls)
    where
      go : (o : Option ℕ) → line_fault (value_line ss l) ≡ o → AreLetters ss ls ⊎ ((n : ℕ) × FirstFaultyLine ss ls n) → AreLetters ss (l ∷ ls) ⊎ ((n : ℕ) × FirstFaultyLine ss (l ∷ ls) n)
      go (some n) e rest = inr (n, record { before = []; line = l; after = ls; split = refl; letters = tt; fault = e })
      go none e (inl h) = inl (unfaulted_letter l e, h)
      go none e (inr f) = inr (f.0, later-fault (unfaulted_letter l e) f.1)

  -- ---- bad records and good ones

  pub bad_fault : {ls : List (List ℕ)} {n : ℕ} → BadRecord ss ls n → record_fault ss ls ≡ some n
  unfolding record_fault
  bad_fault no_names = refl
  bad_fault (other_names {l} {ls} e) = ap (λ t. cond t (values_fault ss ls) (some 13)) e
  bad_fault (faulty_line {l} {ls} e f) = ap (λ t. cond t (values_fault ss ls) (some 13)) e ∙ faulty-refused f

  pub good_fault : {ls : List (List ℕ)} → GoodRecord ss ls → record_fault ss ls ≡ none
  unfolding record_fault
  good_fault g = ap (record_fault ss) g.split ∙ ap (λ t. cond t (values_fault ss g.values) (some 13)) g.named ∙ letters_unfaulted g.values g.letters

  pub good_or_bad : (ls : List (List ℕ)) → GoodRecord ss ls ⊎ ((n : ℕ) × BadRecord ss ls n)
  good_or_bad [] = inr (13, no_names)
  good_or_bad (l ∷ ls) = go (is_names_line (names_of ss) l) refl (letters_or_fault ls)
    where
      go : (t : Bool) → is_names_line (names_of ss) l ≡ t → AreLetters ss ls ⊎ ((n : ℕ) × FirstFaultyLine ss ls n) → GoodRecord ss (l ∷ ls) ⊎ ((n : ℕ) × BadRecord ss (l ∷ ls) n)
      go false e rest = inr (13, other_names e)
      go true e (inl h) = inl (record { names = l; values = ls; split = refl; named = e; letters = h })
      go true e (inr f) = inr (f.0, faulty_line e f.1)

-- ---- streams with the same names and ranges

module _ {ss ts : List Stream} (same : SameNamesAndRanges ss ts) where
  first-fault-same : (ls : List (List ℕ)) → values_fault ss ls ≡ values_fault ts ls
  unfolding values_fault
  first-fault-same [] = refl
  first-fault-same (l ∷ ls) = ap₂ (λ v f. first_of (line_fault v) f) (line_same same l) (first-fault-same ls)

  record_fault-same : (ls : List (List ℕ)) → record_fault ss ls ≡ record_fault ts ls
  unfolding record_fault
  record_fault-same [] = refl
  record_fault-same (l ∷ ls) = ap₂ (λ ns f. cond (is_names_line ns l) f (some 13)) (names_same same) (first-fault-same ls)

  text_same : (ls : List (List ℕ)) → histogram_text ss ls ≡ histogram_text ts ls
  unfolding histogram_text
  text_same ls =
      let names = names_same same in
      let range = kinds-range_of same in
      λ i.
      histogram_heading
      ++ (lines_from (λ stream. lines_from (λ digit. count_line (get_or (names i) stream []) ((range stream i).low +ℤ pos digit) (lines_holding stream ((range stream i).low +ℤ pos digit) ls)) 0 (size (range stream i))) 0 (kinds-length same i)
      ++ total_line (length ls))

  pub counted_same : (ls : List (List ℕ)) → counted_text ss ls ≡ counted_text ts ls
  unfolding counted_text
  counted_same ls = ap₂ text_or (record_fault-same ls) (text_same (drop 1 ls))
