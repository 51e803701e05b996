-- Sheets that differ only in kinds have the same solution words, so that a stored table of one is a table of the other; a sheet over streams with other
-- kinds is one over these streams, and a record prints the same. From the laws of kinds (meaning) and of tables of equal sets (automaton).
use Prim.Native.Nat.{ℕ, suc}
use mathlib.Core.Path.{◌≡◌, refl, sym, ap, ap₂, subst, ◌∙◌}
use mathlib.Core.Bool.{cond}
use mathlib.Core.Logic.{◌↔◌}
use mathlib.Core.List.{List, [], ◌∷◌, ◌++◌}
use lib.IntN.{pos}
use lib.ListN.{length, get_or}
use Rattle.automaton.specs.Solutions.{SameSolutions}
use Rattle.automaton.specs.Stored.{StoredTable, entry_at}
use Rattle.automaton.proofs.Equality.{stored_transfer}
use Rattle.meaning.specs.Expression.{Stream, Sheet, Solution}
use Rattle.meaning.specs.Letter.{letter_count, letter_of, spell, SolutionWord}
use Rattle.meaning.specs.Interval.{SidesBelow}
use Rattle.meaning.specs.Scope.{NamesKnown}
use Rattle.meaning.specs.StreamKinds.{without_kinds, SameNamesAndRanges, DifferOnlyInKinds}
use Rattle.meaning.proofs.StreamKinds.{kinds-length, kinds-letter_count, kinds-letter_of, differ_sym, kinds-solution}
use Rattle.sheet.specs.Form.{names_of}
use Rattle.letters.specs.Described.{ranged}
use Rattle.letters.proofs.Streams.{unnamed}
use Rattle.records.specs.Line.{ValueLine, malformed, outside, letter, value_line}
use Rattle.record_names.specs.Line.{is_names_line}
use Rattle.records.proofs.Sheets.{value_line-unnamed}
use Rattle.print.specs.Text.{refusal_line}
use Rattle.replaying.specs.Replay.{replay_heading, line_then, entered, outcome_from, replayed, replayed_lines}
use Rattle.theorems.specs.Following.{HaveSameSolutions}

module _ {s t : Sheet} (d : DifferOnlyInKinds s t) where
  spelled_same : (x : ℕ → ℕ) → spell s.streams x ≡ spell t.streams x
  spelled_same x = λ j k i. get_or (kinds-letter_of d.streams (x i) j) k (pos 0)

  word_same : (x : ℕ → ℕ) → SolutionWord s x → SolutionWord t x
  word_same x h = record { solves = subst (Solution t) (spelled_same x) (kinds-solution d h.solves) }

pub words_same : {s t : Sheet} (k : ℕ) → DifferOnlyInKinds s t → SameSolutions k (SolutionWord s) (SolutionWord t)
words_same k d = record { to = λ x b. word_same d x; from = λ x b. word_same (differ_sym d) x }

pub table_same : {s t : Sheet} → DifferOnlyInKinds s t → {n : ℕ} {entries finals : List ℕ} → StoredTable (SolutionWord s) (letter_count s.streams) n entries finals
    → StoredTable (SolutionWord t) (letter_count t.streams) n entries finals
table_same {s} {t} d {n} {entries} {finals} h =
    stored_transfer (words_same (letter_count t.streams) d) (subst (λ k. StoredTable (SolutionWord s) k n entries finals) (kinds-letter_count d.streams) h)

-- A sheet over streams with other kinds.
abbrev pub over : List Stream → Sheet → Sheet
over ss q = record { streams = ss; constraints = q.constraints }

module _ (s q : Sheet) (same : SameNamesAndRanges q.streams s.streams) where
  pub over-differs : DifferOnlyInKinds q (over s.streams q)
  over-differs = record { streams = same; constraints = refl }

  pub over-known : NamesKnown q → NamesKnown (over s.streams q)
  over-known known = record { sides = λ c m. subst (λ n. SidesBelow n c) (kinds-length same) (known.sides c m) }

  pub over_solutions : HaveSameSolutions s (over s.streams q) ↔ HaveSameSolutions s q
  over_solutions = (
    (λ h. record { to = λ w x. kinds-solution (differ_sym over-differs) (h.to w x); from = λ w x. h.from w (kinds-solution over-differs x) }),
    λ h. record { to = λ w x. kinds-solution over-differs (h.to w x); from = λ w x. h.from w (kinds-solution (differ_sym over-differs) x) },
  )

-- ---- what a record prints

-- Without the kinds the streams have the same names and the same values of letters.
names-without : (ss : List Stream) → names_of (without_kinds ss) ≡ names_of ss
names-without [] = refl
names-without (s ∷ ss) = ap (λ l. s.name ∷ l) (names-without ss)

unnamed-without : (ss : List Stream) → unnamed (without_kinds ss) ≡ unnamed ss
unnamed-without [] = refl
unnamed-without (s ∷ ss) = ap (λ l. ranged s.range.low s.range.high ∷ l) (unnamed-without ss)

module _ {ss ts : List Stream} (same : SameNamesAndRanges ss ts) where
  pub names_same : names_of ss ≡ names_of ts
  names_same = sym (names-without ss) ∙ ap names_of same.same ∙ names-without ts

  pub line_same : (l : List ℕ) → value_line ss l ≡ value_line ts l
  line_same l = sym (value_line-unnamed ss l) ∙ ap (λ us. value_line us l) (sym (unnamed-without ss) ∙ ap unnamed same.same ∙ unnamed-without ts) ∙ value_line-unnamed ts l

module _ {ss ts : List Stream} (same : SameNamesAndRanges ss ts) (entries : List ℕ) where
  replayed-same : (ls : List (List ℕ)) (number state : ℕ) → replayed ss entries number state ls ≡ replayed ts entries number state ls
  unfolding replayed
  replayed-same [] number state = refl
  replayed-same (l ∷ ls) number state =
      ap (λ v. line_then number (λ next. replayed ss entries (suc number) next ls) (outcome_from ss entries state v)) (line_same same l)
      ∙ ap (λ f. line_then number f (outcome_from ss entries state (value_line ts l))) (λ j next. replayed-same ls (suc number) next j)
      ∙ ap (line_then number (λ next. replayed ts entries (suc number) next ls)) (entered-same (value_line ts l))
    where
      entered-same : (v : ValueLine) → outcome_from ss entries state v ≡ outcome_from ts entries state v
      entered-same malformed = refl
      entered-same outside = refl
      entered-same (letter a) = ap (λ k. entered (entry_at k entries state a)) (kinds-letter_count same)

  pub printed-same : (ls : List (List ℕ)) (state : ℕ) → replayed_lines ss entries state ls ≡ replayed_lines ts entries state ls
  unfolding replayed_lines
  printed-same [] state = refl
  printed-same (l ∷ ls) state = ap₂ (λ ns printed. cond (is_names_line ns l) (replay_heading ++ printed) (refusal_line 13)) (names_same same) (replayed-same ls 1 state)
