-- The lines of a course's printout by their places; without a refusal its whole text is the text of the course; no line is longer than there is room for.
-- From the definitions, the laws of a text or a refusal (pages) and those of the crate print.
use Prim.Native.Nat.{ℕ, zero, suc, ◌-◌, ◌≤◌, ◌<◌, min}
use native.Mathlib.Omega.{arith}
use mathlib.Core.Path.{◌≡◌, refl, sym, ◌∙◌, ap, ap₂}
use mathlib.Core.Bool.{true, false, cond}
use mathlib.Core.List.{List, [], ◌∷◌, ◌++◌, map}
use lib.IntN.{ℤ}
use lib.ListN.{length, get_or, take, length-map, get_or-eq_default}
use Rattle.basics.proofs.Tests.{cond_cases, true_of_T}
use Rattle.basics.proofs.Lists.{get_d_map}
use Rattle.basics.proofs.Reflects.{from_true}
use Rattle.meaning.specs.Expression.{Stream}
use Rattle.meaning.specs.Letter.{letter_count, letter_of}
use Rattle.meaning.specs.Window.{join_over}
use Rattle.meaning.proofs.Letter.{letter_of-letter}
use Rattle.sheet.specs.Form.{names_of}
use Rattle.sheet.specs.Refusal.{letter_bound}
use Rattle.sheet.specs.Names.{eight_bytes, ShortNames}
use Rattle.nodes.specs.Bounds.{lows_of, highs_of}
use Rattle.nodes.proofs.Record.{letter-length}
use Rattle.automaton.specs.Words.{AllBelow}
use Rattle.letters.specs.Described.{described, has_letter, with_letter}
use Rattle.letters.proofs.Counts.{length-described}
use Rattle.letters.proofs.Streams.{unnamed, letter_of-unnamed, letter_reflects}
use Rattle.print.specs.Text.{decimal, tokens_line}
use Rattle.print.specs.Lines.{lines_from, stored_names, AllFit}
use Rattle.print.proofs.Names.{stored-names}
use Rattle.table_text.proofs.Places.{letter-front}
use Rattle.table_text.proofs.Table.{has_letter_lem}
use Rattle.print.proofs.Lengths.{names-line-length, numbers-line-length, letter-fits}
use Rattle.pages.specs.Lines.{line_room}
use Rattle.pages.proofs.Lines.{first-line}
use Rattle.pages.proofs.Refused.{later-given, given-text, short-or_refused}
use Rattle.course_text.specs.Course.{letter_line, course_text}
use Rattle.course_text.specs.Output.{CoursePrintout, values_text, course_line, course_at, course_output}

-- ---- the values of a letter

module _ (lows highs : List ℤ) (n : ℕ) where
  abbrev streams : List Stream
  streams = described lows highs

  pub no_values : has_letter streams n 8 ≡ false → [] ≡ values_text lows highs n
  unfolding values_text
  no_values e = sym (ap (λ t. cond t (letter_line streams n) []) e)

  module _ (h : has_letter streams n 8 ≡ true) where
    pub few_streams : min (length lows) (length highs) ≤ 8
    few_streams = omega (arith, (from_true (letter_reflects streams n 8) h).fits, length-described lows highs)

    pub values-there : {k : ℕ} → k ≡ min (length lows) (length highs) → (out : List ℤ) → length out ≡ 8 → {values : List ℤ} → values ≡ with_letter streams n out
        → tokens_line (map decimal (take k values)) ≡ values_text lows highs n
    unfolding values_text
    values-there s out l w =
        ap (λ v. tokens_line (map decimal v)) (letter-front streams n h out l w (s ∙ sym (length-described lows highs)))
        ∙ sym (ap (λ t. cond t (letter_line streams n) []) h)

-- ---- the lines after the names

module _ (p : CoursePrintout) (given : p.refusal ≡ 0) {k : ℕ} (s : k ≡ 0 → ⊥) where
  pub values-after : k - 1 < length p.course → values_text p.lows p.highs (get_or p.course (k - 1) 0) ≡ course_at p k
  values-after h = sym (get_d_map (values_text p.lows p.highs) p.course (k - 1) 0 [] h) ∙ later-given p.refusal (course_line p) given s

  pub nothing-behind : length p.course ≤ k - 1 → [] ≡ course_at p k
  nothing-behind h =
      sym (get_or-eq_default (map (values_text p.lows p.highs) p.course) [] (omega (arith, length-map p.course (values_text p.lows p.highs))))
      ∙ later-given p.refusal (course_line p) given s

-- ---- the whole text

module _ (ss : List Stream) (few : length ss ≤ 8) (bounded : letter_count ss ≤ letter_bound) where
  letter-text : (n : ℕ) → n < letter_count ss → values_text (lows_of ss) (highs_of ss) n ≡ letter_line ss n
  unfolding values_text
  letter-text n h =
      ap (λ t. cond t (letter_line (unnamed ss) n) []) (has_letter_lem ss few bounded n h) ∙ ap (λ l. tokens_line (map decimal l)) (letter_of-unnamed ss n)

  -- The lines of all letters, one after the other.
  letter-lines : (course : List ℕ) → AllBelow (letter_count ss) course
      → lines_from (λ i. get_or (map (values_text (lows_of ss) (highs_of ss)) course) i []) 0 (length course) ≡ join_over (letter_line ss) course
  unfolding lines_from
  letter-lines [] below = refl
  letter-lines (n ∷ course) below =
      first-line (λ i. get_or (map (values_text (lows_of ss) (highs_of ss)) (n ∷ course)) i []) (length course)
      ∙ ap₂ ◌++◌ (letter-text n below.0) (letter-lines course below.1)

  module _ (short : ShortNames ss) (p : CoursePrintout) (given : p.refusal ≡ 0) (more_names more_lengths : List ℕ) (names : p.names ≡ join_over eight_bytes ss ++ more_names)
      (lengths : p.lengths ≡ map (λ x. length x.name) ss ++ more_lengths) (lows : p.lows ≡ lows_of ss) (highs : p.highs ≡ highs_of ss) (below : AllBelow (letter_count ss) p.course) where
    names-text : course_line p 0 ≡ tokens_line (names_of ss)
    names-text =
        let n : min (length p.lows) 8 ≡ length ss = omega (arith, ap length lows, length-map ss (λ s. s.range.low)) in
        ap tokens_line (ap₂ (λ a b. stored_names a b (min (length p.lows) 8)) names lengths
        ∙ ap (stored_names (join_over eight_bytes ss ++ more_names) (map (λ x. length x.name) ss ++ more_lengths)) n ∙ stored-names more_names more_lengths ss short)

    pub course-text : course_output p ≡ course_text ss p.course
    course-text =
        given-text p.refusal (course_line p) given (length p.course)
        ∙ ap₂ ◌++◌ names-text (ap₂ (λ l h. lines_from (λ i. get_or (map (values_text l h) p.course) i []) 0 (length p.course)) lows highs ∙ letter-lines p.course below)

-- ---- how long a line is

module _ (p : CoursePrintout) (refusal : p.refusal < 4294967296) (lows : AllFit p.lows) (highs : AllFit p.highs) where
  values-short : (n : ℕ) → length (values_text p.lows p.highs n) ≤ line_room
  unfolding values_text
  values-short n =
      let ss = described p.lows p.highs in
      cond_cases (λ (l : List ℕ). length l ≤ line_room) (has_letter ss n 8) {x = letter_line ss n} {y = []}
      (λ t.
      let f = from_true (letter_reflects ss n 8) (true_of_T (has_letter ss n 8) t) in
      let l = letter_of-letter ss n f.known in
      omega (arith, numbers-line-length (letter_of ss n) (letter-fits p.lows p.highs (letter_of ss n) lows highs l) (omega (arith, letter-length l, f.fits))))
      (λ t. omega arith)

  letter-short : (course : List ℕ) (i : ℕ) → length (get_or (map (values_text p.lows p.highs) course) i []) ≤ line_room
  letter-short [] i = omega arith
  letter-short (n ∷ course) zero = values-short n
  letter-short (n ∷ course) (suc i) = letter-short course i

  course-short : (k : ℕ) → length (course_line p k) ≤ line_room
  course-short zero = omega (arith, names-line-length p.names p.lengths (length p.lows))
  course-short (suc i) = letter-short p.course i

  pub line-short : (k : ℕ) → length (course_at p k) ≤ line_room
  line-short = short-or_refused p.refusal (course_line p) refusal course-short
