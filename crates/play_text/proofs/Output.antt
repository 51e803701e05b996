-- The lines of a play table's printout by their places; without a refusal its whole text is the text of the play table; no line is longer than there is room for.
-- From the definitions, the laws of a text or a refusal (pages) and those of the crate print.
use Prim.Native.Nat.{ℕ, zero, suc, ◌+◌, ◌-◌, ◌*◌, ◌/◌, ◌≤◌, ◌<◌, min}
use native.Mathlib.Omega.{arith}
use native.Mathlib.Nat.{div-zero, div-lt_iff_lt-mul}
use mathlib.Core.Path.{◌≡◌, refl, sym, ◌∙◌, ap, ap₂}
use mathlib.Core.Logic.{◌⊎◌, inl, inr, ◌≢◌}
use mathlib.Core.Bool.{Bool, true, false, cond}
use mathlib.Core.List.{List, [], ◌++◌, map, append_assoc, append-nil}
use lib.Arith.{digits_div}
use lib.Dec.{eqb, leb}
use lib.IntN.{ℤ}
use lib.ListN.{length, get_or, get_or-eq_default}
use borrow.Author.Tests.{eq-eqb, ne_eqb, leb-true, leb-false}
use Rattle.std.specs.Prelude.{Option, None, Some, SomeIff, unwrap_or}
use Rattle.basics.proofs.Tests.{cond_cases}
use Rattle.meaning.specs.Expression.{Stream}
use Rattle.meaning.specs.Letter.{letter_count}
use Rattle.meaning.specs.Choice.{choice_count}
use Rattle.meaning.specs.Window.{join_over}
use Rattle.meaning.proofs.Letter.{positive-right}
use Rattle.sheet.specs.Names.{eight_bytes, ShortNames}
use Rattle.sheet.specs.Refusal.{letter_bound}
use Rattle.nodes.specs.Bounds.{lows_of, highs_of}
use Rattle.automaton.specs.Table.{no_state}
use Rattle.letters.specs.Described.{described, cut_count}
use Rattle.letters.proofs.Streams.{letter_count-unnamed}
use Rattle.table_text.specs.Table.{place_text}
use Rattle.print.specs.Lines.{lines_from, AllFit}
use Rattle.table_text.proofs.Places.{get_or-inside, nothing-beyond}
use Rattle.table_text.proofs.Table.{place-text, heading_stored}
use Rattle.print.proofs.Lengths.{heading_length}
use Rattle.pages.specs.Lines.{line_room}
use Rattle.pages.proofs.Output.{heading, place_short}
use Rattle.pages.proofs.Refused.{later-given, given-text, given-places, refused-places, short-or_refused}
use Rattle.play_text.specs.Play.{held_line, choices_text, states_text, play_text}
use Rattle.play_text.specs.Output.{PlayPrintout, held_text, play_line, play_at, play_places, play_output}

-- ---- what is held at a place

-- The quotient is 0 where there is no divisor.
pub quotient : (r : Option ℕ) (n d : ℕ) → SomeIff r (0 < d) (n / d) → unwrap_or r 0 ≡ n / d
quotient (Some q) n d h = h.1
quotient None n d h = let z : d ≡ 0 = omega (arith, h) in sym (ap (n /◌) z ∙ div-zero n)

module _ (choices : ℕ) (lows highs : List ℤ) (entries finals play : List ℕ) (place : ℕ) where
  -- the text of a number that stands there
  abbrev text_of : ℕ → List ℕ
  text_of letter = cond (eqb letter no_state) [] (place_text lows highs entries finals (place / choices * cut_count (letter_count (described lows highs)) + letter))

  pub held-beyond : length play ≤ place → [] ≡ held_text choices lows highs entries finals play place
  unfolding held_text
  held-beyond h = sym (ap text_of (get_or-eq_default play no_state h))

  module _ (inside : place < length play) where
    pub held-nothing : get_or play place 0 ≡ no_state → [] ≡ held_text choices lows highs entries finals play place
    unfolding held_text
    held-nothing e = sym (ap text_of (get_or-inside play place no_state 0 inside ∙ e))

    pub held-letter : get_or play place 0 ≢ no_state → {letters : ℕ} → letters ≡ cut_count (letter_count (described lows highs))
        → place_text lows highs entries finals (place / choices * letters + get_or play place 0) ≡ held_text choices lows highs entries finals play place
    unfolding held_text
    held-letter n e =
        ap (λ k. place_text lows highs entries finals (place / choices * k + get_or play place 0)) e
        ∙ sym (ap text_of (get_or-inside play place no_state 0 inside) ∙ ap (λ b. cond b [] (place_text lows highs entries finals (place / choices * cut_count (letter_count (described lows highs)) + get_or play place 0))) (ne_eqb (get_or play place 0) no_state n))

    -- A number that does not fit is that of no entry, and so is the largest.
    pub held-fitting : get_or play place 0 ≢ no_state → length entries < 18446744073709551616 → {state letters row held : ℕ} → letters ≡ cut_count (letter_count (described lows highs)) → state ≡ place / choices
        → row ≡ min (state * letters) 18446744073709551615 → held ≡ min (row + get_or play place 0) 18446744073709551615
        → place_text lows highs entries finals held ≡ held_text choices lows highs entries finals play place
    held-fitting n size {state} {letters} {row} {held} e s r h = by (leb (length entries) held) refl
      where
        whole : ℕ
        whole = place / choices * letters + get_or play place 0

        cut : held ≡ min whole 18446744073709551615
        cut = let m : state * letters ≡ place / choices * letters = ap (◌* letters) s in omega arith

        by : (t : Bool) → leb (length entries) held ≡ t → place_text lows highs entries finals held ≡ held_text choices lows highs entries finals play place
        by true t =
            let beyond = leb-true (length entries) held t in
            nothing-beyond lows highs entries finals held beyond
            ∙ sym (nothing-beyond lows highs entries finals whole (omega (arith, cut)))
            ∙ held-letter n e
        by false t =
            let inside = leb-false (length entries) held t in
            let same : held ≡ whole = omega (arith, cut) in
            ap (place_text lows highs entries finals) same ∙ held-letter n e

-- ---- the places

module _ (refusal states choices : ℕ) (play : List ℕ) {place : ℕ} where
  -- a refusal has one place,
  pub refused-place : (refusal ≡ 0 → ⊥) → place < play_places refusal states choices play → place ≡ 0
  refused-place n h = omega (arith, refused-places refusal n (suc (min (states * choices) (length play))))

  -- and else each place after the heading is that of a state and a choice
  pub state-place : refusal ≡ 0 → (place ≡ 0 → ⊥) → place < play_places refusal states choices play → (0 < choices) × ((place - 1) / choices < states)
  state-place z n h =
      let inside : place - 1 < states * choices = omega (arith, given-places refusal z (suc (min (states * choices) (length play)))) in
      let some = positive-right states choices inside in
      (some, (div-lt_iff_lt-mul some).1 inside)

module _ (p : PlayPrintout) (given : p.table.refusal ≡ 0) where
  pub held_after : {k : ℕ} → (k ≡ 0 → ⊥) → held_text p.choices p.table.lows p.table.highs p.table.entries p.table.finals p.play (k - 1) ≡ play_at p k
  held_after s = later-given p.table.refusal (play_line p) given s

-- ---- the whole text

-- a number of a play table is that of a letter, or 65,535
abbrev pub IsHeld : List Stream → (play : List ℕ) (place : ℕ) → Type 0
IsHeld ss play place = (get_or play place no_state ≡ no_state) ⊎ (get_or play place no_state < letter_count ss)

module _ (ss : List Stream) (few : length ss ≤ 8) (bounded : letter_count ss ≤ letter_bound) (entries finals play : List ℕ) where
  held-text : (state choice : ℕ) → choice < choice_count ss → IsHeld ss play (state * choice_count ss + choice)
      → held_text (choice_count ss) (lows_of ss) (highs_of ss) entries finals play (state * choice_count ss + choice) ≡ held_line ss entries finals play state choice
  unfolding held_text
  held-text state choice h (inl e) =
      let letter = get_or play (state * choice_count ss + choice) no_state in
      let none : (x : List ℕ) → cond (eqb letter no_state) [] x ≡ [] = λ x. ap (λ b. cond b [] x) (eq-eqb letter no_state e) in
      none _ ∙ sym (none _)
  held-text state choice h (inr l) =
      let letter = get_or play (state * choice_count ss + choice) no_state in
      let exact : cut_count (letter_count (described (lows_of ss) (highs_of ss))) ≡ letter_count ss = ap cut_count (letter_count-unnamed ss) ∙ omega arith in
      ap₂ (λ q k. cond (eqb letter no_state) [] (place_text (lows_of ss) (highs_of ss) entries finals (q * k + letter))) (digits_div state h) exact
      ∙ ap (cond (eqb letter no_state) []) (place-text ss entries finals few bounded state letter l)

  abbrev up_to : ℕ → List ℕ
  up_to n = lines_from (held_text (choice_count ss) (lows_of ss) (highs_of ss) entries finals play) 0 n

  choices-places : (state choice : ℕ) → choice ≤ choice_count ss → ((c : ℕ) → c < choice_count ss → IsHeld ss play (state * choice_count ss + c))
      → up_to (state * choice_count ss + choice) ≡ up_to (state * choice_count ss) ++ choices_text ss entries finals play state choice
  unfolding lines_from choices_text
  choices-places state zero h held = let e : state * choice_count ss + 0 ≡ state * choice_count ss = omega arith in ap up_to e ∙ sym (append-nil (up_to (state * choice_count ss)))
  choices-places state (suc choice) h held =
      let e : state * choice_count ss + suc choice ≡ suc (state * choice_count ss + choice) = omega arith in
      let z : 0 + (state * choice_count ss + choice) ≡ state * choice_count ss + choice = omega arith in
      ap up_to e ∙ ap₂ ◌++◌ (choices-places state choice (omega arith) held) (ap (held_text (choice_count ss) (lows_of ss) (highs_of ss) entries finals play) z ∙ held-text state choice h (held choice h))
      ∙ append_assoc (up_to (state * choice_count ss)) (choices_text ss entries finals play state choice) (held_line ss entries finals play state choice)

  states-places : (states : ℕ) → ((state choice : ℕ) → state < states → choice < choice_count ss → IsHeld ss play (state * choice_count ss + choice))
      → up_to (states * choice_count ss) ≡ states_text ss states entries finals play
  unfolding lines_from states_text
  states-places zero held = let e : 0 * choice_count ss ≡ 0 = omega arith in ap up_to e
  states-places (suc state) held =
      let e : suc state * choice_count ss ≡ state * choice_count ss + choice_count ss = omega arith in
      ap up_to e ∙ choices-places state (choice_count ss) (omega arith) (λ c l. held state c (omega arith) l)
      ∙ ap (λ l. l ++ choices_text ss entries finals play state (choice_count ss)) (states-places state λ i c h l. held i c (omega arith) l)

module _ (p : PlayPrintout) (given : p.table.refusal ≡ 0) {ss : List Stream} (few : length ss ≤ 8) (bounded : letter_count ss ≤ letter_bound) (short : ShortNames ss) (more_names more_lengths : List ℕ)
    (names : p.table.names ≡ join_over eight_bytes ss ++ more_names) (lengths : p.table.lengths ≡ map (λ x. length x.name) ss ++ more_lengths) (lows : p.table.lows ≡ lows_of ss) (highs : p.table.highs ≡ highs_of ss)
    (choices : p.choices ≡ choice_count ss) (fits : p.table.states * choice_count ss ≤ length p.play) (held : (state choice : ℕ) → state < p.table.states → choice < choice_count ss → IsHeld ss p.play (state * choice_count ss + choice)) where
  pub play-text : play_output p ≡ play_text ss p.table.states p.table.entries p.table.finals p.play
  unfolding play_text
  play-text =
      let used : min (p.table.states * p.choices) (length p.play) ≡ p.table.states * choice_count ss = ap (λ c. min (p.table.states * c) (length p.play)) choices ∙ omega arith in
      given-text p.table.refusal (play_line p) given (min (p.table.states * p.choices) (length p.play))
      ∙ ap₂ ◌++◌ (heading p.table ss more_names more_lengths names lengths lows ∙ heading_stored ss few short more_names more_lengths)
      ((λ i. lines_from (held_text (choices i) (lows i) (highs i) p.table.entries p.table.finals p.play) 0 (used i)) ∙ states-places ss few bounded p.table.entries p.table.finals p.play p.table.states held)

-- ---- how long a line is

module _ (p : PlayPrintout) (refusal : p.table.refusal < 4294967296) (lows : AllFit p.table.lows) (highs : AllFit p.table.highs) (entries : (i : ℕ) → get_or p.table.entries i 0 < 65536)
    (finals : (i : ℕ) → get_or p.table.finals i 0 < 256) (size : length p.table.entries < 18446744073709551616) where
  held-short : (place : ℕ) → length (held_text p.choices p.table.lows p.table.highs p.table.entries p.table.finals p.play place) ≤ line_room
  unfolding held_text
  held-short place =
      let letter = get_or p.play place no_state in
      let at = place / p.choices * cut_count (letter_count (described p.table.lows p.table.highs)) + letter in
      cond_cases (λ (l : List ℕ). length l ≤ line_room) (eqb letter no_state) {x = []} {y = place_text p.table.lows p.table.highs p.table.entries p.table.finals at} (λ t. omega arith)
      (λ t. place_short p.table refusal lows highs entries finals size at)

  play-short : (k : ℕ) → length (play_line p k) ≤ line_room
  play-short zero = omega (arith, heading_length p.table.names p.table.lengths (length p.table.lows))
  play-short (suc place) = held-short place

  pub line-short : (k : ℕ) → length (play_at p k) ≤ line_room
  line-short = short-or_refused p.table.refusal (play_line p) refusal play-short
