-- What `replay` prints: the file to open for request S-1 of document 02. First for any streams and entries, over the lines of a record and over its
-- text: a line for each state reached, then nothing or the refusal of the first line with a fault; and a record cut in two. Then for the table of
-- an accepted sheet, as a call of the compile leaves it (`CompileCall`): the states printed are those that the proved step gives along the used
-- rows, 12 is printed exactly where the step gives it, and lines that are letters play through exactly if they begin a solution. Last for the
-- program's own texts, the sheet, the record and the start (`Plays` of the crate opening): a record cut in two. From the laws of lines that are
-- played (`Plays`), of a record's text (`RecordTexts`), of steps (`Steps`) and of calls (`Demands`), and of what is printed (opening).
use Prim.Native.Nat.{ℕ, ◌+◌, ◌≤◌, ◌<◌}
use native.Mathlib.Omega.{arith}
use mathlib.Core.Path.{◌≡◌, refl, sym, ◌∙◌, ap, ap₂, subst}
use mathlib.Core.Logic.{◌↔◌, ◌⊎◌, inl, inr}
use mathlib.Core.Bool.{true, false, cond}
use mathlib.Core.List.Memᴰ
use mathlib.Core.List.{List, [], ◌∷◌, ◌++◌, append_assoc, append-nil}
use mathlib.Core.Option.{Option, none, some}
use lib.IntN.{pos}
use lib.ListN.{length, take, get_or}
use lib.Seq.{take-length}
use Rattle.automaton.specs.Words.{AllBelow}
use Rattle.automaton.specs.Table.{no_state, walk}
use Rattle.automaton.specs.Stored.{entry_at}
use Rattle.automaton.proofs.Paths.{entry-state}
use Rattle.automaton.proofs.WellFormed.{table-entries}
use Rattle.automaton.proofs.Course.{path-rows}
use Rattle.text.specs.Bytes.{Token, lines}
use Rattle.meaning.specs.Expression.{Stream, Sheet}
use Rattle.meaning.specs.Letter.{IsLetter, OfLetters, letter_count, letter_number}
use Rattle.meaning.specs.StreamKinds.{SameNamesAndRanges}
use Rattle.meaning.proofs.Letter.{letter_number-bound}
use Rattle.sheet.specs.Form.{names_of}
use Rattle.outcome.specs.Compile.{CompileAnswer, Room, Tables, CompileCall}
use Rattle.step.specs.Step.{refused_step, StepAnswer}
use Rattle.step.specs.Followed.{Followed}
use Rattle.print.specs.Text.{decimal, refusal_line}
use Rattle.records.proofs.Letters.{letter-line}
use Rattle.records.specs.Line.{line_values, record_of_lines, IsLetterLine, AreLetters, letters_of}
use Rattle.record_names.specs.Line.{is_names_line}
use Rattle.replaying.specs.Replay.{replay_heading, replayed, replayed_lines}
use Rattle.lend.specs.Lend.{CompiledLent}
use Rattle.opening.specs.Start.{start_state}
use Rattle.opening.specs.Plays.{Plays, played}
use Rattle.opening.proofs.StartLaws.{start-below, start-written}
use Rattle.opening.proofs.Plays.{plays_unique}
use Rattle.theorems.specs.Following.{BeginsSolution, HaveSameSolutions}
use Rattle.theorems.specs.UsedRows.{used_bytes}
use Rattle.theorems.specs.Replaying.{state_lines, refusal_text, replay_text, under_names, EndsWithLine, SameStatesPrinted, states_reached, refusal_met, PlaysThrough, Fault, FirstFault}
use Rattle.theorems.proofs.Following.{all-below}
use Rattle.theorems.proofs.Steps.{path_from↔steps, missing↔refused_12}
use Rattle.theorems.proofs.Demands.{ReadAs, path↔solution, few_states, table-stored, equal_rows↔same_solutions}
use Rattle.theorems.proofs.KindsApart.{printed-same}
use Rattle.theorems.proofs.Plays.{state_lines-append, lines-printed, states-cut, refusal-cut, through_states, through_unrefused, fault-states, fault-refusal, plays_or_fault, unrefused↔through, refusal↔fault, letters-fault, through↔path, prefix↔states, refused_12↔letter, rows-printed}
use Rattle.theorems.proofs.RecordTexts.{named-lines, cut-lines}

module _ (ss : List Stream) (entries : List ℕ) where
  -- ---- what is printed of value lines

  -- "one such line per value line, counted from 1, with the state reached": a line for each state reached, and then the refusal's line, if there is
  -- a refusal.
  pub replayed-states : (ls : List (List ℕ)) (number state : ℕ)
      → replayed ss entries number state ls ≡ state_lines number (states_reached ss entries state ls) ++ refusal_text (refusal_met ss entries state ls)
  replayed-states ls number state = lines-printed ss entries ls number state

  -- Every record plays through or has a first line with a fault, and the refusal is none or the number of that fault;
  pub through_or_fault : (ls : List (List ℕ)) (state : ℕ) → ((last : ℕ) × PlaysThrough ss entries state ls last) ⊎ ((n : ℕ) × FirstFault ss entries state ls n)
  through_or_fault ls state = plays_or_fault ss entries ls state

  pub no_refusal↔through : (ls : List (List ℕ)) (state : ℕ) → (refusal_met ss entries state ls ≡ none) ↔ ((last : ℕ) × PlaysThrough ss entries state ls last)
  no_refusal↔through ls state = unrefused↔through ss entries ls state

  pub refusal↔first_fault : (ls : List (List ℕ)) (state n : ℕ) → (refusal_met ss entries state ls ≡ some n) ↔ FirstFault ss entries state ls n
  refusal↔first_fault ls state n = refusal↔fault ss entries ls state n

  -- if it plays through, a line is printed for each of its lines, no refusal, and it ends in the state printed last, or where it began;
  pub replayed_through : {ls : List (List ℕ)} {state last : ℕ} (number : ℕ) → PlaysThrough ss entries state ls last
      → (replayed ss entries number state ls ≡ state_lines number (states_reached ss entries state ls))
      × (length (states_reached ss entries state ls) ≡ length ls)
      × (last ≡ get_or (state ∷ states_reached ss entries state ls) (length ls) 0)
  replayed_through {ls} {state} {last} number p = (
    lines-printed ss entries ls number state
        ∙ ap (λ r. state_lines number (states_reached ss entries state ls) ++ refusal_text r) (through_unrefused ss entries p)
        ∙ append-nil (state_lines number (states_reached ss entries state ls)),
    through_states ss entries p,
    ((prefix↔states ss entries (length ls) ls state last (omega arith)).0 (rw (take-length ls) p)).1,
  )

  -- else "the first line with a fault decides, in the order 13, 14, 12, and the lines printed before it remain".
  pub replayed-fault : {ls : List (List ℕ)} {state n : ℕ} (number : ℕ) (f : FirstFault ss entries state ls n)
      → replayed ss entries number state ls ≡ replayed ss entries number state f.before ++ refusal_line n
  replayed-fault {ls} {state} {n} number f =
      lines-printed ss entries ls number state
      ∙ ap₂ (λ states r. state_lines number states ++ refusal_text r) (fault-states ss entries f) (fault-refusal ss entries f)
      ∙ ap (◌++ refusal_line n) (sym (replayed_through number f.plays).0)

  -- ---- the whole record

  -- "prints `line state`, then one such line per value line, counted from 1"
  pub record_printed : (names : List ℕ) (ls : List (List ℕ)) (state : ℕ) → is_names_line (names_of ss) names ≡ true
      → replayed_lines ss entries state (names ∷ ls) ≡ replay_text (states_reached ss entries state ls) (refusal_met ss entries state ls)
  unfolding replayed_lines
  record_printed names ls state e =
      ap (λ b. cond b (replay_heading ++ replayed ss entries 1 state ls) (refusal_line 13)) e
      ∙ ap (replay_heading ++◌) (lines-printed ss entries ls 1 state)

  -- "names that differ, print no heading"
  pub other-names-printed : (names : List ℕ) (ls : List (List ℕ)) (state : ℕ) → is_names_line (names_of ss) names ≡ false → replayed_lines ss entries state (names ∷ ls) ≡ refusal_line 13
  unfolding replayed_lines
  other-names-printed names ls state e = rw e

  -- "A record with names only prints the heading alone."
  pub names-only-printed : (names : List ℕ) (state : ℕ) → is_names_line (names_of ss) names ≡ true → replayed_lines ss entries state (names ∷ []) ≡ replay_heading
  unfolding replayed_lines replayed
  names-only-printed names state e = rw e

  -- ---- "A record cut in two, the second half, under the names again, played from the state where the first ended without refusal, must print the
  -- same states."

  module _ {state last : ℕ} {first : List (List ℕ)} (through : PlaysThrough ss entries state first last) (second : List (List ℕ)) where
    -- The states of the first half and then those of the second, and the same refusal, or none, ends both.
    pub replay-cut : (states_reached ss entries state (first ++ second) ≡ states_reached ss entries state first ++ states_reached ss entries last second)
        × (refusal_met ss entries state (first ++ second) ≡ refusal_met ss entries last second)
    replay-cut = (states-cut ss entries second through, refusal-cut ss entries second through)

    -- What is printed of the second half, played by itself from any number on, differs only in the numbers of the lines.
    pub replay-cut-lines : (number again : ℕ)
        → (replayed ss entries number state (first ++ second)
        ≡ replayed ss entries number state first ++ (state_lines (number + length first) (states_reached ss entries last second) ++ refusal_text (refusal_met ss entries last second)))
        × (replayed ss entries again last second ≡ state_lines again (states_reached ss entries last second) ++ refusal_text (refusal_met ss entries last second))
    replay-cut-lines number again =
        let xs = states_reached ss entries state first in
        let ys = states_reached ss entries last second in
        let ending = refusal_text (refusal_met ss entries last second) in (
          lines-printed ss entries (first ++ second) number state
              ∙ ap₂ (λ states r. state_lines number states ++ refusal_text r) replay-cut.0 replay-cut.1
              ∙ ap (◌++ ending) (state_lines-append xs ys number)
              ∙ append_assoc (state_lines number xs) (state_lines (number + length xs) ys) ending
              ∙ ap₂ (λ printed n. printed ++ (state_lines (number + n) ys ++ ending)) (sym (replayed_through number through).0) (through_states ss entries through),
          lines-printed ss entries second again last,
        )

    -- The same of whole records, each half under the names.
    pub replay-cut-records : (names names' : List ℕ) → is_names_line (names_of ss) names ≡ true → is_names_line (names_of ss) names' ≡ true
        → SameStatesPrinted (replayed_lines ss entries state (names ∷ (first ++ second))) (replayed_lines ss entries state (names ∷ first)) (replayed_lines ss entries last (names' ∷ second))
    replay-cut-records names names' e e' =
        record {
          states = states_reached ss entries state first;
          states' = states_reached ss entries last second;
          refusal = refusal_met ss entries last second;
          first_printed = record_printed names first state e ∙ ap (replay_text (states_reached ss entries state first)) (through_unrefused ss entries through);
          second_printed = record_printed names' second last e';
          whole_printed = record_printed names (first ++ second) state e ∙ ap₂ replay_text replay-cut.0 replay-cut.1;
        }

  -- And of their texts, cut between two lines.
  pub replay-cut_texts : (names names' first second : List ℕ) {state last : ℕ} → is_names_line (names_of ss) names ≡ true → is_names_line (names_of ss) names' ≡ true
      → EndsWithLine first → PlaysThrough ss entries state (lines first) last
      → SameStatesPrinted (replayed_lines ss entries state (lines (under_names names (first ++ second)))) (replayed_lines ss entries state (lines (under_names names first)))
      (replayed_lines ss entries last (lines (under_names names' second)))
  replay-cut_texts names names' first second e e' cut through =
      rw (named-lines (names_of ss) names (first ++ second) e, named-lines (names_of ss) names first e, named-lines (names_of ss) names' second e', cut-lines first second cut)
      (replay-cut-records through (lines second) names names' e e')

-- ---- the table of an accepted sheet

letters_record : (ss : List Stream) (ls : List (List ℕ)) → AreLetters ss ls → OfLetters ss (record_of_lines ls)
letters_record ss [] h m x'' = elim x'' [ ]
letters_record ss (l ∷ ls) h m (Memᴰ.head e) = subst (IsLetter ss) (sym e) (letter-line ss l h.0).0
letters_record ss (l ∷ ls) h m (Memᴰ.tail p) = letters_record ss ls h.1 m p

module _ {text : List ℕ} {room : Room} {a : CompileAnswer} {t : Tables} (call : CompileCall text room a t) {s : Sheet} (read : ReadAs text s) (accepted : a.refusal ≡ 0) where
  abbrev k : ℕ
  k = letter_count s.streams

  below : (ls : List (List ℕ)) → AreLetters s.streams ls → AllBelow k (letters_of s.streams ls)
  below ls h = all-below (record_of_lines ls) (letters_record s.streams ls h)

  -- "with the state reached": lines play through to a state exactly if they are letters, and steps for these letters lead there from where they
  -- began, none of them refused.
  pub replay-steps : (ls : List (List ℕ)) (state last : ℕ) → state < a.states
      → PlaysThrough s.streams t.entries state ls last ↔ (AreLetters s.streams ls × Followed (used_bytes s a t) k state (letters_of s.streams ls) last)
  replay-steps ls state last inside =
      let path = through↔path s.streams t.entries ls state last in
      let steps : (h : AreLetters s.streams ls) → _ = λ h. path_from↔steps (table-stored call read accepted) (few_states call read accepted) state inside (letters_of s.streams ls) last (below ls h) in
      (λ p. let x = path.0 p in (x.0, (steps x.0).0 x.1), λ f. path.1 (f.0, (steps f.0).1 f.1))

  -- So for each number of lines: they are printed with their states exactly if they are letters whose steps are not refused, and the state printed
  -- with the last of them is the state after as many steps.
  pub replay-states : (ls : List (List ℕ)) (state last j : ℕ) → state < a.states → j ≤ length ls
      → ((j ≤ length (states_reached s.streams t.entries state ls)) × (last ≡ get_or (state ∷ states_reached s.streams t.entries state ls) j 0))
      ↔ (AreLetters s.streams (take j ls) × Followed (used_bytes s a t) k state (letters_of s.streams (take j ls)) last)
  replay-states ls state last j inside few =
      let states = prefix↔states s.streams t.entries j ls state last few in
      let steps = replay-steps (take j ls) state last inside in
      (λ x. steps.0 (states.1 x), λ x. states.0 (steps.1 x))

  -- "the first line that has no way on, and prints `refused 12`": a line is refused with 12 exactly if it is a letter whose step is refused with 12.
  pub refused_12↔step : (l : List ℕ) (state : ℕ) → state < a.states
      → Fault s.streams t.entries state l 12 ↔ (IsLetterLine s.streams l × StepAnswer (used_bytes s a t) k state (letter_number s.streams (line_values l)) (refused_step 12))
  refused_12↔step l state inside =
      let missing = refused_12↔letter s.streams t.entries state l in (
        (λ f. let x = missing.0 f in (x.0, (step x.0).0 x.1)),
        λ x. missing.1 (x.0, (step x.0).1 x.1),
      )
    where
      step : IsLetterLine s.streams l
          → (entry_at k t.entries state (letter_number s.streams (line_values l)) ≡ no_state) ↔ StepAnswer (used_bytes s a t) k state (letter_number s.streams (line_values l)) (refused_step 12)
      step h =
          missing↔refused_12 (table-stored call read accepted) (few_states call read accepted) state (letter_number s.streams (line_values l)) inside
          (letter_number-bound (letter-line s.streams l h).0)

  -- Lines that are all letters play through from state 0 exactly if the record of these letters begins a solution.
  pub plays_through↔begins : (ls : List (List ℕ)) → AreLetters s.streams ls
      → ((last : ℕ) × PlaysThrough s.streams t.entries 0 ls last) ↔ BeginsSolution s (record_of_lines ls)
  plays_through↔begins ls h =
      let path = through↔path s.streams t.entries ls 0 in
      let solution = path↔solution call read accepted (record_of_lines ls) (letters_record s.streams ls h) in
      let last = walk (entry_at k t.entries) 0 (letters_of s.streams ls) in
      (λ p. solution.0 ((path p.0).0 p.1).1.0, λ b. (last, (path last).1 (h, (solution.1 b, refl))))

  -- Lines that are all letters are refused with 12, and only with 12, exactly if the record begins no solution.
  pub refused_12↔begins_none : (ls : List (List ℕ)) → AreLetters s.streams ls
      → (refusal_met s.streams t.entries 0 ls ≡ some 12) ↔ (BeginsSolution s (record_of_lines ls) → ⊥)
  refused_12↔begins_none ls h = (to, λ f. from f (plays_or_fault s.streams t.entries ls 0))
    where
      to : refusal_met s.streams t.entries 0 ls ≡ some 12 → BeginsSolution s (record_of_lines ls) → ⊥
      to e b =
          let q = through_unrefused s.streams t.entries ((plays_through↔begins ls h).1 b).1 in
          let z : ◌≡◌ {A = ℕ} 0 1 = cc in
          omega arith

      from : (BeginsSolution s (record_of_lines ls) → ⊥) → ((last : ℕ) × PlaysThrough s.streams t.entries 0 ls last) ⊎ ((n : ℕ) × FirstFault s.streams t.entries 0 ls n)
          → refusal_met s.streams t.entries 0 ls ≡ some 12
      from f (inl p) = absurd (f ((plays_through↔begins ls h).0 p))
      from f (inr x) = fault-refusal s.streams t.entries x.1 ∙ ap some (letters-fault s.streams t.entries h x.1)

  -- ---- where to start

  -- "11, a start that is no state of the table": a start that is taken is a state of the table,
  pub start-is-state : (start : Option Token) {n : ℕ} → start_state a.states start ≡ some n → n < a.states
  start-is-state start e = start-below a.states start (table-stored call read accepted).table.some_state e

  -- lines lead from a state of the table to one,
  pub ends_in_state : (ls : List (List ℕ)) (state last : ℕ) → state < a.states → PlaysThrough s.streams t.entries state ls last → last < a.states
  ends_in_state ls state last inside p =
      let x = (through↔path s.streams t.entries ls state last).0 p in
      rw x.1.1 (path-rows (entry_at k t.entries) k a.states state (letters_of s.streams ls) (table-entries (table-stored call read accepted).table) inside (below ls x.0) x.1.0)

  -- so that "the state where the first ended", as it is printed, is a start that is taken.
  pub start_where_ended : (ls : List (List ℕ)) (state last : ℕ) → state < a.states → PlaysThrough s.streams t.entries state ls last
      → start_state a.states (some (decimal (pos last))) ≡ some last
  start_where_ended ls state last inside p = start-written a.states last (ends_in_state ls state last inside p)

-- ---- the program's texts

-- "A record cut in two, the second half, under the names again, played from the state where the first ended without refusal, must print the same
-- states": of what is printed for the texts of the whole record and of each half, the start of the second half being that state as it is printed.
pub plays-cut : {text : List ℕ} {s : Sheet} {a : CompileAnswer} {t : Tables} → CompiledLent text s a t → a.refusal ≡ 0
    → (start : Option Token) {state last : ℕ} → start_state a.states start ≡ some state
    → (names names' first second : List ℕ) → is_names_line (names_of s.streams) names ≡ true → is_names_line (names_of s.streams) names' ≡ true
    → EndsWithLine first → PlaysThrough s.streams t.entries state (lines first) last
    → {whole first_half second_half : List ℕ} → Plays text (under_names names (first ++ second)) start whole → Plays text (under_names names first) start first_half
    → Plays text (under_names names' second) (some (decimal (pos last))) second_half → SameStatesPrinted whole first_half second_half
plays-cut {s = s} {a} {t} c accepted start {state} {last} begins names names' first second e e' cut through w f g =
    let inside = start-is-state c.call c.reads accepted start begins in
    let again = start_where_ended c.call c.reads accepted (lines first) state last inside through in
    rw (plays_unique start w (played c accepted begins), plays_unique start f (played c accepted begins), plays_unique (some (decimal (pos last))) g (played c accepted again))
    (replay-cut_texts s.streams t.entries names names' first second e e' cut through)

-- Two accepted sheets over the same streams, whatever their kinds, that have the same solutions print the same, whatever room was lent.
pub same_solutions_print : {text text' : List ℕ} {room room' : Room} {a a' : CompileAnswer} {t t' : Tables} → CompileCall text room a t → CompileCall text' room' a' t'
    → {s s' : Sheet} → ReadAs text s → ReadAs text' s' → a.refusal ≡ 0 → a'.refusal ≡ 0 → SameNamesAndRanges s'.streams s.streams → HaveSameSolutions s s'
    → (ls : List (List ℕ)) (state : ℕ) → state < a.states → replayed_lines s.streams t.entries state ls ≡ replayed_lines s'.streams t'.entries state ls
same_solutions_print {t = t} {t' = t'} call call' {s} r r' e e' same h ls state inside =
    let rows = (equal_rows↔same_solutions call call' r r' e e' same).1 h in
    rows-printed s.streams t.entries t'.entries rows.entries (λ i b hi hb some_state. (entry-state (table-stored call r e).table i b hi hb some_state).0) ls state inside ∙ sym (printed-same same t'.entries ls state)
