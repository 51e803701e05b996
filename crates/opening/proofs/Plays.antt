-- What `replay` prints is there for every sheet, record and start, and is one; and a program that prints the refusal that `open_table` gives, or plays
-- the record from the state and with the entries that it gives, prints it. From the one outcome of a compile in the rows lent (lend).
use Prim.Native.Nat.{ℕ, zero, suc, ◌+◌, ◌-◌, ◌*◌, ◌<◌}
use native.Mathlib.Omega.{arith}
use mathlib.Core.Path.{◌≡◌, refl, sym, ◌∙◌, ap, subst}
use mathlib.Core.Bool.{cond}
use mathlib.Core.List.{List, [], ◌∷◌, ◌++◌}
use mathlib.Core.Option.{Option, none, some}
use lib.ListN.{length, get_or}
use Rattle.text.specs.Bytes.{Token, lines}
use Rattle.meaning.specs.Expression.{Stream, Sheet}
use Rattle.meaning.specs.Letter.{letter_count}
use Rattle.sheet.specs.Form.{names_of}
use Rattle.basics.proofs.Clearing.{zeros as zero-at}
use Rattle.outcome.specs.Room.{zeros}
use Rattle.outcome.specs.Compile.{CompileAnswer, Tables}
use Rattle.lend.specs.Lend.{CompiledLent, HasOutcome, is_refused, is_compiled}
use Rattle.lend.proofs.Outcome.{compiled_unique, refused-positive, refused_unique, refused-not-compiled, lent_total, stored_is}
use Rattle.print.specs.Text.{refusal_line}
use Rattle.records.specs.Line.{ValueLine, malformed, outside, letter, value_line}
use Rattle.record_names.specs.Line.{is_names_line}
use Rattle.replaying.specs.Replay.{replay_heading, line_then, outcome_from, entered, replayed, replayed_lines}
use Rattle.opening.specs.declared.OpenedTable.{OpenedTable}
use Rattle.opening.specs.Start.{start_state}
use Rattle.opening.specs.Plays.{Plays, refused_sheet, no_start, played, HasReplayOutput}
use Rattle.opening.specs.Printing.{PlaysOpened}
use Rattle.opening.specs.Opens.{opened_as, OpensTable, OpensTable.refused_sheet as gives_refusal, OpensTable.no_start as gives_no_start, OpensTable.opened as opened}

-- ---- one outcome

pub none≢some : {o : Option ℕ} {state : ℕ} → o ≡ none → o ≡ some state → ⊥
none≢some p q = let z : ◌≡◌ {A = ℕ} 0 1 = cc in omega arith

module _ {text : List ℕ} (start : Option Token) where
  -- A start that is judged for two compiles of the text is judged the same.
  pub same_start : {s q : Sheet} {a b : CompileAnswer} {t u : Tables} {o p : Option ℕ} → CompiledLent text s a t → CompiledLent text q b u → start_state a.states start ≡ o → start_state b.states start ≡ p → o ≡ p
  same_start c d e f = sym e ∙ ap (λ x. start_state x.states start) (compiled_unique c d).1.0 ∙ f

  pub same_state : {s q : Sheet} {a b : CompileAnswer} {t u : Tables} {i j : ℕ} → CompiledLent text s a t → CompiledLent text q b u → start_state a.states start ≡ some i → start_state b.states start ≡ some j → i ≡ j
  same_state {i = i} {j} c d e f = inside (same_start c d e f)
    where
      inside : some i ≡ some j → i ≡ j
      inside e = cc

  module _ {record_text : List ℕ} where
    pub plays_unique : {b c : List ℕ} → Plays text record_text start b → Plays text record_text start c → b ≡ c
    plays_unique (refused_sheet r) (refused_sheet q) = ap refusal_line (refused_unique r q)
    plays_unique (refused_sheet r) (no_start d z f) = absurd (refused-not-compiled r d z)
    plays_unique (refused_sheet r) (played d z f) = absurd (refused-not-compiled r d z)
    plays_unique (no_start c y e) (refused_sheet q) = absurd (refused-not-compiled q c y)
    plays_unique (no_start c y e) (no_start d z f) = refl
    plays_unique (no_start c y e) (played d z f) = absurd (none≢some (sym (same_start c d e refl)) f)
    plays_unique (played c y e) (refused_sheet q) = absurd (refused-not-compiled q c y)
    plays_unique (played c y e) (no_start d z f) = absurd (none≢some f (sym (same_start c d e refl)))
    plays_unique (played c y e) (played d z f) =
        let same = compiled_unique c d in
        let state = same_state c d e f in
        λ i. replayed_lines (same.0 i).streams (same.1.1 i).entries (state i) (lines record_text)

  -- What `open_table` gives back and leaves in entries and final bytes is one.
  pub opens_unique : {r q : OpenedTable} {entries others finals others' : List ℕ} → OpensTable text start r entries finals → OpensTable text start q others others' → (r ≡ q) × (entries ≡ others) × (finals ≡ others')
  opens_unique (gives_refusal r) (gives_refusal q) = (ap (λ n. opened_as n 0 0 text) (refused_unique r q), refl, refl)
  opens_unique (gives_refusal r) (gives_no_start d z f) = absurd (refused-not-compiled r d z)
  opens_unique (gives_refusal r) (opened d z f) = absurd (refused-not-compiled r d z)
  opens_unique (gives_no_start c y e) (gives_refusal q) = absurd (refused-not-compiled q c y)
  opens_unique (gives_no_start c y e) (gives_no_start d z f) = (refl, refl, refl)
  opens_unique (gives_no_start c y e) (opened d z f) = absurd (none≢some (sym (same_start c d e refl)) f)
  opens_unique (opened c y e) (gives_refusal q) = absurd (refused-not-compiled q c y)
  opens_unique (opened c y e) (gives_no_start d z f) = absurd (none≢some f (sym (same_start c d e refl)))
  opens_unique (opened c y e) (opened d z f) =
      let same = compiled_unique c d in
      let state = same_state c d e f in (
        λ i. opened_as 0 (same.1.0 i).states (state i) text,
        ap (λ t. t.entries ++ zeros (32768 - length t.entries)) same.1.1,
        ap (λ t. t.finals ++ zeros (256 - length t.finals)) same.1.1,
      )

-- ---- and always one

pub plays-total : (text record_text : List ℕ) (start : Option Token) → HasReplayOutput text record_text start
plays-total text record_text start = go (lent_total text)
  where
    by : {s : Sheet} {a : CompileAnswer} {t : Tables} → CompiledLent text s a t → a.refusal ≡ 0 → (o : Option ℕ) → start_state a.states start ≡ o → HasReplayOutput text record_text start
    by c z none e = record { bytes = _; plays = no_start c z e }
    by c z (some state) e = record { bytes = _; plays = played c z e }

    go : HasOutcome text → HasReplayOutput text record_text start
    go (is_refused r) = record { bytes = _; plays = refused_sheet r }
    go (is_compiled {a = a} c z) = by c z (start_state a.states start) refl

-- ---- zeros behind the entries

zeros-behind : (l : List ℕ) (n i : ℕ) → get_or l i 0 ≡ get_or (l ++ zeros n) i 0
zeros-behind [] n i = sym (zero-at n i)
zeros-behind (x ∷ l) n zero = refl
zeros-behind (x ∷ l) n (suc i) = zeros-behind l n i

-- An entry that a list does not have is read as 0, so what is printed is the same with zeros behind the entries.
module _ (ss : List Stream) (entries others : List ℕ) (same : (i : ℕ) → get_or entries i 0 ≡ get_or others i 0) where
  same_outcome : (state : ℕ) (v : ValueLine) → outcome_from ss entries state v ≡ outcome_from ss others state v
  same_outcome state malformed = refl
  same_outcome state outside = refl
  same_outcome state (letter a) = ap entered (same (state * letter_count ss + a))

  same-replayed : (ls : List (List ℕ)) (number state : ℕ) → replayed ss entries number state ls ≡ replayed ss others number state ls
  unfolding replayed
  same-replayed [] number state = refl
  same-replayed (l ∷ ls) number state = λ i. line_then number (λ next. same-replayed ls (suc number) next i) (same_outcome state (value_line ss l) i)

  same_lines : (state : ℕ) (ls : List (List ℕ)) → replayed_lines ss entries state ls ≡ replayed_lines ss others state ls
  unfolding replayed_lines
  same_lines state [] = refl
  same_lines state (l ∷ ls) = ap (λ printed. cond (is_names_line (names_of ss) l) (replay_heading ++ printed) (refusal_line 13)) (same-replayed ls 1 state)

-- ---- what a program prints with what `open_table` gives back

module _ {text : List ℕ} {start : Option Token} where
  pub refused-plays : {r : OpenedTable} {entries finals : List ℕ} → OpensTable text start r entries finals → 0 < r.refusal → (record_text : List ℕ) → Plays text record_text start (refusal_line r.refusal)
  refused-plays (gives_refusal r) h record_text = refused_sheet r
  refused-plays (gives_no_start c z e) h record_text = no_start c z e
  refused-plays (opened c z e) h record_text = absurd (omega arith)

  pub opened-plays : {r : OpenedTable} {entries finals : List ℕ} → OpensTable text start r entries finals → r.refusal ≡ 0 → PlaysOpened text start r entries
  opened-plays (gives_refusal r) z = absurd (omega (arith, refused-positive r))
  opened-plays (gives_no_start c y e) z = absurd (omega arith)
  opened-plays (opened {s} {t = t} {state} c y e) z =
      let behind = zeros-behind t.entries (32768 - length t.entries) in
      record {
        source = s;
        reads = c.reads;
        stored = stored_is text refl c.reads;
        plays = λ record_text. subst (Plays text record_text start) (same_lines s.streams t.entries (t.entries ++ zeros (32768 - length t.entries)) behind state (lines record_text)) (played c y e);
      }
