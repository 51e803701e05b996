-- What is printed for a record to an accepted sheet, however its bytes come in chunks, is what document 02 says of its lines. From the law of texts
-- in chunks (text, Lines), the laws of one line (records, Sheets), and induction over the lines.
use Prim.Native.Nat.{ℕ, suc, ◌+◌, ◌≤◌, ◌<◌}
use native.Mathlib.Omega.{arith}
use mathlib.Core.Path.{◌≡◌, refl, sym, ◌∙◌, ap}
use mathlib.Core.Bool.{Bool, true, false, cond}
use mathlib.Core.List.{List, [], ◌∷◌, ◌++◌, map, append_assoc, append-nil}
use lib.ListN.{length}
use Rattle.text.specs.Bytes.{lines}
use Rattle.text.specs.Fold.{run_bytes}
use Rattle.text.specs.Lines.{all_chunks, run_chunks, lines_read, EndsLines}
use Rattle.text.proofs.Lines.{chunks-lines}
use Rattle.meaning.specs.Expression.{Sheet}
use Rattle.meaning.specs.Letter.{letter_count}
use Rattle.meaning.specs.Window.{join_over}
use Rattle.nodes.specs.Bounds.{lows_of, highs_of}
use Rattle.automaton.specs.Stored.{entry_at}
use Rattle.sheet.specs.Names.{eight_bytes}
use Rattle.sheet.specs.Accepted.{Accepted}
use Rattle.letters.specs.Described.{cut_count}
use Rattle.letters.proofs.Streams.{unnamed, letter_count-unnamed}
use Rattle.print.specs.Text.{refusal_line}
use Rattle.records.specs.Line.{ValueLine, malformed, outside, letter, value_line}
use Rattle.records.specs.Machine.{line_start, line_byte, end_of}
use Rattle.record_names.specs.Machine.{names_start, names_byte}
use Rattle.record_names.specs.declared.NamesState.{NamesState}
use Rattle.records.proofs.Sheets.{accepted-line, accepted-names}
use Rattle.replaying.specs.Replay.{replay_heading, state_line, LineOutcome, reaches, refuses, entered, line_then, outcome_from, replayed, replayed_lines}
use Rattle.record_lines.specs.Runs.{one_more}
use Rattle.record_lines.proofs.Runs.{begun_by, begun-stays, lines_few}
use Rattle.replaying.specs.Machine.{PlayedSheet, played_sheet, Playing, playing, values_replay, ended_replay, start_replay, outcome_text, name_at, read_in, byte_read, outcome_of, line_outcome, after_outcome, is_names, end_in, line_ended, play_byte, last_line, closed_replay}
use Rattle.replaying.specs.declared.Stage.{Stage}
use Rattle.replaying.specs.declared.Stage.TheVariants.{Names, Values, Ended}
use Rattle.replaying.specs.declared.Replay.{Replay}
use Rattle.replaying.proofs.Steps.{names-run, values-run}

-- ---- the machine ends lines

module _ (s : PlayedSheet) where
  begins_in : (k : Stage) (r : Replay) (b : ℕ) → (read_in s k r b).begun ≡ true
  begins_in Names r b = refl
  begins_in Values r b = refl
  begins_in Ended r b = refl

  ends_in : (k : Stage) (r : Replay) → (end_in s k r).begun ≡ false
  ends_in Names r = by (is_names s r.names)
    where
      by : (t : Bool) → (cond t (values_replay false names_start r.line r.number r.state) (ended_replay false)).begun ≡ false
      by true = refl
      by false = refl
  ends_in Values r = by (line_outcome s r.line r.state)
    where
      by : (o : LineOutcome) → (after_outcome s r o).begun ≡ false
      by (reaches state) = refl
      by (refuses n) = refl
  ends_in Ended r = refl

  ends-lines : EndsLines (byte_read s) (line_ended s) (last_line s) (λ p. p.replay.begun)
  ends-lines =
      record {
        begins = λ p b e. begins_in p.replay.stage p.replay b;
        ends = λ p. ends_in p.replay.stage p.replay;
        last_line = λ p e. ap (λ t. cond t (line_ended s p) p) e;
        no_line = λ p e. ap (λ t. cond t (line_ended s p) p) e;
      }

  abbrev read : Playing → List (List ℕ) → Playing
  read = lines_read (byte_read s) (line_ended s)

  -- Chunks, however the record is cut, are its lines.
  pub replay-lines : (chunks : List (List ℕ)) (state : ℕ)
      → last_line s (run_chunks (play_byte s) (playing (start_replay state) []) chunks) ≡ lines_read (byte_read s) (line_ended s) (playing (start_replay state) []) (lines (all_chunks chunks))
  unfolding play_byte
  replay-lines chunks state = chunks-lines (byte_read s) (line_ended s) ends-lines chunks (playing (start_replay state) []) refl

  -- ---- behind a refusal

  ended-bytes : (l : List ℕ) (g : Bool) (t : List ℕ) → run_bytes (byte_read s) (playing (ended_replay g) t) l ≡ playing (ended_replay (begun_by g l)) t
  ended-bytes [] g t = refl
  ended-bytes (b ∷ l) g t = ended-bytes l true t ∙ ap (λ h. playing (ended_replay h) t) (begun-stays l)

  ended-lines : (ls : List (List ℕ)) (t : List ℕ) → (closed_replay s (read (playing (ended_replay false) t) ls)).printed ≡ t
  ended-lines [] t = refl
  ended-lines (l ∷ ls) t =
      ap (λ p. (closed_replay s (read (line_ended s p) ls)).printed) (ended-bytes l false t)
      ∙ ap (λ u. (closed_replay s (read (playing (ended_replay false) u) ls)).printed) (append-nil t) ∙ ended-lines ls t

-- ---- an accepted sheet

module _ {s : Sheet} (a : Accepted s) (rest entries : List ℕ) where
  -- The sheet as the reader stores it, with any bytes behind the names, and any entries.
  abbrev pub stored : PlayedSheet
  stored = played_sheet (join_over eight_bytes s.streams ++ rest) (map (λ x. length x.name) s.streams) (lows_of s.streams) (highs_of s.streams) entries

  exact : cut_count (letter_count (unnamed s.streams)) ≡ letter_count s.streams
  exact = let e = letter_count-unnamed s.streams in let h = a.letters in omega arith

  -- What a line of values leads to.
  same_outcome : (state : ℕ) (v : ValueLine) → outcome_of stored state (end_of v) ≡ outcome_from s.streams entries state v
  same_outcome state malformed = refl
  same_outcome state outside = refl
  same_outcome state (letter n) = ap (λ k. entered (entry_at k entries state n)) exact

  line-outcome : (state : ℕ) (l : List ℕ) → line_outcome stored (run_bytes (line_byte (unnamed s.streams)) line_start l) state ≡ outcome_from s.streams entries state (value_line s.streams l)
  line-outcome state l = ap (outcome_of stored state) (accepted-line a l) ∙ same_outcome state (value_line s.streams l)

  -- The lines of values, from a number and a state on; the number stays below the machine's highest.
  abbrev PrintsValues : List (List ℕ) → Type 0
  PrintsValues ls =
      (x : NamesState) (number state : ℕ) (t : List ℕ) → number + length ls ≤ 18446744073709551615
      → (closed_replay stored (read stored (playing (values_replay false x line_start number state) t) ls)).printed ≡ t ++ replayed s.streams entries number state ls

  -- One line, whose outcome is known, and the others.
  after_line : (ls : List (List ℕ)) → PrintsValues ls → (r : Replay) (o : LineOutcome) (t : List ℕ) → r.number + suc (length ls) ≤ 18446744073709551615
      → (closed_replay stored (read stored (playing (after_outcome stored r o) (t ++ outcome_text r.number o)) ls)).printed ≡ t ++ line_then r.number (λ next. replayed s.streams entries (suc r.number) next ls) o
  after_line ls again r (reaches next) t h =
      let e : one_more r.number ≡ suc r.number = omega arith in
      ap (λ n. (closed_replay stored (read stored (playing (values_replay false r.names line_start n next) (t ++ state_line r.number next)) ls)).printed) e
      ∙ again r.names (suc r.number) next (t ++ state_line r.number next) (omega arith) ∙ append_assoc t (state_line r.number next) (replayed s.streams entries (suc r.number) next ls)
  after_line ls again r (refuses n) t h = ended-lines stored ls (t ++ refusal_line n)

  values-lines : (ls : List (List ℕ)) → PrintsValues ls
  unfolding replayed
  values-lines [] x number state t h = sym (append-nil t)
  values-lines (l ∷ ls) x number state t h =
      let line = run_bytes (line_byte (unnamed s.streams)) line_start l in
      let r = values_replay (begun_by false l) x line number state in
      ap (λ p. (closed_replay stored (read stored (line_ended stored p) ls)).printed) (values-run stored l false x line_start number state t)
      ∙ after_line ls (values-lines ls) r (line_outcome stored line state) t h
      ∙ ap (λ o. t ++ line_then number (λ next. replayed s.streams entries (suc number) next ls) o) (line-outcome state l)

  -- ---- the whole record

  after-names : (ls : List (List ℕ)) (state : ℕ) (same : Bool) → suc (length ls) ≤ 18446744073709551615
      → (closed_replay stored (read stored (playing (cond same (values_replay false names_start line_start 1 state) (ended_replay false)) (cond same replay_heading (refusal_line 13))) ls)).printed
      ≡ cond same (replay_heading ++ replayed s.streams entries 1 state ls) (refusal_line 13)
  after-names ls state true h = values-lines ls names_start 1 state replay_heading (omega arith)
  after-names ls state false h = ended-lines stored ls (refusal_line 13)

  record_lines : (ls : List (List ℕ)) (state : ℕ) → length ls ≤ 18446744073709551615
      → (closed_replay stored (read stored (playing (start_replay state) []) ls)).printed ≡ replayed_lines s.streams entries state ls
  unfolding replayed_lines
  record_lines [] state h = refl
  record_lines (l ∷ ls) state h =
      let names = run_bytes (names_byte (name_at stored)) names_start l in
      ap (λ p. (closed_replay stored (read stored (line_ended stored p) ls)).printed) (names-run stored l false names_start line_start 1 state [])
      ∙ after-names ls state (is_names stored names) h
      ∙ ap (λ t. cond t (replay_heading ++ replayed s.streams entries 1 state ls) (refusal_line 13)) (accepted-names a rest l)

  -- "prints `line state`, then one such line per value line, counted from 1, with the state reached": the record in chunks of any sizes, with fewer
  -- bytes than numbers of the machine.
  pub replay-chunks : (state : ℕ) (chunks : List (List ℕ)) → length (all_chunks chunks) < 18446744073709551616
      → (closed_replay stored (last_line stored (run_chunks (play_byte stored) (playing (start_replay state) []) chunks))).printed ≡ replayed_lines s.streams entries state (lines (all_chunks chunks))
  replay-chunks state chunks h =
      let few = lines_few (all_chunks chunks) in
      ap (λ p. (closed_replay stored p).printed) (replay-lines stored chunks state) ∙ record_lines (lines (all_chunks chunks)) state (omega arith)
