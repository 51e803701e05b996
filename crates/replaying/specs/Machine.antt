-- What is kept of a record whose bytes come one after the other, and what is printed at the end of each line (document 02, S-1): scalars, whatever
-- the record's length.
use Rattle.std.specs.Prelude.{ℕ, ◌+◌, ◌≤◌, max, ◌≡◌, ◌⊎◌, Bool, true, false, cond, List, [], ◌∷◌, ◌++◌, leb, eqb, ℤ, length}
use Rattle.std.proofs.lemmas.List.Edits.{sets}
use Rattle.std.proofs.Math.Seq.{slice}
use Rattle.text.specs.Bytes.{Token}
use Rattle.text.specs.Fold.{run_bytes}
use Rattle.text.specs.Lines.{text_byte}
use Rattle.meaning.specs.Expression.{Stream}
use Rattle.meaning.specs.Letter.{letter_count}
use Rattle.automaton.specs.Stored.{entry_at}
use Rattle.letters.specs.Described.{described, cut_count}
use Rattle.print.specs.Text.{refusal_line}
use Rattle.sheet.specs.Names.{name_in}
use Rattle.records.specs.Machine.{line_start, line_byte, line_end}
use Rattle.record_names.specs.Machine.{names_start, names_byte, names_end}
use Rattle.records.specs.declared.LineState.{LineState}
use Rattle.records.specs.declared.LineEnd.{LineEnd}
use Rattle.record_names.specs.declared.NamesState.{NamesState}
use Rattle.record_lines.specs.Runs.{one_more}
use Rattle.replaying.specs.Replay.{replay_heading, state_line, LineOutcome, reaches, refuses, entered}
use Rattle.replaying.specs.declared.Stage.{Stage}
use Rattle.replaying.specs.declared.Stage.TheVariants.{Names, Values, Ended}
use Rattle.replaying.specs.declared.Replay.{Replay}
use Rattle.replaying.specs.declared.Advanced.{Advanced}
use Rattle.replaying.specs.declared.Led.{Led}
use Rattle.replaying.specs.declared.LinePlayed.{LinePlayed}

-- A sheet and its table as they are stored: eight bytes for each name, the names' lengths, the lowest and highest values, and the entries.
pub record PlayedSheet : Type 0 where
  pub names : List ℕ
  pub lengths : List ℕ
  pub lows : List ℤ
  pub highs : List ℤ
  pub entries : List ℕ

abbrev pub played_sheet : (names lengths : List ℕ) (lows highs : List ℤ) (entries : List ℕ) → PlayedSheet
played_sheet names lengths lows highs entries = record { names = names; lengths = lengths; lows = lows; highs = highs; entries = entries }

-- A record that is being played, and what is printed so far.
pub record Playing : Type 0 where
  pub replay : Replay
  pub printed : List ℕ

abbrev pub playing : Replay → List ℕ → Playing
playing r t = record { replay = r; printed = t }

-- ---- where the reading stands

abbrev pub names_replay : Bool → NamesState → LineState → (number state : ℕ) → Replay
names_replay begun names line number state = record { stage = Names; begun = begun; names = names; line = line; number = number; state = state }

abbrev pub values_replay : Bool → NamesState → LineState → (number state : ℕ) → Replay
values_replay begun names line number state = record { stage = Values; begun = begun; names = names; line = line; number = number; state = state }

-- Behind a refusal nothing is kept but whether bytes stand since the last byte 10.
abbrev pub ended_replay : Bool → Replay
ended_replay begun = record { stage = Ended; begun = begun; names = names_start; line = line_start; number = 0; state = 0 }

abbrev pub advanced_to : Replay → (next size : ℕ) → Advanced
advanced_to r next size = record { replay = r; next = next; size = size }

-- "counted from 1"
abbrev pub start_replay : ℕ → Replay
start_replay state = names_replay false names_start line_start 1 state

-- ---- the end of a line of values

-- What a line of values leads to, as the code gives it: a refusal, or 0 and the state.
abbrev pub led_to : LineOutcome → Led
led_to (reaches state) = record { refusal = 0; state = state }
led_to (refuses n) = record { refusal = n; state = 0 }

abbrev pub outcome_text : ℕ → LineOutcome → List ℕ
outcome_text number (reaches state) = state_line number state
outcome_text number (refuses n) = refusal_line n

abbrev pub is_refused : LineOutcome → Bool
is_refused (reaches state) = false
is_refused (refuses n) = true

-- The outcome's line stands at the front of the lent bytes.
pub record HoldsOutcome (number : ℕ) (o : LineOutcome) (out out' : List ℕ) (r : LinePlayed) : Type 0 where
  pub ended : r.ended ≡ is_refused o
  pub state : r.state ≡ (led_to o).state
  pub size : r.size ≡ length (outcome_text number o)
  pub fits : r.size ≤ length out
  pub bytes : out' ≡ sets out 0 (outcome_text number o)

module _ (s : PlayedSheet) where
  abbrev pub stored_streams : List Stream
  stored_streams = described s.lows s.highs

  abbrev pub name_at : ℕ → Token
  name_at = name_in s.names s.lengths

  -- ---- a byte of a line

  abbrev pub read_in : Stage → Replay → ℕ → Replay
  read_in Names r b = names_replay true (names_byte name_at r.names b) r.line r.number r.state
  read_in Values r b = values_replay true r.names (line_byte stored_streams r.line b) r.number r.state
  read_in Ended r b = ended_replay true

  abbrev pub byte_read : Playing → ℕ → Playing
  byte_read p b = playing (read_in p.replay.stage p.replay b) p.printed

  -- ---- the end of a line

  -- What the end of a line of values leads to.
  abbrev pub outcome_of : ℕ → LineEnd → LineOutcome
  outcome_of state e = cond (eqb e.refusal 0) (entered (entry_at (cut_count (letter_count stored_streams)) s.entries state e.letter)) (refuses e.refusal)

  abbrev pub line_outcome : LineState → ℕ → LineOutcome
  line_outcome line state = outcome_of state (line_end stored_streams line)

  abbrev pub after_outcome : Replay → LineOutcome → Replay
  after_outcome r (reaches state) = values_replay false r.names line_start (one_more r.number) state
  after_outcome r (refuses n) = ended_replay false

  abbrev pub is_names : NamesState → Bool
  is_names names = names_end name_at (length s.lengths) names

  -- What is printed at the end of a line, and where the reading stands then.
  abbrev pub end_text : Stage → Replay → List ℕ
  end_text Names r = cond (is_names r.names) replay_heading (refusal_line 13)
  end_text Values r = outcome_text r.number (line_outcome r.line r.state)
  end_text Ended r = []

  abbrev pub end_in : Stage → Replay → Replay
  end_in Names r = cond (is_names r.names) (values_replay false names_start r.line r.number r.state) (ended_replay false)
  end_in Values r = after_outcome r (line_outcome r.line r.state)
  end_in Ended r = ended_replay false

  abbrev pub line_ended : Playing → Playing
  line_ended p = playing (end_in p.replay.stage p.replay) (p.printed ++ end_text p.replay.stage p.replay)

  -- ---- a record

  unfoldable pub play_byte : Playing → ℕ → Playing
  play_byte = text_byte byte_read line_ended

  -- "the last may lack it": a line that is begun ends with the record.
  abbrev pub last_line : Playing → Playing
  last_line p = cond p.replay.begun (line_ended p) p

  -- A record without lines has no names.
  abbrev pub closed_in : Stage → Playing → Playing
  closed_in Names p = playing (ended_replay false) (p.printed ++ refusal_line 13)
  closed_in Values p = p
  closed_in Ended p = p

  abbrev pub closed_replay : Playing → Playing
  closed_replay p = closed_in p.replay.stage p

  -- ---- chunks, and room for what is printed

  -- The bytes of a chunk from a place to before another.
  abbrev pub played : Replay → List ℕ → (from next : ℕ) → Playing
  played r chunk from next = run_bytes play_byte (playing r []) (slice from next chunk)

  -- Room for one more line; no line that is printed is longer.
  abbrev pub state_line_room : ℕ
  state_line_room = 32

  abbrev pub HasLineRoom : ℕ → Playing → Type 0
  HasLineRoom room p = length p.printed + state_line_room ≤ room

  -- Each byte is played where there is room for one more line.
  abbrev pub HasOutputRoom : ℕ → Playing → List ℕ → Type 0
  HasOutputRoom room p [] = Unit {0}
  HasOutputRoom room p (b ∷ bs) = HasLineRoom room p × HasOutputRoom room (play_byte p b) bs

  -- The bytes from a place to before `next` are played, and what they print stands at the front of the lent bytes.
  pub record PlaysChunk (replay : Replay) (chunk : List ℕ) (from : ℕ) (out out' : List ℕ) (r : Advanced) : Type 0 where
    pub onward : from ≤ r.next
    pub inside : r.next ≤ max from (length chunk)
    pub run : r.replay ≡ (played replay chunk from r.next).replay
    pub room : HasOutputRoom (length out) (playing replay []) (slice from r.next chunk)
    pub size : r.size ≡ length (played replay chunk from r.next).printed
    pub fits : r.size ≤ length out
    pub bytes : out' ≡ sets out 0 (played replay chunk from r.next).printed

  -- It goes on to the end of the chunk, or to the first place where there is no room for one more line.
  pub record Advances (replay : Replay) (chunk : List ℕ) (from : ℕ) (out out' : List ℕ) (r : Advanced) : Type 0 where
    pub plays : PlaysChunk replay chunk from out out' r
    pub stops : (length chunk ≤ r.next) ⊎ (¬ HasLineRoom (length out) (played replay chunk from r.next))

  -- What is printed at the end of the record, into so many bytes: nothing where they have no room for a line.
  unfoldable pub last_text : Replay → ℕ → List ℕ
  last_text r room = cond (leb state_line_room room) (closed_replay (last_line (playing r []))).printed []

  pub record Finishes (replay : Replay) (out out' : List ℕ) (r : ℕ) : Type 0 where
    pub size : r ≡ length (last_text replay (length out))
    pub fits : r ≤ length out
    pub bytes : out' ≡ sets out 0 (last_text replay (length out))
