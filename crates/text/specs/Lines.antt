-- Reading a text byte by byte: what a machine with a state S makes of the bytes of a text, whole or in chunks, and what it makes of the text's
-- lines, one after the other.
use Rattle.std.specs.Prelude.{ℕ, ◌≡◌, Bool, true, false, cond, List, [], ◌∷◌, ◌++◌, eqb}
use Rattle.text.specs.Bytes.{tokens}
use Rattle.text.specs.Fold.{run_bytes, TokenReading, tokens_read, end_token}

-- The text that is given in chunks.
abbrev pub all_chunks : List (List ℕ) → List ℕ
all_chunks [] = []
all_chunks (c ∷ cs) = c ++ all_chunks cs

module _ {S : Type 0} (step : S → ℕ → S) where
  -- Chunk after chunk: nothing but the state passes from one to the next.
  abbrev pub run_chunks : S → List (List ℕ) → S
  run_chunks s [] = s
  run_chunks s (c ∷ cs) = run_chunks (run_bytes step s c) cs

module _ {S : Type 0} (byte : S → ℕ → S) (line-end : S → S) where
  -- Each line's bytes, and then its end.
  abbrev pub lines_read : S → List (List ℕ) → S
  lines_read s [] = s
  lines_read s (l ∷ ls) = lines_read (line-end (run_bytes byte s l)) ls

  -- "Lines end with byte 10", as the bytes come.
  abbrev pub text_byte : S → ℕ → S
  text_byte s b = cond (eqb b 10) (line-end s) (byte s b)

  -- "the last may lack it": the state tells whether bytes stand since the last byte 10, and at the end of the text they are one more line.
  pub record EndsLines (finish : S → S) (begun : S → Bool) : Type 0 where
    pub begins : (s : S) (b : ℕ) → eqb b 10 ≡ false → begun (byte s b) ≡ true
    pub ends : (s : S) → begun (line-end s) ≡ false
    pub last_line : (s : S) → begun s ≡ true → finish s ≡ line-end s
    pub no_line : (s : S) → begun s ≡ false → finish s ≡ s

-- The state of a machine that does not tell whether bytes stand since the last byte 10, with a mark that does.
pub record MarkedState (S : Type 0) : Type 0 where
  pub begun : Bool
  pub state : S

module _ {S : Type 0} (byte : S → ℕ → S) (line-end : S → S) where
  abbrev pub marked_byte : MarkedState S → ℕ → MarkedState S
  marked_byte r b = record { begun = true; state = byte r.state b }

  abbrev pub marked_end : MarkedState S → MarkedState S
  marked_end r = record { begun = false; state = line-end r.state }

  abbrev pub marked_finish : MarkedState S → MarkedState S
  marked_finish r = record { begun = false; state = cond r.begun (line-end r.state) r.state }

module _ {S : Type 0} (byte : S → ℕ → S) (token_end line-end : S → S) where
  -- Each line's tokens, and then its end.
  abbrev pub token_lines_read : S → List (List ℕ) → S
  token_lines_read s [] = s
  token_lines_read s (l ∷ ls) = token_lines_read (line-end (tokens_read byte token_end s (tokens l))) ls

  -- A line's end also ends the token that is begun.
  abbrev pub token_line_end : TokenReading S → TokenReading S
  token_line_end r = record { begun = false; state = line-end (end_token byte token_end r.begun r.state) }
