-- Reading a line byte by byte: what a machine with a state S makes of the bytes of a line, and what it makes of the line's tokens, one after
-- the other.
use Rattle.std.specs.Prelude.{ℕ, Bool, true, false, cond, List, [], ◌∷◌}
use Rattle.text.specs.Bytes.{Token, ByteClass, bracket, inside, between, class_of}

module _ {S : Type 0} (step : S → ℕ → S) where
  -- The state behind bytes that come one after the other.
  abbrev pub run_bytes : S → List ℕ → S
  run_bytes s [] = s
  run_bytes s (b ∷ bs) = run_bytes (step s b) bs

-- The state of a machine, and whether a token is begun that the next byte may continue.
pub record TokenReading (S : Type 0) : Type 0 where
  pub begun : Bool
  pub state : S

module _ {S : Type 0} (byte : S → ℕ → S) (token_end : S → S) where
  -- Each token's bytes, and then its end.
  abbrev pub tokens_read : S → List Token → S
  tokens_read s [] = s
  tokens_read s (t ∷ ts) = tokens_read (token_end (run_bytes byte s t)) ts

  -- The state with a token that is begun ended.
  abbrev pub end_token : Bool → S → S
  end_token begun s = cond begun (token_end s) s

  -- A bracket is a token by itself, and a byte that is in no token ends the one that is begun.
  abbrev pub class_byte : ByteClass → TokenReading S → ℕ → TokenReading S
  class_byte bracket r b = record { begun = false; state = token_end (byte (end_token r.begun r.state) b) }
  class_byte inside r b = record { begun = true; state = byte r.state b }
  class_byte between r b = record { begun = false; state = end_token r.begun r.state }

  abbrev pub token_byte : TokenReading S → ℕ → TokenReading S
  token_byte r b = class_byte (class_of b) r b

  -- The state behind the bytes of a line, its last token ended.
  unfoldable pub line_read : TokenReading S → List ℕ → S
  line_read r l = end_token (run_bytes token_byte r l).begun (run_bytes token_byte r l).state
