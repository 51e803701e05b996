-- Where the tokens and lines of a text stand, and where the bracket stands that closes another (document 01, "The sheet").
use Rattle.std.specs.Prelude.{ℕ, ◌+◌, ◌-◌, ◌≤◌, ◌<◌, ◌≡◌, false, List, [], ◌∷◌, T, length, take, drop, get_or}
use Rattle.text.specs.Bytes.{is_bracket, is_inside, starts_inside, lines, tokens}
use Rattle.text.specs.Token.{all_bytes}
use Rattle.sheet.specs.Brackets.{BytePartner}
use Rattle.scan.specs.declared.Span.{Span}
use Rattle.scan.specs.declared.LineSpan.{LineSpan}

-- The bytes from one place to before another.
abbrev pub between : List ℕ → ℕ → ℕ → List ℕ
between text start end = take (end - start) (drop start text)

-- The first token from the place `at` on, or, where there is none, the length as start and end.
pub data TokenAt (text : List ℕ) (at : ℕ) (r : Span) : Type 0 where
  no_token : r.start ≡ length text → r.end ≡ length text → tokens (drop at text) ≡ [] → TokenAt text at r
  a_token : at ≤ r.start → r.start < r.end → r.end ≤ length text
      → tokens (drop at text) ≡ between text r.start r.end ∷ tokens (drop r.end text) → TokenAt text at r

-- The line that begins at the place `at`: none there, one that a byte 10 ends, or the last, which lacks it.
pub data LineAt (text : List ℕ) (at : ℕ) (r : LineSpan) : Type 0 where
  no_line : length text ≤ at → r.end ≡ length text → r.next ≡ length text → lines (drop at text) ≡ [] → LineAt text at r
  ended_line : at ≤ r.end → r.end < length text → r.next ≡ r.end + 1 → lines (drop at text) ≡ between text at r.end ∷ lines (drop r.next text) → LineAt text at r
  last_line : at < length text → r.end ≡ length text → r.next ≡ length text → lines (drop at text) ≡ between text at r.end ∷ [] → LineAt text at r

-- What is found where bytes between tokens are passed over: the tokens stay, and a byte of a token stands there.
pub record Skipped (text : List ℕ) (at r : ℕ) : Type 0 where
  pub within : r ≤ length text
  pub forward : r < length text → at ≤ r
  pub same : tokens (drop at text) ≡ tokens (drop r text)
  pub visible : r < length text → is_bracket (get_or text r 0) ≡ false → T (is_inside (get_or text r 0))

-- The bytes from `at` to before r are inside a run, and the run ends there.
pub record RunEnd (text : List ℕ) (at r : ℕ) : Type 0 where
  pub forward : at ≤ r
  pub within : r ≤ length text
  pub inside : T (all_bytes is_inside (between text at r))
  pub ended : starts_inside (drop r text) ≡ false

-- The place of the bracket that closes the one before `at`, or the length where none does.
pub data PartnerAt (text : List ℕ) (at : ℕ) (r : ℕ) : Type 0 where
  no_partner : r ≡ length text → ((k : ℕ) → BytePartner (drop at text) k → ⊥) → PartnerAt text at r
  a_partner : at ≤ r → r < length text → BytePartner (drop at text) (r - at) → PartnerAt text at r
