-- Where the header lines of a sheet stand in its bytes, what the release line says, and what is refused of the constraint lines (document 01, "The
-- sheet"; document 02, S-6, S-11).
use Rattle.std.specs.Prelude.{ℕ, ◌≤◌, ◌≡◌, Bool, true, false, cond, ◌||◌, List, [], ◌∷◌, ltb, length, drop, get_or}
use Rattle.std.proofs.Math.Option.{Option, some, none}
use Rattle.sheet.specs.Release.{says_release, is_known_release, floors_quotients}
use Rattle.sheet.specs.Form.{first_tokens, release_in, lines_from_names, says_kinds, kind_tokens, constraint_lines, layout_in}
use Rattle.text.specs.Bytes.{Token, lines, tokens}
use Rattle.sheet.specs.Refusal.{constraint_bound, token_bound, token_count}
use Rattle.sheet.specs.Reading.{any_of, too_deep_from, has_header}
use Rattle.scan.specs.Integer.{IntegerRead, no_integer, integer_read}
use Rattle.refusals.specs.declared.Release.{Release}
use Rattle.scan.specs.Place.{between, LineAt}
use Rattle.scan.specs.declared.LineSpan.{LineSpan}
use Rattle.refusals.specs.declared.Header.{Header}

-- What is read of the number that a release line says; no integer where the line says none.
unfoldable pub release_read : List Token → IntegerRead
release_read ts = cond (says_release ts) (integer_read (get_or ts 1 [])) no_integer

-- Where the names line begins: behind the first line, where that says the release, or with the text.
pub data NamesLineFrom (text : List ℕ) (at : ℕ) : Type 0 where
  behind_release : {l : LineSpan} → LineAt text 0 l → says_release (first_tokens text) ≡ true → at ≡ l.next → NamesLineFrom text at
  at_start : says_release (first_tokens text) ≡ false → at ≡ 0 → NamesLineFrom text at

pub record ReleaseOf (text : List ℕ) (r : Release) : Type 0 where
  pub known : r.known ≡ is_known_release (release_in text)
  pub floors : r.floors ≡ floors_quotients (release_in text)
  pub names : NamesLineFrom text r.names_start

-- The line of kinds that begins at a place: the line there, or, where that says none, no bytes.
pub data KindsLineAt (text : List ℕ) (at : ℕ) (r : LineSpan) : Type 0 where
  said : LineAt text at r → says_kinds (tokens (between text at r.end)) ≡ true → KindsLineAt text at r
  unsaid : {l : LineSpan} → LineAt text at l → says_kinds (tokens (between text at l.end)) ≡ false → r.end ≡ at → r.next ≡ at → KindsLineAt text at r

-- What a line of kinds says; one without tokens says nothing.
abbrev pub said_tokens : List Token → Option (List Token)
said_tokens [] = none
said_tokens (t ∷ ts) = some (t ∷ ts)

-- The places are those of the first three lines from the names on, each found behind the one before it, a missing line without bytes, of the line of
-- kinds, and of the lines after them.
pub record HeaderOf (text : List ℕ) (h : Header) : Type 0 where
  pub names_from : NamesLineFrom text h.names_start
  pub names_at : LineAt text h.names_start (record { end = h.names_end; next = h.lows_start })
  pub lows_at : LineAt text h.lows_start (record { end = h.lows_end; next = h.highs_start })
  pub highs_at : LineAt text h.highs_start (record { end = h.highs_end; next = h.kinds_start })
  pub kinds_line : KindsLineAt text h.kinds_start (record { end = h.kinds_end; next = h.constraints })
  pub names : between text h.names_start h.names_end ≡ get_or (lines_from_names text) (layout_in text).names_line []
  pub names_ordered : h.names_start ≤ h.names_end
  pub names_within : h.names_end ≤ length text
  pub lows : between text h.lows_start h.lows_end ≡ get_or (lines_from_names text) (layout_in text).lows_line []
  pub lows_ordered : h.lows_start ≤ h.lows_end
  pub lows_within : h.lows_end ≤ length text
  pub highs : between text h.highs_start h.highs_end ≡ get_or (lines_from_names text) (layout_in text).highs_line []
  pub highs_ordered : h.highs_start ≤ h.highs_end
  pub highs_within : h.highs_end ≤ length text
  pub kinds : kind_tokens text ≡ said_tokens (tokens (between text h.kinds_start h.kinds_end))
  pub kinds_ordered : h.kinds_start ≤ h.kinds_end
  pub kinds_within : h.kinds_end ≤ length text
  pub constraints : lines (drop h.constraints text) ≡ constraint_lines text
  pub constraints_within : h.constraints ≤ length text
  pub count : (layout_in text).constraints_from ≡ cond (ltb h.kinds_start h.kinds_end) 4 3
  pub floors : h.floors ≡ floors_quotients (release_in text)
  pub whole : h.whole ≡ has_header text

-- What refusal 2 says of the constraint lines.
unfoldable pub constraint_lines_refused : List (List ℕ) → Bool
constraint_lines_refused ls = ltb constraint_bound (length ls) || ltb token_bound (token_count ls) || any_of (too_deep_from 0 0) ls
