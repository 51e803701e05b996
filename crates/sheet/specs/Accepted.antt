-- What document 01 settles about a sheet that none of the refusals 1 to 7 applies to.
use Rattle.std.specs.Prelude.{◌+◌, ◌≤◌, ◌<◌, ◌≡◌, false, T, length, ◌≤ℤ◌}
use mathlib.Core.List.{List, Memᴰ}
use Rattle.basics.specs.Count.{NoRepeats}
use Rattle.text.specs.Bytes.{Token}
use Rattle.text.specs.Token.{is_name, is_reserved}
use Rattle.meaning.specs.Expression.{Expression, Constraint, Stream, Sheet}
use Rattle.meaning.specs.Interval.{interval, SidesBelow}
use Rattle.meaning.specs.Letter.{letter_count}
use Rattle.meaning.specs.Window.{all_firsts, all_untils, B, D}
use Rattle.sheet.specs.Form.{names_of}
use Rattle.sheet.specs.Refusal.{stream_bound, constraint_bound, token_bound, letter_bound, until_bound, first_bound, window_bound, StandsIn, InBounds}
use Rattle.sheet.specs.Reading.{all_expressions}

-- The streams of such a sheet, but for the number of their letters.
pub record AcceptedStreams (ss : List Stream) : Type 0 where
  pub some_stream : 0 < length ss
  pub stream_count : length ss ≤ stream_bound
  pub are_names : (t : Token) → Memᴰ t (names_of ss) → T (is_name t)
  pub no_reserved : (t : Token) → Memᴰ t (names_of ss) → is_reserved t ≡ false
  pub no_repeats : NoRepeats (names_of ss)
  pub ranges_ordered : (x : Stream) → Memᴰ x ss → x.range.low ≤ℤ x.range.high
  pub ranges_in_bounds : (x : Stream) → Memᴰ x ss → InBounds x.range

pub record Accepted (s : Sheet) : Type 0 where
  pub streams : AcceptedStreams s.streams
  -- the constraints; each expression and each sign has a token of its own
  pub constraint_count : length s.constraints ≤ constraint_bound
  pub expression_count : length (all_expressions s.constraints) + length s.constraints ≤ token_bound
  pub names_known : (c : Constraint) → Memᴰ c s.constraints → SidesBelow (length s.streams) c
  pub intervals_in_bounds : (e : Expression) → StandsIn s.constraints e → InBounds (interval s.streams e)
  -- the letters and the situations
  pub some_letter : 1 ≤ letter_count s.streams
  pub letters : letter_count s.streams ≤ letter_bound
  pub untils : length (all_untils s.constraints) ≤ until_bound
  pub firsts : length (all_firsts s.constraints) ≤ first_bound
  pub window : D s.constraints + B s.constraints ≤ window_bound
