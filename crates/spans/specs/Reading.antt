-- What the text of a span says: its tokens are read as an expression, to which `floors` (whether quotients are rounded down; document 02, S-11) gives its
-- meaning, and it goes from a byte of a token to behind a byte of a token, so from the first byte
-- of the expression's first token to behind the last byte of its last token.
use Rattle.std.specs.Prelude.{ℕ, ◌-◌, ◌≤◌, ◌<◌, ◌≡◌, Bool, List, [], ◌∷◌, T, length, get_or}
use Rattle.text.specs.Bytes.{Token, tokens}
use Rattle.meaning.specs.Expression.{Expression}
use Rattle.sheet.specs.Release.{meant}
use Rattle.sheet.specs.Grammar.{expression, Reads}
use Rattle.scan.specs.Place.{between}
use Rattle.scan.specs.Start.{is_visible}
use Rattle.scan.specs.declared.Span.{Span}

pub record SpanReads (floors : Bool) (names : List Token) (text : List ℕ) (s : Span) (e : Expression) : Type 0 where
  pub ordered : s.start < s.end
  pub within : s.end ≤ length text
  pub first : T (is_visible (get_or text s.start 0))
  pub last : T (is_visible (get_or text (s.end - 1) 0))
  pub written : Expression
  pub reads : Reads names expression (tokens (between text s.start s.end)) written
  pub meaning : meant floors written ≡ e

-- The texts of the spans are read as the expressions, one by one.
pub data EachReads (floors : Bool) (names : List Token) (text : List ℕ) : List Span → List Expression → Type 0 where
  none : EachReads floors names text [] []
  more : {s : Span} {ss : List Span} {e : Expression} {es : List Expression} → SpanReads floors names text s e → EachReads floors names text ss es → EachReads floors names text (s ∷ ss) (e ∷ es)
