-- What a record of the list says, from the sheet's text and the record alone: no number of a node is needed, and no reader's store. The entries are
-- those of 000, section 3.1.
use Rattle.std.specs.Prelude.{ℕ, ◌-◌, ◌≤◌, ◌≡◌, Bool, true, false, List, [], ◌∷◌, pos, length, get_or}
use Rattle.meaning.specs.Value.{equal}
use Rattle.meaning.specs.Expression.{Expression, integer, name, first, next, negation, binary, conditional, fby, comparison, Constraint, always, until, Sheet}
use Rattle.meaning.specs.NormalForm.{rewritten, equation, all_added}
use Rattle.nodes.specs.Code.{sign_at}
use Rattle.sheet.specs.Release.{floors_quotients}
use Rattle.sheet.specs.Form.{release_in, line_tokens, layout_in}
use Rattle.scan.specs.declared.Span.{Span}
use Rattle.spans.specs.Token.{span}
use Rattle.spans.specs.Reading.{SpanReads}
use Rattle.normal_entries.specs.declared.Entry.{Entry}

-- The text from `begin` to before `end` is read as an expression, by the names of line 1, and means what the text's release makes of it; rewritten, with
-- added streams numbered from n on, it is this one.
pub data SideSays (text : List ℕ) (begin end n : ℕ) : Expression → Type 0 where
  side : {e : Expression} → SpanReads (floors_quotients (release_in text)) (line_tokens text (layout_in text).names_line) text (span begin end) e → SideSays text begin end n (rewritten n e)

pub data EntrySays (text : List ℕ) (r : Entry) : Constraint → Type 0 where
  -- a rewritten constraint
  constraint : {a b : Expression} → r.kind ≡ 1 → SideSays text r.left_begin r.left_end r.left_added a → SideSays text r.right_begin r.right_end r.right_added b
      → EntrySays text r (always (sign_at r.relation) a b)
  -- `x₁ until x₂`
  streams_until : r.kind ≡ 2 → EntrySays text r (until (name r.left) (name r.right))
  -- `x₂ == expr`
  stream_is : {b : Expression} → r.kind ≡ 3 → SideSays text r.right_begin r.right_end r.right_added b → EntrySays text r (equation r.left b)
  -- `x₁ == next x₂`
  stream_is_next : r.kind ≡ 4 → EntrySays text r (equation r.left (next (name r.right)))
  -- `first x₁ == first x₂`
  firsts_equal : r.kind ≡ 5 → EntrySays text r (always (comparison equal) (first (name r.left)) (first (name r.right)))

-- The records say the constraints, one by one.
pub data EachSays (text : List ℕ) : List Entry → List Constraint → Type 0 where
  none : EachSays text [] []
  more : {r : Entry} {rs : List Entry} {c : Constraint} {cs : List Constraint} → EntrySays text r c → EachSays text rs cs → EachSays text (r ∷ rs) (c ∷ cs)

-- The expression that an added stream of the sheet's normal form stands for.
abbrev pub stands_for : Sheet → ℕ → Expression
stands_for s k = get_or (all_added s.constraints) (k - length s.streams) (integer (pos 0))

-- The span at the left of a record that names a stream is the text of the expression that the stream stands for.
pub record LeftStands (text : List ℕ) (s : Sheet) (r : Entry) : Type 0 where
  pub reads : 2 ≤ r.kind → SpanReads (floors_quotients (release_in text)) (line_tokens text (layout_in text).names_line) text (span r.left_begin r.left_end) (stands_for s r.left)

-- A whole `next` or `fby`.
abbrev pub is_replaced : Expression → Bool
is_replaced (integer z) = false
is_replaced (name k) = false
is_replaced (first e) = false
is_replaced (next e) = true
is_replaced (negation e) = false
is_replaced (binary o a b) = false
is_replaced (conditional c a b) = false
is_replaced (fby a b) = true

-- The record marks its left span as one whose text its stream replaces.
pub record Replaces (r : Entry) (x : Span) : Type 0 where
  pub marked : r.replaces ≡ 1
  pub begin : r.left_begin ≡ x.start
  pub end : r.left_end ≡ x.end
