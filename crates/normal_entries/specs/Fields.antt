-- The fields of a record that depend on its kind (`normal/specs/Encoded` says what they are).
use Rattle.std.specs.Prelude.{ℕ, suc, Bool, cond, ◌&&◌, ◌||◌, eqb, ltb, ℤ}
use Rattle.meaning.specs.Expression.{set_kind}
use Rattle.nodes.specs.Code.{stream_kind_code}
use Rattle.scan.specs.declared.Span.{Span}
use Rattle.normal_entries.specs.Row.{Row}
use Rattle.normal_entries.specs.declared.Entry.{Entry}

-- Kind 1 names its left side, and kinds 1 and 3 their right side, by a node; the others name streams.
abbrev pub left_is_node : ℕ → Bool
left_is_node kind = eqb kind 1

abbrev pub right_is_node : ℕ → Bool
right_is_node kind = eqb kind 1 || eqb kind 3

-- `x₁ == next x₂`, where x₁ stands for a whole `next`, and `first x₁ == first x₂`, where x₁ stands for a whole `fby`. In the other entry of kind 4, that
-- of `fby`, the left stream stands for the right side, and its number is the larger.
abbrev pub replaces_in : ℕ → ℕ → ℕ → ℕ
replaces_in kind left right = cond (eqb kind 5 || (eqb kind 4 && ltb left right)) 1 0

-- The places behind the nodes whose expressions' spans the record has; 0 where it has none.
abbrev pub left_behind : Row → ℕ
left_behind r = cond (left_is_node r.kind) (suc r.left) r.source

abbrev pub right_behind : Row → ℕ
right_behind r = cond (right_is_node r.kind) (suc r.right) 0

-- The record of a row, where `span_of` gives the span of the expression whose node stands before a place, and the ends are those of the stream's range.
-- Where the left is a stream, it is an added one and so `set`.
abbrev pub entry_with : (ℕ → Span) → Row → ℤ → ℤ → Entry
entry_with span_of r low high =
    record {
      kind = r.kind;
      relation = r.relation;
      stream_kind = stream_kind_code set_kind;
      replaces = replaces_in r.kind r.left r.right;
      left = cond (left_is_node r.kind) 0 r.left;
      left_added = r.left_added;
      left_begin = (span_of (left_behind r)).start;
      left_end = (span_of (left_behind r)).end;
      right = cond (right_is_node r.kind) 0 r.right;
      right_added = r.right_added;
      right_begin = (span_of (right_behind r)).start;
      right_end = (span_of (right_behind r)).end;
      low = low;
      high = high;
    }
