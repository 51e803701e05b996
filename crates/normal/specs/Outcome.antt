-- What stands in the tables for the reader's answer to a text: the entries of the sheet, or a refusal's number with zeros.
use Rattle.std.specs.Prelude.{Option, ℕ, List, length}
use Rattle.meaning.specs.Expression.{Sheet}
use Rattle.sheet.specs.Refusal.{Answer, refused, sheet}
use Rattle.nodes.specs.Postfix.{all_nodes}
use Rattle.nodes.specs.Evaluate.{nodes_of}
use Rattle.nodes.specs.Bounds.{lows_of, highs_of}
use Rattle.nodes.specs.declared.Range.{Range}
use Rattle.spans.specs.Stored.{span_table}
use Rattle.normal.specs.Rows.{rewriting_lines}
use Rattle.normal.specs.Stored.{range_before}
use Rattle.normal_entries.specs.Entries.{refused_made}
use Rattle.normal.specs.Table.{made_tables}
use Rattle.normal_entries.specs.declared.Made.{Made}

-- The range of the part of the sheet's stored nodes that ends before a place.
abbrev pub sheet_range : Sheet → ℕ → Option Range
sheet_range s = range_before (nodes_of (all_nodes 0 0 s.constraints)) (lows_of s.streams) (highs_of s.streams)

abbrev pub entries_for : List ℕ → Answer → ℕ → Made
entries_for text (refused n) room = refused_made n
entries_for text (sheet s) room = made_tables (rewriting_lines 0 s.constraints) (length s.streams) (sheet_range s) (span_table text) room
