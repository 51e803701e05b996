-- Interval, reach, back and firsts of a stored node, over arbitrary lists of nodes (document 01, "Intervals and the normal form", "Letters,
-- situations, table"). proofs/ shows that on the nodes of an expression they are the expression's.
use Rattle.std.specs.Prelude.{Option, Some, None, ℕ, suc, ◌+◌, ◌-◌, min, max, Bool, cond, ◌&&◌, List, map, leb, ltb, ℤ, pos, negsuc, length, get_or}
use Rattle.meaning.specs.Arithmetic.{Interval, hull, truth_interval, operator_interval}
use Rattle.meaning.specs.Expression.{Expression, Stream}
use Rattle.meaning.specs.Interval.{interval, subexpressions}
use Rattle.meaning.specs.Window.{reach, back, firsts, largest_over}
use Rattle.meaning.specs.Situation.{all}
use Rattle.nodes.specs.Bounded.{in_bound, operator_at}
use Rattle.nodes.specs.Evaluate.{Nodes, has_node, Kind, integer_node, name_node, first_node, next_node, negation_node, conditional_node, fby_node, operator_node, kind_of, left_end, answer_up_to}
use Rattle.nodes.specs.declared.Range.{Range}
use Rattle.nodes.specs.declared.Summary.{Summary}

-- ---- intervals within the bound

abbrev pub no_range : Option Range
no_range = None

-- The interval itself, where both ends are within the magnitude bound: "6: an expression's interval leaves ±1,000,000,000."
abbrev pub range_within : Interval → Option Range
range_within I = cond (in_bound I.low && in_bound I.high) (Some (record { low = I.low; high = I.high })) no_range

abbrev pub interval_of : Range → Interval
interval_of r = record { low = r.low; high = r.high }

-- Both ends of an interval are within the bound.
abbrev pub usable : Range → Bool
usable r = in_bound r.low && in_bound r.high

-- The interval that is made of two, where both are there and their ends are within the bound.
abbrev pub combined : (Interval → Interval → Interval) → Option Range → Option Range → Option Range
combined f None b = no_range
combined f (Some a) None = no_range
combined f (Some a) (Some b) = cond (usable a && usable b) (range_within (f (interval_of a) (interval_of b))) no_range

-- "0 to 1 for truth values"
abbrev pub truth_range : Option Range → Option Range
truth_range None = no_range
truth_range (Some a) = range_within truth_interval

-- The interval of what the operator with a node's kind gives.
abbrev pub operator_range : ℕ → Option Range → Option Range → Option Range
operator_range k a b = cond (leb 7 k && ltb k 22) (combined (operator_interval (operator_at k)) a b) no_range

-- "the hull of both sides for `fby` and of both branches for `if`"; a condition without an interval leaves none.
abbrev pub branch_range : Option Range → Option Range → Option Range → Option Range
branch_range None a b = no_range
branch_range (Some c) a b = combined hull a b

-- The range of the stream with a stored number.
abbrev pub stream_range : List ℤ → List ℤ → ℤ → Option Range
stream_range lows highs (pos k) =
    cond (ltb k (length lows) && ltb k (length highs)) (range_within (record { low = get_or lows k (pos 0); high = get_or highs k (pos 0) })) no_range
stream_range lows highs (negsuc k) = no_range

-- ---- summaries

-- Counts are exact up to this number and stay at it.
abbrev pub count_limit : ℕ
count_limit = 65535

abbrev pub limited : ℕ → ℕ
limited n = min n count_limit

abbrev pub no_summary : Summary
no_summary = record { range = no_range; reach = 0; back = 0; firsts = 0; furthest = 0 }

-- "Reach: 0 for a name or integer"; "Back: 0 for a name, an integer and `first`".
abbrev pub leaf_summary : Option Range → Summary
leaf_summary r = record { range = r; reach = 0; back = 0; firsts = 0; furthest = 0 }

abbrev pub first_summary : Summary → Summary
first_summary a = record { range = a.range; reach = a.reach; back = 0; firsts = limited (suc a.firsts); furthest = max a.reach a.furthest }

-- "`next` adds 1"; "`next` takes 1 off, not below 0".
abbrev pub next_summary : Summary → Summary
next_summary a = record { range = a.range; reach = limited (suc a.reach); back = a.back - 1; firsts = a.firsts; furthest = a.furthest }

abbrev pub negation_summary : Summary → Summary
negation_summary a = record { range = truth_range a.range; reach = a.reach; back = a.back; firsts = a.firsts; furthest = a.furthest }

-- "otherwise the largest of the parts"
abbrev pub operator_summary : ℕ → Summary → Summary → Summary
operator_summary k a b =
    record {
      range = operator_range k a.range b.range;
      reach = max a.reach b.reach;
      back = max a.back b.back;
      firsts = limited (a.firsts + b.firsts);
      furthest = max a.furthest b.furthest;
    }

abbrev pub conditional_summary : Summary → Summary → Summary → Summary
conditional_summary c a b =
    record {
      range = branch_range c.range a.range b.range;
      reach = max c.reach (max a.reach b.reach);
      back = max c.back (max a.back b.back);
      firsts = limited (c.firsts + limited (a.firsts + b.firsts));
      furthest = max c.furthest (max a.furthest b.furthest);
    }

-- "`fby` is the larger of the left's reach and the right's less 1"; "`fby` is the right's plus 1".
abbrev pub fby_summary : Summary → Summary → Summary
fby_summary a b =
    record {
      range = combined hull a.range b.range;
      reach = max a.reach (b.reach - 1);
      back = limited (suc b.back);
      firsts = limited (a.firsts + b.firsts);
      furthest = max a.furthest b.furthest;
    }

module _ (N : Nodes) (lows highs : List ℤ) where
  -- The summary of node i, a node of this kind, from those of the parts that end up to i.
  abbrev pub summary_by_kind : Kind → (ℕ → Summary) → ℕ → Summary
  summary_by_kind integer_node before i = leaf_summary (range_within (record { low = get_or N.values i (pos 0); high = get_or N.values i (pos 0) }))
  summary_by_kind name_node before i = leaf_summary (stream_range lows highs (get_or N.values i (pos 0)))
  summary_by_kind first_node before i = first_summary (before i)
  summary_by_kind next_node before i = next_summary (before i)
  summary_by_kind negation_node before i = negation_summary (before i)
  summary_by_kind conditional_node before i =
      conditional_summary (before (left_end N.starts (left_end N.starts i))) (before (left_end N.starts i)) (before i)
  summary_by_kind fby_node before i = fby_summary (before (left_end N.starts i)) (before i)
  summary_by_kind operator_node before i = operator_summary (get_or N.kinds i 0) (before (left_end N.starts i)) (before i)

  unfoldable pub summary_step : (ℕ → Summary) → ℕ → Summary
  summary_step before i = summary_by_kind (kind_of (get_or N.kinds i 0)) before i

  -- The summary of the part that ends before the place e.
  unfoldable pub summary_before : ℕ → Summary
  summary_before e = answer_up_to no_summary summary_step e e

  -- The summary of the node with the place `root`.
  unfoldable pub node_summary : ℕ → Summary
  node_summary root = cond (has_node N root) (summary_before (suc root)) no_summary

-- ---- what an expression's own definitions give

-- The interval's ends are within the bound.
abbrev pub ends_in_bound : Interval → Bool
ends_in_bound I = in_bound I.low && in_bound I.high

-- An expression's interval, where the intervals of the expression and of every expression inside it are within the bound.
abbrev pub bounded_interval : List Stream → Expression → Option Range
bounded_interval ss e =
    cond (all (λ f. ends_in_bound (interval ss f)) (subexpressions e)) (Some (record { low = (interval ss e).low; high = (interval ss e).high })) no_range

abbrev pub summary_of : List Stream → Expression → Summary
summary_of ss e = record { range = bounded_interval ss e; reach = reach e; back = back e; firsts = length (firsts e); furthest = largest_over reach (firsts e) }

-- The streams' lowest and highest values.
abbrev pub lows_of : List Stream → List ℤ
lows_of ss = map (λ s. s.range.low) ss

abbrev pub highs_of : List Stream → List ℤ
highs_of ss = map (λ s. s.range.high) ss
