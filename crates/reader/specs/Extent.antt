-- Intervals, D and B over the sides of stored constraints (document 01, refusal 6, "D is the largest reach", "B is the largest back").
use Rattle.std.specs.Prelude.{ℕ, max, true, is_some, ◌&&◌, List, [], ◌∷◌, ℤ}
use Rattle.nodes.specs.Evaluate.{Nodes}
use Rattle.nodes.specs.Bounds.{node_summary}
use Rattle.nodes.specs.declared.Summary.{Summary}
use Rattle.reader.specs.declared.Extent.{Extent}

abbrev pub no_extent : Extent
no_extent = record { ok = true; ahead = 0; back = 0 }

abbrev pub with_summary : Extent → Summary → Extent
with_summary x s =
    record { ok = x.ok && is_some s.range; ahead = max (max s.reach s.furthest) x.ahead; back = max s.back x.back }

module _ (N : Nodes) (lows highs : List ℤ) where
  -- The extent of the sides whose last nodes have these places, after those before them.
  abbrev pub extent_from : Extent → List ℕ → List ℕ → Extent
  extent_from x [] rights = x
  extent_from x (l ∷ lefts) [] = x
  extent_from x (l ∷ lefts) (r ∷ rights) =
      extent_from (with_summary (with_summary x (node_summary N lows highs l)) (node_summary N lows highs r)) lefts rights
