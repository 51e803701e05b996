-- Nodes of `first`, `next` and `not` that stand one before the other, and what they make of the summary of the part behind them.
use Rattle.std.specs.Prelude.{ℕ, ◌≤◌, ◌<◌, ◌≡◌, Bool, true, cond, ◌&&◌, List, leb, ltb, eqb, ℤ, get_or}
use Rattle.nodes.specs.Evaluate.{Nodes}
use Rattle.nodes.specs.Bounds.{first_summary, next_summary, negation_summary, summary_before}
use Rattle.nodes.specs.declared.Summary.{Summary}

-- A node of this kind is that of a `first`, a `next` or a `not`.
abbrev pub is_prefix : ℕ → Bool
is_prefix k = leb 2 k && ltb k 5

-- What such a node makes of the summary of what it stands before.
abbrev pub prefix_summary : ℕ → Summary → Summary
prefix_summary k a = cond (eqb k 2) (first_summary a) (cond (eqb k 3) (next_summary a) (negation_summary a))

-- The nodes from d to before e are such nodes, each before the part that ends where it stands.
pub record Prefixes (kinds : List ℕ) (d e : ℕ) : Type 0 where
  pub ends_within : d ≤ e
  pub each : (i : ℕ) → d ≤ i → i < e → is_prefix (get_or kinds i 0) ≡ true

-- From a, the summary of the part that ends at d, comes b, the summary of the part that ends at e, whatever else is stored.
pub record SummaryLeads (kinds : List ℕ) (d : ℕ) (a : Summary) (e : ℕ) (b : Summary) : Type 0 where
  pub summary : (N : Nodes) (lows highs : List ℤ) → N.kinds ≡ kinds → a ≡ summary_before N lows highs d → b ≡ summary_before N lows highs e
