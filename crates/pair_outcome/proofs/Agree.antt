-- What the search of the pairs gives depends on the cuts of the joined letters alone, not on what stands behind them.
use Prim.Native.Nat.{ℕ, ◌+◌, ◌*◌, ◌/◌, ◌%◌, ◌<◌}
use mathlib.Core.Path.{◌≡◌, sym, ap₂, subst, ◌∙◌}
use mathlib.Core.Bool.{false, ◌&&◌}
use lib.Dec.{ltb}
use Rattle.automaton.specs.WellFormed.{most_rows}
use Rattle.automaton.specs.Reachable.{System, Reach, Reach.start, Reach.step, IsRow, IsRow.no_row, IsRow.row, SearchedKeys}
use Rattle.automaton.specs.Join.{TwoTables}
use Rattle.automaton.specs.PairSearch.{pair_system}
use Rattle.pairs.specs.Rows.{MorePairs}
use Rattle.pairs.specs.Found.{PairTables, PairsOutcome, found, none}

module _ (letters : ℕ) (l l' r r' : ℕ → ℕ) (e e' : ℕ → ℕ → ℕ) (f f' : ℕ → ℕ) (left : (a : ℕ) → a < letters → l a ≡ l' a) (right : (a : ℕ) → a < letters → r a ≡ r' a) where
  abbrev T : TwoTables
  T = record { letters = letters; left = l; right = r; left_entry = e; right_entry = e'; left_final = f; right_final = f' }

  abbrev T' : TwoTables
  T' = record { letters = letters; left = l'; right = r'; left_entry = e; right_entry = e'; left_final = f; right_final = f' }

  abbrev S : System
  S = pair_system T most_rows

  abbrev S' : System
  S' = pair_system T' most_rows

  ok_same : (x a : ℕ) → a < letters → S.ok x a ≡ S'.ok x a
  ok_same x a h = ap₂ (λ (p q : ℕ). ltb (e (x / most_rows) p) most_rows && ltb (e' (x % most_rows) q) most_rows) (left a h) (right a h)

  after_same : (x a : ℕ) → a < letters → S.after x a ≡ S'.after x a
  after_same x a h = ap₂ (λ (p q : ℕ). e (x / most_rows) p * most_rows + e' (x % most_rows) q) (left a h) (right a h)

  reach-agree : {x : ℕ} → Reach S x → Reach S' x
  reach-agree start = start
  reach-agree (step {x} a h p o) = subst (Reach S') (sym (after_same x a h)) (step a h (reach-agree p) (sym (ok_same x a h) ∙ o))

  row-agree : {key : ℕ → ℕ} {n x a v : ℕ} → a < letters → IsRow S key n x a v → IsRow S' key n x a v
  row-agree {x = x} {a} h (no_row p o) = no_row p (sym (ok_same x a h) ∙ o)
  row-agree {x = x} {a} h (row b o p) = row b (sym (ok_same x a h) ∙ o) (p ∙ after_same x a h)

  searched-agree : {limit n : ℕ} {key : ℕ → ℕ} {entry : ℕ → ℕ → ℕ} {byte : ℕ → ℕ} → SearchedKeys S limit key entry byte false n → SearchedKeys S' limit key entry byte false n
  searched-agree z =
      record {
        known = record { some_row = z.known.some_row; first = z.known.first; distinct = z.known.distinct; reached = λ i h. reach-agree (z.known.reached i h); flagged = z.known.flagged };
        within = z.within;
        first_met = z.first_met;
        outcome = λ i a h k. row-agree k (z.outcome i a h k);
      }

  more-agree : {limit : ℕ} → MorePairs T limit → MorePairs T' limit
  more-agree m =
      let z = m.searched in
      record {
        key = m.key;
        entry = m.entry;
        byte = m.byte;
        count = m.count;
        searched =
            record {
              known = record { some_row = z.known.some_row; first = z.known.first; distinct = z.known.distinct; reached = λ i h. reach-agree (z.known.reached i h); flagged = z.known.flagged };
              within = z.within;
              first_met = z.first_met;
              outcome = record { full = z.outcome.full; other = z.outcome.other; reached = reach-agree z.outcome.reached; new = z.outcome.new };
            };
      }

  pub pairs-agree : {left_cuts right_cuts left_letters right_letters limit n : ℕ} {before after : PairTables} → PairsOutcome left_cuts right_cuts T left_letters right_letters limit before after n
      → PairsOutcome left_cuts right_cuts T' left_letters right_letters limit before after n
  pairs-agree (found h w) =
      found
      (record {
        key = h.key;
        rows = searched-agree h.rows;
        entries_long = h.entries_long;
        flags_long = h.flags_long;
        entries_beyond = h.entries_beyond;
        flags_beyond = h.flags_beyond;
      }) w
  pairs-agree (none m p q w) = none (λ x. more-agree (m x)) p q w
