-- Sweeps: one row after the other, and one sweep after the other. From the definitions of turns.
use Prim.Native.Nat.{ℕ, suc, ◌+◌, ◌-◌, ◌<◌, ◌≤◌}
use mathlib.Core.Path.{◌≡◌, refl, sym, ◌∙◌, subst, transport}
use mathlib.Core.Logic.{◌⊎◌, inl, inr, ⊎_elim}
use mathlib.Core.Bool.{Bool, true, false, cond}
use mathlib.Core.List.{List}
use native.Mathlib.Omega.{arith}
use native.Mathlib.Numerals.{add-one}
use native.Mathlib.Decide.{ℕ_discrete}
use lib.ListN.{length, replicate}
use Rattle.automaton.specs.Stored.{final_at}
use Rattle.automaton.specs.PlayTable.{Game}
use Rattle.automaton.specs.Ranking.{NoneToTurn, RankTurns, none, turn, AllTurned}
use Rattle.automaton.proofs.Turns.{turns_rise, turns_then}
use Rattle.marks.specs.Marks.{IsFlagged}
use Rattle.winning_rows.specs.Sweeps.{lent_game, GameFits, RowTurned, RowsSwept, RowsRanked}

-- ---- as many rows and choices

pub fits-sized : {entries choice : List ℕ} {m m' r r' : ℕ} → m ≡ m' → r ≡ r' → GameFits entries choice m r → GameFits entries choice m' r'
fits-sized {entries} {choice} em er x = transport (λ i. GameFits entries choice (em i) (er i)) x

pub turned_sized : (entries choice : List ℕ) {m m' r r' s s' : ℕ} (to : Bool) (next : ℕ) (old new : List ℕ) (changed : Bool) → m ≡ m' → r ≡ r' → s ≡ s'
    → ((final : ℕ → ℕ) → RowTurned (lent_game entries choice m r final) to next s old new changed) → (final : ℕ → ℕ) → RowTurned (lent_game entries choice m' r' final) to next s' old new changed
turned_sized entries choice to next old new changed em er es x = transport (λ i. (final : ℕ → ℕ) → RowTurned (lent_game entries choice (em i) (er i) final) to next (es i) old new changed) x

pub swept_sized : (entries choice : List ℕ) {m m' r r' : ℕ} {to : Bool} {old new : List ℕ} {first next : ℕ} → m ≡ m' → r ≡ r'
    → ((final : ℕ → ℕ) → RowsSwept (lent_game entries choice m r final) to (λ s. s < r) old first new next) → (final : ℕ → ℕ) → RowsSwept (lent_game entries choice m' r' final) to (λ s. s < r') old first new next
swept_sized entries choice {to = to} {old} {new} {first} {next} em er x = transport (λ i. (final : ℕ → ℕ) → RowsSwept (lent_game entries choice (em i) (er i) final) to (λ s. s < er i) old first new next) x

-- ---- the rows that a sweep has seen

-- after i rows of a sweep down or up
abbrev pub SeenIn : Bool → (rows i s : ℕ) → Type 0
SeenIn true rows i s = (rows ≤ s + i) × (s < rows)
SeenIn false rows i s = s < i

seen_more : (down : Bool) (rows i s : ℕ) → i < rows → SeenIn down rows (i + 1) s → SeenIn down rows i s ⊎ (s ≡ cond down (rows - 1 - i) i)
seen_more true rows i s h x = by (ℕ_discrete s (rows - 1 - i))
  where
    by : Dec (s ≡ rows - 1 - i) → ((rows ≤ s + i) × (s < rows)) ⊎ (s ≡ rows - 1 - i)
    by (yes e) = inr e
    by (no e) = inl (omega (arith, x.0, x.1), x.1)
seen_more false rows i s h x = by (ℕ_discrete s i)
  where
    by : Dec (s ≡ i) → (s < i) ⊎ (s ≡ i)
    by (yes e) = inr e
    by (no e) = inl (omega arith)

seen_all : (down : Bool) (rows s : ℕ) → s < rows → SeenIn down rows rows s
seen_all true rows s h = (omega arith, h)
seen_all false rows s h = h

seen_none : (down : Bool) (rows s : ℕ) → ¬ SeenIn down rows 0 s
seen_none true rows s x = omega (arith, x.0, x.1)
seen_none false rows s x = omega arith

pub row_inside : (down : Bool) (rows i : ℕ) → i < rows → cond down (rows - 1 - i) i < rows
row_inside true rows i h = omega arith
row_inside false rows i h = h

-- ---- one row after the other

module _ {G : Game} {to : Bool} where
  pub swept_start : (down : Bool) (rows : ℕ) (ranks : List ℕ) (first : ℕ) → RowsSwept G to (SeenIn down rows 0) ranks first ranks first
  swept_start down rows ranks first = record { turns = none; settled = λ e s x. absurd (seen_none down rows s x) }

  -- the i-th row of the sweep is turned,
  pub swept_turned : (down : Bool) (rows i : ℕ) {first next after : ℕ} {old mid : List ℕ} (new : List ℕ) (changed : Bool) → after ≡ next + 1 → i < rows → rows ≤ length mid → changed ≡ true → RowsSwept G to (SeenIn down rows i) old first mid next
      → RowTurned G to next (cond down (rows - 1 - i) i) mid new changed → RowsSwept G to (SeenIn down rows (i + 1)) old first new after
  swept_turned down rows i {first} {next} {after} {old} {mid} new changed one h long e w x =
      let y : RowTurned G to next (cond down (rows - 1 - i) i) mid new true = rw e at x in
      record {
        turns = subst (RankTurns G to old first new) (sym (one ∙ add-one next)) (subst (λ l. RankTurns G to old first l (suc next)) (sym y.1) (turn w.turns (omega (arith, row_inside down rows i h)) y.0));
        settled = λ z. absurd (omega (arith, turns_rise w.turns));
      }

  -- or nothing is to be turned at it
  pub swept_kept : (down : Bool) (rows i : ℕ) {first next after : ℕ} {old mid : List ℕ} (new : List ℕ) (changed : Bool) → after ≡ next → i < rows → changed ≡ false → RowsSwept G to (SeenIn down rows i) old first mid next
      → RowTurned G to next (cond down (rows - 1 - i) i) mid new changed → RowsSwept G to (SeenIn down rows (i + 1)) old first new after
  swept_kept down rows i {first} {next} {after} {old} {mid} new changed same h e w x =
      let y : RowTurned G to next (cond down (rows - 1 - i) i) mid new false = rw e at x in
      record {
        turns = subst (RankTurns G to old first new) (sym same) (subst (λ l. RankTurns G to old first l next) (sym y.0) w.turns);
        settled = λ z s seen. subst (λ l. NoneToTurn G to l s) (sym y.0) (⊎_elim (λ q. w.settled (sym same ∙ z) s q) (λ q. subst (NoneToTurn G to mid) (sym q) y.1) (seen_more down rows i s h seen));
      }

  -- all rows
  pub swept_all : (down : Bool) (rows i : ℕ) {first next : ℕ} {old new : List ℕ} → rows ≡ i → RowsSwept G to (SeenIn down rows i) old first new next → RowsSwept G to (λ s. s < rows) old first new next
  swept_all down rows i e w = record { turns = w.turns; settled = λ z s h. w.settled z s (subst (λ j. SeenIn down rows j s) e (seen_all down rows s h)) }

  -- ---- one sweep after the other

  -- after one over all rows that turned nothing all rows are settled
  pub sweeps_end : {rows first next last : ℕ} {old mid new : List ℕ} → length new ≡ rows → RankTurns G to old first mid next → RowsSwept G to (λ s. s < rows) mid next new last → last ≡ next → AllTurned G to old first new
  sweeps_end {next = next} long t w e = record { next = _; turns = turns_then t w.turns; settled = λ s h. w.settled e s (omega arith) }

-- ---- the passes

turned_all_sized : (entries choice : List ℕ) {m m' r r' : ℕ} {to : Bool} {old new : List ℕ} {first : ℕ} → m ≡ m' → r ≡ r'
    → ((final : ℕ → ℕ) → AllTurned (lent_game entries choice m r final) to old first new) → (final : ℕ → ℕ) → AllTurned (lent_game entries choice m' r' final) to old first new
turned_all_sized entries choice {to = to} {old} {new} {first} em er x = transport (λ i. (final : ℕ → ℕ) → AllTurned (lent_game entries choice (em i) (er i) final) to old first new) x

-- one pass after the other, each from what the pass before left
pub passes-ranked : (entries choice finals ranks₀ : List ℕ) {m₀ m₁ : ℕ} {ranks₁ safe seeds ranks : List ℕ} → ranks₁ ≡ replicate (length ranks₀) 1 → length ranks₁ ≡ length ranks₀ → length safe ≡ length ranks₁ → length seeds ≡ length safe → m₁ ≡ m₀
    → ((final : ℕ → ℕ) → AllTurned (lent_game entries choice m₀ (length ranks₁) final) false ranks₁ 2 safe) → IsFlagged finals safe seeds
    → ((final : ℕ → ℕ) → AllTurned (lent_game entries choice m₁ (length seeds) final) true seeds 2 ranks) → RowsRanked (lent_game entries choice m₀ (length ranks₀) (final_at finals)) ranks
passes-ranked entries choice finals ranks₀ {m₀} {ranks₁ = ranks₁} {safe} {seeds} {ranks} ones e₁ e₂ e₃ em prune keep grow =
    let G = lent_game entries choice m₀ (length ranks₀) (final_at finals) in
    record {
      safe = safe;
      seeds = seeds;
      passes =
          record {
            pruned = subst (λ old. AllTurned G false old 2 safe) ones (turned_all_sized entries choice refl e₁ prune (final_at finals));
            seeded = record { same = e₃; kept = λ s h. keep.kept s h; cleared = λ s h. keep.cleared s h };
            grown = turned_all_sized entries choice em (e₃ ∙ e₂ ∙ e₁) grow (final_at finals);
          };
    }
