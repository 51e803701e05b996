-- From the passes and the filled play table to the outcome of `find_play`; and the outcome is one, but for the letters that are free. From the laws of rankings.
use Prim.Native.Nat.{ℕ, ◌+◌, ◌-◌, ◌*◌, ◌<◌, ◌≤◌}
use mathlib.Core.Path.{◌≡◌, refl, sym, ◌∙◌, subst, transport}
use mathlib.Core.Logic.{inl}
use mathlib.Core.Bool.{Bool, true, false, not, cond}
use mathlib.Core.List.{List}
use native.Mathlib.Omega.{arith}
use lib.ListN.{length, drop, replicate, length-drop}
use lib.Seq.{get_or-drop}
use lib.Dec.{eqb}
use borrow.Author.Tests.{eqb-true, eqb-false, not-true, not-false}
use Rattle.basics.specs.Clearing.{ClearedFrom}
use Rattle.basics.proofs.Clearing.{all-zero, cleared-all}
use Rattle.automaton.specs.Table.{no_state}
use Rattle.automaton.specs.Stored.{entry_at, final_at}
use Rattle.automaton.specs.PlayTable.{Game}
use Rattle.automaton.specs.Ranking.{rank_of, IsPlayed, PlaysRanking}
use Rattle.automaton.proofs.Places.{place-before}
use Rattle.automaton.proofs.Ranking.{passes_ranking, ranked-same}
use Rattle.automaton.proofs.RankedPlay.{lacking-same}
use Rattle.winning_rows.specs.Sweeps.{lent_game, RowsRanked}
use Rattle.winning_rows.specs.Play.{PlayFits, HoldsRanking, PlayOutcome, unfit, lost, won}

-- as much room for as many rows
pub room-sized : {rows rows' room room' : ℕ} (choices : ℕ) → rows' ≡ rows → room' ≡ room → rows * choices ≤ room → rows' * choices ≤ room'
room-sized choices er es h = transport (λ i. sym er i * choices ≤ sym es i) h

module _ (entries finals choice : List ℕ) (choices rows room : ℕ) where
  abbrev G : Game
  G = lent_game entries choice choices rows (final_at finals)

  -- ---- where the rows do not fit

  pub unfit-cleared : {play play' : List ℕ} → ¬ PlayFits entries choice choices rows room → length play ≡ room → ClearedFrom play play' 0 → PlayOutcome entries finals choice choices rows room false play'
  unfit-cleared n e c = subst (PlayOutcome entries finals choice choices rows room false) (sym (cleared-all c ∙ (λ i. replicate (e i) 0))) (unfit n)

  -- ---- where they do

  kept_ranking : {ranks play play' : List ℕ} → length play ≡ room → PlaysRanking G ranks (entry_at choices play) → ClearedFrom play play' (rows * choices) → HoldsRanking G ranks room play'
  kept_ranking {ranks} {play} {play'} e P c =
      record {
        size = c.same ∙ e;
        plays = λ s a h ha. subst (IsPlayed G ranks s a) (sym (c.below (s * choices + a) (omega (arith, place-before choices s a rows 0 ha (inl h))))) (P s a h ha);
        beyond = all-zero (drop (rows * choices) play') (room - rows * choices) (omega (arith, length-drop (rows * choices) play', c.same, e)) λ i. get_or-drop (rows * choices) play' i 0 ∙ c.beyond (rows * choices + i) (omega arith);
      }

  by_rank : {ranks play play' : List ℕ} (w : Bool) → PlayFits entries choice choices rows room → RowsRanked G ranks → not (eqb (rank_of ranks 0) 0) ≡ w → length play ≡ room → PlaysRanking G ranks (entry_at choices play)
      → ClearedFrom play play' (cond w (rows * choices) 0) → PlayOutcome entries finals choice choices rows room w play'
  by_rank {ranks} true fits R e long P c = won fits (passes_ranking R.passes) (eqb-false (rank_of ranks 0) 0 (not-true _ e)) (kept_ranking long P c)
  by_rank {ranks} false fits R e long P c =
      subst (PlayOutcome entries finals choice choices rows room false) (sym (cleared-all c ∙ (λ i. replicate (long i) 0))) (lost fits (passes_ranking R.passes) λ r. r (eqb-true (rank_of ranks 0) 0 (not-false _ e)))

  pub play-outcome : {ranks play play' : List ℕ} {m r kept : ℕ} → m ≡ choices → r ≡ rows → PlayFits entries choice choices rows room → RowsRanked (lent_game entries choice m rows (final_at finals)) ranks → length play ≡ room
      → ((final : ℕ → ℕ) → PlaysRanking (lent_game entries choice choices r final) ranks (entry_at choices play)) → kept ≡ cond (not (eqb (rank_of ranks 0) 0)) (r * choices) 0 → ClearedFrom play play' kept
      → PlayOutcome entries finals choice choices rows room (not (eqb (rank_of ranks 0) 0)) play'
  play-outcome {ranks} {play} {play'} em er fits R long P e c =
      by_rank (not (eqb (rank_of ranks 0) 0)) fits (transport (λ i. RowsRanked (lent_game entries choice (em i) rows (final_at finals)) ranks) R) refl long
      (transport (λ i. PlaysRanking (lent_game entries choice choices (er i) (final_at finals)) ranks (entry_at choices play)) (P (final_at finals)))
      (subst (ClearedFrom play play') (e ∙ (λ i. cond (not (eqb (rank_of ranks 0) 0)) (er i * choices) 0)) c)

  -- ---- the outcome is one, but for the letters that are free

  pub outcome_unique : {b b' : Bool} {play play' : List ℕ} → PlayOutcome entries finals choice choices rows room b play → PlayOutcome entries finals choice choices rows room b' play'
      → (b ≡ b') × (length play ≡ length play') × ((s c : ℕ) → s < rows → c < choices → entry_at choices play s c ≡ no_state → entry_at choices play' s c ≡ no_state) × (drop (rows * choices) play ≡ drop (rows * choices) play')
  outcome_unique (unfit n) (unfit n') = (refl, refl, (λ s c h hc e. e), refl)
  outcome_unique (unfit n) (lost f R r) = (refl, refl, (λ s c h hc e. e), refl)
  outcome_unique (unfit n) (won f R r h) = absurd (n f)
  outcome_unique (lost f R r) (unfit n) = (refl, refl, (λ s c h hc e. e), refl)
  outcome_unique (lost f R r) (lost f' R' r') = (refl, refl, (λ s c h hc e. e), refl)
  outcome_unique (lost f R r) (won f' R' r' h) = absurd (r (ranked-same R' R 0 r'))
  outcome_unique (won f R r h) (unfit n) = absurd (n f)
  outcome_unique (won f R r h) (lost f' R' r') = absurd (r' (ranked-same R R' 0 r))
  outcome_unique (won f R r h) (won f' R' r' h') = (
    refl,
    h.size ∙ sym h'.size,
    λ s c hs hc e. lacking-same R' R s c hc (omega (arith, f.rows_fit.choices_fit.few)) (h'.plays s c hs hc) (h.plays s c hs hc) e,
    h.beyond ∙ sym h'.beyond,
  )
