-- The game on the table of a set that settles, by a ranking of its states: from a ranked state the controller forces a solution by following the play table
-- of the ranking, and from any other state the environment prevents one. So the play table of a ranking is a play table. From the laws of tables, of sets
-- that settle, of play tables and of rankings.
use mathlib.Core.Path.{◌≡◌, refl, sym, ◌∙◌, ap, subst}
use mathlib.Core.Logic.{◌⊎◌, inl, inr, ⊎_elim, ◌≢◌}
use mathlib.Core.List.{List, [], ◌∷◌}
use Prim.Native.Nat.{ℕ, zero, suc, ◌<◌, ◌≤◌}
use native.Mathlib.Omega.{arith}
use native.Mathlib.Decide.{dec_lt, ℕ_discrete}
use lib.ListN.{length}
use Rattle.automaton.specs.Words.{Word, tail, prefix, InRange}
use Rattle.automaton.specs.Solutions.{Settles}
use Rattle.automaton.specs.Table.{no_state, walk, run, Follows, IsTable}
use Rattle.automaton.specs.Strategies.{AreChoices, Controller, Environment, PlayedBy, ChosenBy, Forces, Prevents}
use Rattle.automaton.specs.PlayTable.{Game, LeadsTo, PreventsFrom, KeepsRow, LacksRow, IsMove, FinalWithin, here, later, ForcedRow, PreventedRow, IsPlayTable}
use Rattle.automaton.specs.Ranking.{rank_of, Ranked, Unanswered, Lost, lost, IsRanking, MayPlay, IsPlayed, played, nothing, PlaysRanking}
use Rattle.automaton.proofs.States.{leads-same, final-stays, continuation_followed, continuation_final}
use Rattle.automaton.proofs.Solutions.{solutions_sym}
use Rattle.automaton.proofs.Strategies.{forces-same, prevents-same}
use Rattle.automaton.proofs.PlayTable.{IsPlayable, playable_forces}
use Rattle.automaton.proofs.Turns.{ranked-inside, unranked-zero}
use Rattle.automaton.proofs.RankedPlay.{below-highest, highest-below}

-- ---- the environment, by a ranking

module _ {G : Game} {safe ranks : List ℕ} (R : IsRanking G safe ranks) where
  -- why a state has no rank: the play is lost, or it is not final and some choice has no answer into a ranked state
  unranked-reason : (i : ℕ) → i < G.states → ¬ Ranked ranks i → Lost G i ⊎ ((G.final i ≢ 1) × Unanswered G ranks i)
  unranked-reason i h n = by (ℕ_discrete (rank_of safe i) 0)
    where
      by : Dec (rank_of safe i ≡ 0) → Lost G i ⊎ ((G.final i ≢ 1) × Unanswered G ranks i)
      by (yes z) = inl (R.unsafe_lost i h λ r. r z)
      by (no r) = inr ((λ f. n λ z. omega (arith, R.final_first i r f)), R.unranked i h n)

  -- where the play stands, and why the environment prevents a solution from there
  data Position (i : ℕ) : Type 0 where
    falling : Lost G i → Position i
    held : Unanswered G ranks i → Position i
    over : Position i

  position : {i : ℕ} → Lost G i ⊎ ((G.final i ≢ 1) × Unanswered G ranks i) → Position i
  position (inl x) = falling x
  position (inr x) = held x.1

  module _ (some : 0 < G.choices) where
    choose_at : {i : ℕ} → Position i → ℕ
    choose_at (falling (lost c h f)) = c
    choose_at (held x) = x.at
    choose_at over = 0

    choose-choice : {i : ℕ} (p : Position i) → choose_at p < G.choices
    unfolding choose_at
    choose-choice (falling (lost c h f)) = h
    choose-choice (held x) = x.is_choice
    choose-choice over = some

    -- an answer to the choice c is a letter with that choice into a state
    answered : {i c : ℕ} → ((a : ℕ) → a < G.letters → G.choice a ≡ c → G.entry i a < G.states → Position (G.entry i a))
        → (a : ℕ) → Dec (a < G.letters) → Dec (G.choice a ≡ c) → Dec (G.entry i a < G.states) → Position (G.entry i a)
    answered f a (yes x) (yes y) (yes z) = f a x y z
    answered f a (yes x) (yes y) (no z) = over
    answered f a (yes x) (no y) z = over
    answered f a (no x) y z = over

    after : {i : ℕ} (c : ℕ) → ((a : ℕ) → a < G.letters → G.choice a ≡ c → G.entry i a < G.states → Position (G.entry i a)) → (a : ℕ) → Position (G.entry i a)
    after {i} c f a = answered f a (dec_lt a G.letters) (ℕ_discrete (G.choice a) c) (dec_lt (G.entry i a) G.states)

    -- where the play stands after the letter a
    move : {i : ℕ} (p : Position i) (a : ℕ) → Position (G.entry i a)
    move (falling (lost c h f)) a = after c (λ a x y z. falling (f a x y z)) a
    move {i} (held q) a = after q.at (λ a x y z. position (unranked-reason (G.entry i a) z (q.none a x y))) a
    move over a = over

    chosen : {i : ℕ} → Position i → List ℕ → ℕ
    chosen p [] = choose_at p
    chosen {i = i} p (a ∷ r) = chosen {i = G.entry i a} (move p a) r

    chosen-choice : (r : List ℕ) {i : ℕ} (p : Position i) → chosen p r < G.choices
    unfolding chosen
    chosen-choice [] p = choose-choice p
    chosen-choice (a ∷ r) p = chosen-choice r (move p a)

    abbrev ChosenFrom : {i : ℕ} → Position i → Word → Type 0
    ChosenFrom p w = (t : ℕ) → G.choice (w t) ≡ chosen p (prefix w t)

    after_is : {i c : ℕ} (f : (a : ℕ) → a < G.letters → G.choice a ≡ c → G.entry i a < G.states → Position (G.entry i a)) (a : ℕ) → a < G.letters → G.choice a ≡ c → G.entry i a < G.states
        → (x : a < G.letters) × (y : G.choice a ≡ c) × (z : G.entry i a < G.states) × (after c f a ≡ f a x y z)
    unfolding after answered
    after_is {i} {c} f a hx hy hz = go (dec_lt a G.letters) (ℕ_discrete (G.choice a) c) (dec_lt (G.entry i a) G.states)
      where
        go : (dx : Dec (a < G.letters)) (dy : Dec (G.choice a ≡ c)) (dz : Dec (G.entry i a < G.states))
            → (x : a < G.letters) × (y : G.choice a ≡ c) × (z : G.entry i a < G.states) × (answered f a dx dy dz ≡ f a x y z)
        go (yes x) (yes y) (yes z) = (x, y, z, refl)
        go (yes x) (yes y) (no z) = absurd (z hz)
        go (yes x) (no y) z = absurd (y hy)
        go (no x) y z = absurd (x hx)

    -- a play from a lost state that is chosen so meets a missing entry
    lost-ends : {i : ℕ} (l : Lost G i) (w : Word) → InRange G.letters w → ChosenFrom (falling l) w → ¬ Follows G.states G.entry i w
    unfolding chosen choose_at move
    lost-ends (lost c h f) w b ch fo =
        let q = after_is (λ a x y z. falling (f a x y z)) (w 0) (b 0) (ch 0) (fo 1) in
        lost-ends (f (w 0) q.0 q.1 q.2) (tail w) (λ t. b (suc t)) (λ t. ch (suc t) ∙ ap (λ p. chosen p (prefix (tail w) t)) q.3) (λ t. fo (suc t))

    -- a play from a state without a rank that is chosen so meets a missing entry or no final state
    never-final : (u : ℕ) {i : ℕ} (g : Lost G i ⊎ ((G.final i ≢ 1) × Unanswered G ranks i)) (w : Word) → InRange G.letters w → ChosenFrom (position g) w
        → Follows G.states G.entry i w → ¬ (G.final (run G.entry i w u) ≡ 1)
    unfolding position chosen choose_at move
    never-final zero (inl l) w b ch fo e = lost-ends l w b ch fo
    never-final (suc u) (inl l) w b ch fo e = lost-ends l w b ch fo
    never-final zero (inr q) w b ch fo e = q.0 e
    never-final (suc u) {i} (inr q) w b ch fo e =
        let x = after_is (λ a x y z. position (unranked-reason (G.entry i a) z (q.1.none a x y))) (w 0) (b 0) (ch 0) (fo 1) in
        never-final u (unranked-reason (G.entry i (w 0)) x.2 (q.1.none (w 0) x.0 x.1)) (tail w) (λ t. b (suc t))
        (λ t. ch (suc t) ∙ ap (λ p. chosen p (prefix (tail w) t)) x.3) (λ t. fo (suc t)) e

    -- its way of choosing from a state without a rank
    chooser : (i : ℕ) → i < G.states → ¬ Ranked ranks i → Environment G.letters G.choices G.choice
    chooser i h n = record { choose = chosen (position (unranked-reason i h n)); is_choice = λ r. chosen-choice r (position (unranked-reason i h n)) }

    chooser_defeats : (i : ℕ) (h : i < G.states) (n : ¬ Ranked ranks i) (w : Word) → InRange G.letters w → ChosenBy G.letters G.choices G.choice (chooser i h n) w
        → Follows G.states G.entry i w → (u : ℕ) → ¬ (G.final (run G.entry i w u) ≡ 1)
    unfolding chooser
    chooser_defeats i h n w b ch fo u e = never-final u (unranked-reason i h n) w b ch fo e

-- ---- the environment on the table of a set that settles

start-leads : {G : Game} → LeadsTo G 0 []
start-leads = record { letters = tt; path = tt; ends = refl }

module _ {Sol : Word → Type 0} {G : Game} (A : IsTable Sol G.letters G.states G.entry G.final) (C : AreChoices G.letters G.choices G.choice) (S : Settles Sol G.letters)
    {safe ranks : List ℕ} (R : IsRanking G safe ranks) where
  unranked-prevents : (i : ℕ) → i < G.states → ¬ Ranked ranks i → PreventsFrom G Sol i
  unranked-prevents i h n r l =
      prevents-same (solutions_sym (leads-same A r l.letters l.path l.ends)) (record {
        environment = chooser R C.some_choice i h n;
        defeats = λ w b ch x.
            let u = continuation_final A i h w b x S in
            chooser_defeats R C.some_choice i h n w b ch (continuation_followed A i h w b x) u.0 u.1;
      })

  pub start-prevented : ¬ Ranked ranks 0 → Prevents G.letters G.choices G.choice Sol []
  start-prevented n = unranked-prevents 0 A.some_state n [] start-leads

-- ---- the controller on the table of a set that settles

module _ {Sol : Word → Type 0} {G : Game} (A : IsTable Sol G.letters G.states G.entry G.final) (C : AreChoices G.letters G.choices G.choice) (few : G.letters ≤ no_state)
    {safe ranks : List ℕ} (R : IsRanking G safe ranks) {play : ℕ → ℕ → ℕ} (P : PlaysRanking G ranks play) where
  -- ---- the play table of a ranking

  -- a ranked state has a letter to play to every choice: from a final one to a final one, from another to a lower rank
  may_play : (i c : ℕ) → Ranked ranks i → c < G.choices → (a : ℕ) × MayPlay G ranks i c a
  may_play i c r hc = by (ℕ_discrete (rank_of ranks i) 1)
    where
      by : Dec (rank_of ranks i ≡ 1) → (a : ℕ) × MayPlay G ranks i c a
      by (yes e) =
          let x = (R.safe_answered i (R.first_safe i e)).answer c hc in
          let t = G.entry i x.letter in
          let inside : t < G.states = omega (arith, ranked-inside safe t x.leads, R.safe_states) in
          let one = R.final_first t x.leads (final-stays A i x.letter (omega (arith, ranked-inside ranks i r, R.ranked_states)) x.is_letter inside (R.first_final i e)) in
          (x.letter, record { is_letter = x.is_letter; has_choice = x.has_choice; ranked = λ z. omega (arith, one); low = rw (one, e) (omega arith) })
      by (no e) =
          let x = R.lower i c (omega arith) hc in
          (x.letter, record { is_letter = x.is_letter; has_choice = x.has_choice; ranked = x.leads.0; low = below-highest (rank_of ranks i) _ x.leads.1 })

  -- so its row holds such a letter
  row-played : (i c : ℕ) → Ranked ranks i → c < G.choices → MayPlay G ranks i c (play i c)
  row-played i c r hc = by (P i c (omega (arith, ranked-inside ranks i r, R.ranked_states)) hc)
    where
      by : {v : ℕ} → IsPlayed G ranks i c v → MayPlay G ranks i c v
      by (played x f) = x
      by (nothing f) = let x = may_play i c r hc in absurd (f x.0 x.1)

  row_kept : (i : ℕ) → Ranked ranks i → KeepsRow G.choices play i
  row_kept i r c hc e = let x = row-played i c r hc in omega (arith, x.is_letter)

  row-moves : (i : ℕ) → Ranked ranks i → (c : ℕ) → c < G.choices → IsMove G play i c
  row-moves i r c hc =
      let x = row-played i c r hc in
      record {
        letter = x.is_letter;
        has_choice = x.has_choice;
        state = omega (arith, ranked-inside ranks (G.entry i (play i c)) x.ranked, R.ranked_states);
        goes_on = row_kept (G.entry i (play i c)) x.ranked;
      }

  -- ranks fall along the play until a final state
  rank_within : (t i : ℕ) → Ranked ranks i → rank_of ranks i ≤ suc t → FinalWithin G play t i
  rank_within zero i r h = here (R.first_final i (omega arith))
  rank_within (suc t) i r h = by (ℕ_discrete (rank_of ranks i) 1) λ c hc. let x = row-played i c r hc in rank_within t (G.entry i (play i c)) x.ranked
    where
      by : Dec (rank_of ranks i ≡ 1) → ((c : ℕ) → c < G.choices → rank_of ranks (G.entry i (play i c)) ≤ suc t → FinalWithin G play t (G.entry i (play i c))) → FinalWithin G play (suc t) i
      by (yes e) rest = here (R.first_final i e)
      by (no e) rest = later λ c hc. rest c hc (omega (arith, (row-played i c r hc).low, highest-below (rank_of ranks i) (omega arith)))

  row_lacks : (i : ℕ) → i < G.states → ¬ Ranked ranks i → LacksRow G.choices play i
  row_lacks i h n c hc = by (P i c h hc)
    where
      by : {v : ℕ} → IsPlayed G ranks i c v → v ≡ no_state
      by (nothing f) = refl
      by (played x f) = absurd (x.ranked (omega (arith, rw (unranked-zero ranks i n) at x.low)))

  -- a row is kept exactly if its state is ranked
  kept-ranked : (i : ℕ) → i < G.states → KeepsRow G.choices play i → Ranked ranks i
  kept-ranked i h keeps z = keeps 0 C.some_choice (row_lacks i h (λ r. r z) 0 C.some_choice)

  ranking_playable : IsPlayable G play
  ranking_playable =
      record {
        moves = λ i h keeps. row-moves i (kept-ranked i h keeps);
        reaches_final = λ i h keeps. let r = kept-ranked i h keeps in rank_within G.states i r (R.bounded i);
      }

  -- ---- both players, at every state

  module _ (S : Settles Sol G.letters) (i : ℕ) (h : i < G.states) where
    ranked-row : Ranked ranks i → ForcedRow G Sol play i
    ranked-row r = record {
      forces = λ q l. forces-same (solutions_sym (leads-same A q l.letters l.path l.ends)) (playable_forces A C ranking_playable i h (row_kept i r));
      moves = row-moves i r;
      reaches_final = rank_within G.states i r (R.bounded i);
    }

    unranked-row : ¬ Ranked ranks i → PreventedRow G Sol play i
    unranked-row n = record {
      prevents = unranked-prevents A C S R i h n;
      lacks = row_lacks i h n;
    }

  pub ranking_play_table : Settles Sol G.letters → IsPlayTable G Sol play
  ranking_play_table S = record { row = λ i h. by i h (ℕ_discrete (rank_of ranks i) 0) }
    where
      by : (i : ℕ) → i < G.states → Dec (rank_of ranks i ≡ 0) → ForcedRow G Sol play i ⊎ PreventedRow G Sol play i
      by i h (no r) = inl (ranked-row S i h r)
      by i h (yes z) = inr (unranked-row S i h λ r. r z)

  pub start-forced : Settles Sol G.letters → Ranked ranks 0 → Forces G.letters G.choices G.choice Sol []
  start-forced S r = (ranked-row S 0 A.some_state r).forces [] start-leads
