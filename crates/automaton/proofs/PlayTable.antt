-- What follows from a play table: the controller that follows it from a state whose row holds letters makes every play a solution, so no two play tables of
-- one table hold letters for different states. From the definition of play tables and the laws of tables.
use mathlib.Core.Path.{◌≡◌, refl, sym, ◌∙◌, ap, subst}
use mathlib.Core.Logic.{◌⊎◌, inl, inr, ◌≢◌}
use mathlib.Core.List.{List}
use Prim.Native.Nat.{ℕ, zero, suc, ◌<◌, ◌≤◌}
use native.Mathlib.Omega.{arith}
use native.Mathlib.Decide.{dec_lt, ℕ_discrete}
use Rattle.basics.proofs.Lists.{below_decided}
use Rattle.automaton.specs.Words.{Word, tail, prefix, InRange}
use Rattle.automaton.specs.Solutions.{Continuation}
use Rattle.automaton.specs.Table.{no_state, walk, run, Follows, IsTable}
use Rattle.automaton.specs.Strategies.{AreChoices, Controller, Environment, PlayedBy, Forces}
use Rattle.automaton.specs.PlayTable.{Game, LeadsTo, KeepsRow, IsMove, FinalWithin, here, later, ForcedRow, PreventedRow, IsPlayTable}
use Rattle.automaton.proofs.Paths.{run-walk}
use Rattle.automaton.proofs.States.{run-last, representative-path, representative-leads, followed_continuation}
use Rattle.automaton.proofs.Strategies.{not-both}

-- Rows that hold letters hold moves, and by them a final state is reached.
pub record IsPlayable (G : Game) (play : ℕ → ℕ → ℕ) : Type 0 where
  pub moves : (i : ℕ) → i < G.states → KeepsRow G.choices play i → (c : ℕ) → c < G.choices → IsMove G play i c
  pub reaches_final : (i : ℕ) → i < G.states → KeepsRow G.choices play i → FinalWithin G play G.states i

module _ (G : Game) (play : ℕ → ℕ → ℕ) where
  -- each letter of w from the state i is the play table's answer to the choice made
  abbrev pub FollowsPlay : ℕ → Word → Type 0
  FollowsPlay i w = (t : ℕ) → w t ≡ play (run G.entry i w t) (G.choice (w t))

  -- i is a state whose row holds letters
  abbrev IsKept : ℕ → Type 0
  IsKept i = (i < G.states) × KeepsRow G.choices play i

  kept_decided : (i : ℕ) → Dec (IsKept i)
  kept_decided i = by (dec_lt i G.states) (below_decided (λ c. apart (ℕ_discrete (play i c) no_state)) G.choices)
    where
      apart : {v : ℕ} → Dec (v ≡ no_state) → Dec (v ≢ no_state)
      apart (yes e) = no λ f. f e
      apart (no f) = yes f

      by : Dec (i < G.states) → Dec (KeepsRow G.choices play i) → Dec (IsKept i)
      by (yes h) (yes k) = yes (h, k)
      by (yes h) (no k) = no λ x. k x.1
      by (no h) k = no λ x. h x.0

module _ {G : Game} {play : ℕ → ℕ → ℕ} (C : AreChoices G.letters G.choices G.choice) (L : IsPlayable G play) where
  -- ---- a word that follows the play table

  module _ {i : ℕ} (kept : IsKept G play i) (w : Word) (b : InRange G.letters w) where
    -- it stays in states whose rows hold letters, if each letter is the answer as long as it does
    stays_kept : ((t : ℕ) → IsKept G play (run G.entry i w t) → w t ≡ play (run G.entry i w t) (G.choice (w t))) → (t : ℕ) → IsKept G play (run G.entry i w t)
    stays_kept p zero = kept
    stays_kept p (suc t) =
        let x = stays_kept p t in
        let s = run G.entry i w t in
        let m = L.moves s x.0 x.1 (G.choice (w t)) (C.is_choice (w t) (b t)) in
        subst (IsKept G play) (sym (run-last G.entry t i w ∙ ap (G.entry s) (p t x))) (m.state, m.goes_on)

    -- "never meet a missing entry"
    pub play_followed : FollowsPlay G play i w → Follows G.states G.entry i w
    play_followed p t = (stays_kept (λ t x. p t) t).0

  -- "must reach a final state within as many letters as there are states"
  within_reaches : {t i : ℕ} → FinalWithin G play t i → (w : Word) → InRange G.letters w → FollowsPlay G play i w → (u : ℕ) × (u ≤ t) × (G.final (run G.entry i w u) ≡ 1)
  within_reaches (here e) w b p = (0, omega arith, e)
  within_reaches {i = i} (later h) w b p =
      let e : G.entry i (play i (G.choice (w 0))) ≡ G.entry i (w 0) = ap (G.entry i) (sym (p 0)) in
      let r = within_reaches (h (G.choice (w 0)) (C.is_choice (w 0) (b 0))) (tail w) (λ t. b (suc t)) (subst (λ q. FollowsPlay G play q (tail w)) (sym e) λ t. p (suc t)) in
      (suc r.0, omega (arith, r.1), subst (λ q. G.final (run G.entry q (tail w) r.0) ≡ 1) e r.2)

  pub play_final : (i : ℕ) → i < G.states → KeepsRow G.choices play i → (w : Word) → InRange G.letters w → FollowsPlay G play i w → (u : ℕ) × (u ≤ G.states) × (G.final (run G.entry i w u) ≡ 1)
  play_final i h keeps w b p = within_reaches (L.reaches_final i h keeps) w b p

  -- ---- the controller that follows it, from the state i; where the row holds no letters it gives any letter with the choice

  answer_at : (i c : ℕ) → Dec (IsKept G play i) → ℕ
  answer_at i c (yes x) = play i c
  answer_at i c (no x) = C.letter c

  answer_legal : (i c : ℕ) → c < G.choices → (d : Dec (IsKept G play i)) → (answer_at i c d < G.letters) × (G.choice (answer_at i c d) ≡ c)
  unfolding answer_at
  answer_legal i c hc (yes x) = let m = L.moves i x.0 x.1 c hc in (m.letter, m.has_choice)
  answer_legal i c hc (no x) = (C.is_letter c hc, C.has_choice c hc)

  answer_play : (i c : ℕ) → IsKept G play i → (d : Dec (IsKept G play i)) → answer_at i c d ≡ play i c
  unfolding answer_at
  answer_play i c kept (yes x) = refl
  answer_play i c kept (no x) = absurd (x kept)

  pub follower : ℕ → Controller G.letters G.choices G.choice
  follower i = record {
    answer = λ r c. answer_at (walk G.entry i r) c (kept_decided G play (walk G.entry i r));
    is_letter = λ r c hc. (answer_legal (walk G.entry i r) c hc (kept_decided G play (walk G.entry i r))).0;
    has_choice = λ r c hc. (answer_legal (walk G.entry i r) c hc (kept_decided G play (walk G.entry i r))).1;
  }

  -- what it plays follows the play table
  pub follower_plays : (i : ℕ) → i < G.states → KeepsRow G.choices play i → (w : Word) → InRange G.letters w → PlayedBy G.letters G.choices G.choice (follower i) w → FollowsPlay G play i w
  unfolding follower
  follower_plays i h keeps w b p t = letter t (stays_kept (h, keeps) w b letter t)
    where
      letter : (t : ℕ) → IsKept G play (run G.entry i w t) → w t ≡ play (run G.entry i w t) (G.choice (w t))
      letter t x =
          let e = run-walk G.entry t i w in
          let s = walk G.entry i (prefix w t) in
          p t ∙ answer_play s (G.choice (w t)) (subst (IsKept G play) e x) (kept_decided G play s) ∙ ap (λ q. play q (G.choice (w t))) (sym e)

-- ---- the table of a set of words

module _ {Sol : Word → Type 0} {G : Game} (A : IsTable Sol G.letters G.states G.entry G.final) (C : AreChoices G.letters G.choices G.choice) {play : ℕ → ℕ → ℕ} where
  module _ (L : IsPlayable G play) (i : ℕ) (h : i < G.states) (keeps : KeepsRow G.choices play i) where
    -- a word that follows the play table completes a solution
    pub play_solves : (w : Word) → InRange G.letters w → FollowsPlay G play i w → Continuation Sol (A.representative i) w
    play_solves w b p =
        let u = play_final C L i h keeps w b p in
        followed_continuation A i h w b (play_followed C L (h, keeps) w b p) u.0 u.2

    pub playable_forces : Forces G.letters G.choices G.choice Sol (A.representative i)
    playable_forces = record { controller = follower C L i; solves = λ w b p. play_solves w b (follower_plays C L i h keeps w b p) }

  module _ (T : IsPlayTable G Sol play) where
    -- a row that holds letters is that of a state from which a solution can be forced
    pub kept_forced : (i : ℕ) → i < G.states → KeepsRow G.choices play i → ForcedRow G Sol play i
    kept_forced i h keeps = by (T.row i h)
      where
        by : ForcedRow G Sol play i ⊎ PreventedRow G Sol play i → ForcedRow G Sol play i
        by (inl x) = x
        by (inr x) = absurd (keeps 0 C.some_choice (x.lacks 0 C.some_choice))

    pub play_table_playable : IsPlayable G play
    play_table_playable = record { moves = λ i h keeps. (kept_forced i h keeps).moves; reaches_final = λ i h keeps. (kept_forced i h keeps).reaches_final }

  -- Every state is led to, so no state is both forced and prevented: two play tables hold letters for the same states.
  pub kept_same : G.letters ≤ no_state → {play' : ℕ → ℕ → ℕ} → IsPlayTable G Sol play → IsPlayTable G Sol play' → (i : ℕ) → i < G.states → KeepsRow G.choices play i → KeepsRow G.choices play' i
  kept_same few {play'} T T' i h keeps = by (T'.row i h)
    where
      leads : LeadsTo G i (A.representative i)
      leads = record { letters = A.letters i h; path = representative-path A i h; ends = representative-leads A i h }

      by : ForcedRow G Sol play' i ⊎ PreventedRow G Sol play' i → KeepsRow G.choices play' i
      by (inl x) = λ c hc e. omega (arith, (x.moves c hc).letter, few)
      by (inr x) = absurd (not-both ((kept_forced T i h keeps).forces (A.representative i) leads) (x.prevents (A.representative i) leads))
