-- Every ranking has a play table, and one only; by any two rankings the same numbers are letters; and only the choices of letters matter. From the definitions of
-- rankings.
use mathlib.Core.Path.{◌≡◌, refl, sym, ◌∙◌, ap₂, subst}
use mathlib.Core.Logic.{◌⊎◌, inl, inr, ◌≢◌}
use mathlib.Core.List.{List}
use Prim.Native.Nat.{ℕ, zero, suc, ◌+◌, ◌*◌, ◌/◌, ◌%◌, ◌<◌, ◌≤◌}
use native.Mathlib.Nat.{not-suc-le-zero}
use native.Mathlib.Omega.{arith}
use native.Mathlib.Decide.{ℕ_discrete, dec_lt, dec_le}
use lib.Arith.{digits_lt, digits_div, digits_mod}
use lib.ListN.{length}
use Rattle.automaton.specs.Table.{no_state}
use Rattle.automaton.specs.Stored.{entry_at}
use Rattle.automaton.specs.Closure.{tabulate}
use Rattle.automaton.specs.PlayTable.{Game}
use Rattle.automaton.specs.Ranking.{rank_of, HasAnswer, Unanswered, Lost, lost, IsRanking, highest_next, MayPlay, IsPlayed, played, nothing, PlaysRanking}
use Rattle.automaton.proofs.Closure.{get_d_tabulate, length-tabulate}
use Rattle.automaton.proofs.Ranking.{ranked-same, first-same}

-- ---- the ranks that may follow a rank

-- a rank above another may be followed by it, and so may the rank 1 by itself
pub below-highest : (r q : ℕ) → q < r → q ≤ highest_next r
below-highest zero q h = omega arith
below-highest (suc zero) q h = omega arith
below-highest (suc (suc r)) q h = omega arith

pub highest-below : (r : ℕ) → 1 < r → suc (highest_next r) ≡ r
highest-below zero h = absurd (omega arith)
highest-below (suc zero) h = absurd (omega arith)
highest-below (suc (suc r)) h = refl

-- ---- every ranking has a play table, and one only

-- the first number below m with P, or none
first_below : {P : ℕ → Type 0} → ((a : ℕ) → Dec (P a)) → (m : ℕ) → ((v : ℕ) × (v < m) × P v × ((a : ℕ) → a < v → ¬ P a)) ⊎ ((a : ℕ) → a < m → ¬ P a)
first_below decide zero = inr λ a h. absurd (not-suc-le-zero h)
first_below {P} decide (suc m) = by (first_below decide m) (decide m)
  where
    by : ((v : ℕ) × (v < m) × P v × ((a : ℕ) → a < v → ¬ P a)) ⊎ ((a : ℕ) → a < m → ¬ P a) → Dec (P m) → ((v : ℕ) × (v < suc m) × P v × ((a : ℕ) → a < v → ¬ P a)) ⊎ ((a : ℕ) → a < suc m → ¬ P a)
    by (inl x) d = inl (x.0, omega (arith, x.1), x.2, x.3)
    by (inr f) (yes p) = inl (m, omega arith, p, f)
    by (inr f) (no n) = inr λ a h p. last a h p (ℕ_discrete a m)
      where
        last : (a : ℕ) → a < suc m → P a → Dec (a ≡ m) → ⊥
        last a h p (yes e) = n (subst P e p)
        last a h p (no e) = f a (omega arith) p

module _ (G : Game) (ranks : List ℕ) where
  may_play_decided : (s c a : ℕ) → Dec (MayPlay G ranks s c a)
  may_play_decided s c a = by (dec_lt a G.letters) (ℕ_discrete (G.choice a) c) (ℕ_discrete (rank_of ranks (G.entry s a)) 0) (dec_le (rank_of ranks (G.entry s a)) (highest_next (rank_of ranks s)))
    where
      by : Dec (a < G.letters) → Dec (G.choice a ≡ c) → Dec (rank_of ranks (G.entry s a) ≡ 0) → Dec (rank_of ranks (G.entry s a) ≤ highest_next (rank_of ranks s)) → Dec (MayPlay G ranks s c a)
      by (yes h) (yes e) (no r) (yes l) = yes (record { is_letter = h; has_choice = e; ranked = r; low = l })
      by (yes h) (yes e) (no r) (no l) = no λ x. l x.low
      by (yes h) (yes e) (yes z) l = no λ x. x.ranked z
      by (yes h) (no e) z l = no λ x. e x.has_choice
      by (no h) e z l = no λ x. h x.is_letter

  played_exists : (s c : ℕ) → (v : ℕ) × IsPlayed G ranks s c v
  played_exists s c = by (first_below (may_play_decided s c) G.letters)
    where
      by : ((v : ℕ) × (v < G.letters) × MayPlay G ranks s c v × ((a : ℕ) → a < v → ¬ MayPlay G ranks s c a)) ⊎ ((a : ℕ) → a < G.letters → ¬ MayPlay G ranks s c a) → (v : ℕ) × IsPlayed G ranks s c v
      by (inl x) = (x.0, played x.2 x.3)
      by (inr f) = (no_state, nothing λ a x. f a x.is_letter x)

  pub play_exists : (play : List ℕ) × (length play ≡ G.states * G.choices) × PlaysRanking G ranks (entry_at G.choices play)
  play_exists = (tabulate (G.states * G.choices) number, length-tabulate (G.states * G.choices) number, at)
    where
      number : ℕ → ℕ
      number p = (played_exists (p / G.choices) (p % G.choices)).0

      at : PlaysRanking G ranks (entry_at G.choices (tabulate (G.states * G.choices) number))
      at s c h hc =
          let place = get_d_tabulate (G.states * G.choices) number (s * G.choices + c) 0 (digits_lt h hc) in
          subst (IsPlayed G ranks s c) (sym (place ∙ ap₂ (λ q r. (played_exists q r).0) (digits_div s hc) (digits_mod s hc))) (played_exists s c).1

  pub played_unique : {s c u v : ℕ} → IsPlayed G ranks s c u → IsPlayed G ranks s c v → u ≡ v
  played_unique {u = u} {v = v} (played x f) (played y g) = by (dec_lt u v) (dec_lt v u)
    where
      by : Dec (u < v) → Dec (v < u) → u ≡ v
      by (yes h) d = absurd (g u h x)
      by (no h) (yes k) = absurd (f v k y)
      by (no h) (no k) = omega arith
  played_unique (played x f) (nothing g) = absurd (g _ x)
  played_unique (nothing f) (played y g) = absurd (f _ y)
  played_unique (nothing f) (nothing g) = refl

-- ---- by any two rankings the same numbers are letters

module _ {G : Game} {safe ranks safe' ranks' : List ℕ} (R : IsRanking G safe ranks) (R' : IsRanking G safe' ranks') where
  -- a choice that has a letter by the one has a letter by the other
  may_play_too : (s c a : ℕ) → MayPlay G ranks s c a → c < G.choices → (b : ℕ) × MayPlay G ranks' s c b
  may_play_too s c a x hc = by (ℕ_discrete (rank_of ranks s) 0) (ℕ_discrete (rank_of ranks s) 1)
    where
      by : Dec (rank_of ranks s ≡ 0) → Dec (rank_of ranks s ≡ 1) → (b : ℕ) × MayPlay G ranks' s c b
      by (yes z) d = absurd (x.ranked (omega (arith, rw z at x.low)))
      by (no z) (yes e) =
          let t = G.entry s a in
          let r = x.ranked in
          let low : rank_of ranks t ≤ 1 = rw e at x.low in
          let first = first-same R R' s e in
          let next = first-same R R' t (omega arith) in
          (a, record { is_letter = x.is_letter; has_choice = x.has_choice; ranked = λ q. omega (arith, next); low = rw (first, next) (omega arith) })
      by (no z) (no e) =
          let r = ranked-same R R' s z in
          let y = R'.lower s c (omega (arith, other-first)) hc in
          (y.letter, record { is_letter = y.is_letter; has_choice = y.has_choice; ranked = y.leads.0; low = below-highest (rank_of ranks' s) _ y.leads.1 })
        where
          other-first : rank_of ranks' s ≢ 1
          other-first q = e (first-same R' R s q)

  pub lacking-same : (s c : ℕ) → c < G.choices → G.letters ≤ no_state → {u v : ℕ} → IsPlayed G ranks s c u → IsPlayed G ranks' s c v → v ≡ no_state → u ≡ no_state
  lacking-same s c hc few (nothing f) y e = refl
  lacking-same s c hc few (played {v = u} x f) (nothing g) e = let z = may_play_too s c u x hc in absurd (g z.0 z.1)
  lacking-same s c hc few (played x f) (played y g) e = absurd (omega (arith, y.is_letter))

-- ---- the same choices by another function

abbrev pub with_choice : Game → (ℕ → ℕ) → Game
with_choice G choice = record { letters = G.letters; choices = G.choices; choice = choice; states = G.states; entry = G.entry; final = G.final }

module _ {G : Game} (choice : ℕ → ℕ) (agree : (a : ℕ) → a < G.letters → G.choice a ≡ choice a) where
  answer-choice : {P : ℕ → Type 0} {s c : ℕ} → HasAnswer G P s c → HasAnswer (with_choice G choice) P s c
  answer-choice x = record { letter = x.letter; is_letter = x.is_letter; has_choice = sym (agree x.letter x.is_letter) ∙ x.has_choice; leads = x.leads }

  unanswered_choice : {ranks : List ℕ} {s : ℕ} → Unanswered G ranks s → Unanswered (with_choice G choice) ranks s
  unanswered_choice x = record { at = x.at; is_choice = x.is_choice; none = λ a h e. x.none a h (agree a h ∙ e) }

  lost-choice : {s : ℕ} → Lost G s → Lost (with_choice G choice) s
  lost-choice (lost c h f) = lost c h λ a ha e inside. lost-choice (f a ha (agree a ha ∙ e) inside)

  pub ranking_choice : {safe ranks : List ℕ} → IsRanking G safe ranks → IsRanking (with_choice G choice) safe ranks
  ranking_choice R =
      record {
        safe_states = R.safe_states;
        safe_answered = λ s r. record { answer = λ c hc. answer-choice ((R.safe_answered s r).answer c hc) };
        unsafe_lost = λ s h n. lost-choice (R.unsafe_lost s h n);
        ranked_states = R.ranked_states;
        first_safe = R.first_safe;
        first_final = R.first_final;
        final_first = R.final_first;
        lower = λ s c h hc. answer-choice (R.lower s c h hc);
        bounded = R.bounded;
        unranked = λ s h n. unanswered_choice (R.unranked s h n);
      }

  may_play_to : {ranks : List ℕ} {s c a : ℕ} → MayPlay G ranks s c a → MayPlay (with_choice G choice) ranks s c a
  may_play_to {a = a} x = record { is_letter = x.is_letter; has_choice = sym (agree a x.is_letter) ∙ x.has_choice; ranked = x.ranked; low = x.low }

  may_play_from : {ranks : List ℕ} {s c a : ℕ} → MayPlay (with_choice G choice) ranks s c a → MayPlay G ranks s c a
  may_play_from {a = a} x = record { is_letter = x.is_letter; has_choice = agree a x.is_letter ∙ x.has_choice; ranked = x.ranked; low = x.low }

  pub play-choice : {ranks : List ℕ} {play : ℕ → ℕ → ℕ} → PlaysRanking G ranks play → PlaysRanking (with_choice G choice) ranks play
  play-choice {ranks} P s c h hc = by (P s c h hc)
    where
      by : {v : ℕ} → IsPlayed G ranks s c v → IsPlayed (with_choice G choice) ranks s c v
      by (played x f) = played (may_play_to x) λ a l y. f a l (may_play_from y)
      by (nothing f) = nothing λ a y. f a (may_play_from y)
