-- Laws of states that are turned one after the other, each with its rank: what a turn keeps, and that turning ends. From the definitions of ranks and turns.
use mathlib.Core.Path.{◌≡◌, refl, sym, ◌∙◌, ap, subst}
use mathlib.Core.Logic.{◌⊎◌, inl, inr, ⊎_elim, ◌≢◌}
use mathlib.Core.Bool.{Bool, true, false}
use mathlib.Core.List.{List, [], ◌∷◌}
use Prim.Native.Nat.{ℕ, zero, suc, ◌+◌, ◌<◌, ◌≤◌}
use native.Mathlib.Nat.{not-suc-le-zero}
use native.Mathlib.Omega.{arith}
use native.Mathlib.Decide.{ℕ_discrete}
use lib.ListN.{length, set, length-set}
use lib.Seq.{get_or-set_same, get_or-set_other}
use Rattle.automaton.specs.PlayTable.{Game}
use Rattle.automaton.specs.Ranking.{rank_of, Ranked, HasAnswer, Answered, Unanswered, Turnable, NoneToTurn, turned_to, RankTurns, none, turn, AllTurned, is_left, states_left, Lost, lost}
use Rattle.automaton.proofs.Rounds.{each_or, set_all}

-- ---- ranks

pub ranked-inside : (ranks : List ℕ) (s : ℕ) → Ranked ranks s → s < length ranks
ranked-inside [] s r = absurd (r refl)
ranked-inside (x ∷ xs) zero r = omega arith
ranked-inside (x ∷ xs) (suc s) r = let h = ranked-inside xs s r in omega arith

-- a state that is not ranked has the rank 0
pub unranked-zero : (ranks : List ℕ) (s : ℕ) → ¬ Ranked ranks s → rank_of ranks s ≡ 0
unranked-zero ranks s r = by (ℕ_discrete (rank_of ranks s) 0)
  where
    by : Dec (rank_of ranks s ≡ 0) → rank_of ranks s ≡ 0
    by (yes e) = e
    by (no x) = absurd (r x)

-- a store to a state without a rank leaves those of the ranked states
kept-ranked : (ranks : List ℕ) (u v s : ℕ) → ¬ Ranked ranks u → Ranked ranks s → rank_of (set ranks u v) s ≡ rank_of ranks s
kept-ranked ranks u v s n r = get_or-set_other ranks u s v 0 λ e. n (subst (Ranked ranks) e r)

-- ---- states left

pub states-left-most : (to : Bool) (ranks : List ℕ) → states_left to ranks ≤ length ranks
states-left-most to [] = omega arith
states-left-most to (x ∷ xs) = let h = states-left-most to xs in omega (arith, one to x)
  where
    one : (to : Bool) (x : ℕ) → is_left to x ≤ 1
    one true zero = omega arith
    one true (suc x) = omega arith
    one false zero = omega arith
    one false (suc x) = omega arith

fewer-left : (to : Bool) (ranks : List ℕ) (s v : ℕ) → s < length ranks → is_left to (rank_of ranks s) ≡ 1 → is_left to v ≡ 0 → suc (states_left to (set ranks s v)) ≡ states_left to ranks
fewer-left to [] s v h e f = absurd (not-suc-le-zero h)
fewer-left to (x ∷ xs) zero v h e f = omega arith
fewer-left to (x ∷ xs) (suc s) v h e f = let g = fewer-left to xs s v (omega arith) e f in omega arith

-- the next number is not 0, so a state that is turned is not left
turned_left : (to : Bool) (next : ℕ) → 0 < next → is_left to (turned_to to next) ≡ 0
turned_left true zero h = absurd (not-suc-le-zero h)
turned_left true (suc next) h = refl
turned_left false next h = refl

turnable_left : (G : Game) (to : Bool) (ranks : List ℕ) (s : ℕ) → Turnable G to ranks s → is_left to (rank_of ranks s) ≡ 1
turnable_left G true ranks s t = ap (is_left true) (unranked-zero ranks s t.0)
turnable_left G false ranks s t = by (rank_of ranks s) t.0
  where
    by : (x : ℕ) → x ≢ 0 → is_left false x ≡ 1
    by zero h = absurd (h refl)
    by (suc x) h = refl

-- ---- states turned one after the other

module _ {G : Game} {to : Bool} {old : List ℕ} {first : ℕ} where
  pub turns-length : {new : List ℕ} {next : ℕ} → RankTurns G to old first new next → length new ≡ length old
  turns-length none = refl
  turns-length (turn {ranks} {next} {s} t h x) = length-set ranks s (turned_to to next) ∙ turns-length t

  pub turns_rise : {new : List ℕ} {next : ℕ} → RankTurns G to old first new next → first ≤ next
  turns_rise none = omega arith
  turns_rise (turn t h x) = omega (arith, turns_rise t)

  -- as many states are turned as numbers are taken
  pub turns-left : 0 < first → {new : List ℕ} {next : ℕ} → RankTurns G to old first new next → next + states_left to new ≡ first + states_left to old
  turns-left some none = refl
  turns-left some (turn {ranks} {next} {s} t h x) =
      omega (arith, turns-left some t, fewer-left to ranks s (turned_to to next) h (turnable_left G to ranks s x) (turned_left to next (omega (arith, turns_rise t))))

  -- where no number is taken nothing is turned
  pub turns-none : {new : List ℕ} {next : ℕ} → RankTurns G to old first new next → next ≡ first → new ≡ old
  turns-none none e = refl
  turns-none (turn t h x) e = absurd (omega (arith, turns_rise t))

  pub turns_then : {mid : List ℕ} {next : ℕ} {new : List ℕ} {last : ℕ} → RankTurns G to old first mid next → RankTurns G to mid next new last → RankTurns G to old first new last
  turns_then t none = t
  turns_then t (turn u h x) = turn (turns_then t u) h x

-- ---- losing ranks: from every state that lost its rank the play is lost

module _ {G : Game} {old : List ℕ} {first : ℕ} where
  -- ranks are lost, and no other is given
  pub pruned-kept : {new : List ℕ} {next : ℕ} → RankTurns G false old first new next → (s : ℕ) → Ranked new s → rank_of new s ≡ rank_of old s
  pruned-kept none s r = refl
  pruned-kept (turn {ranks} {s = u} t h x) s r = by (ℕ_discrete s u) (λ q. pruned-kept t s q)
    where
      by : Dec (s ≡ u) → (Ranked ranks s → rank_of ranks s ≡ rank_of old s) → rank_of (set ranks u 0) s ≡ rank_of old s
      by (yes e) rest = absurd (r (ap (rank_of (set ranks u 0)) e ∙ get_or-set_same ranks u 0 0 h))
      by (no e) rest = let same = get_or-set_other ranks u s 0 0 e in same ∙ rest (subst (λ v. v ≢ 0) same r)

  pub pruned-lost : ((s : ℕ) → s < G.states → Ranked old s) → {new : List ℕ} {next : ℕ} → RankTurns G false old first new next → (s : ℕ) → s < G.states → ¬ Ranked new s → Lost G s
  pruned-lost all none = λ s h r. absurd (r (all s h))
  pruned-lost all (turn {ranks} {s = u} t h x) =
      let rest = pruned-lost all t in
      set_all (λ s v. s < G.states → ¬ (v ≢ 0) → Lost G s) ranks u 0 0 rest
      λ hs r. lost x.1.at x.1.is_choice λ a ha e inside. rest (G.entry u a) inside (x.1.none a ha e)

-- ---- getting ranks: each state has a lower one to answer every choice

-- the answers of a state that are lower than it
abbrev pub Lower : Game → List ℕ → ℕ → Type 0
Lower G ranks s = (c : ℕ) → c < G.choices → HasAnswer G (λ t. Ranked ranks t × (rank_of ranks t < rank_of ranks s)) s c

module _ {G : Game} {old : List ℕ} {first : ℕ} where
  -- every rank is below the next number
  pub grown-below : ((s : ℕ) → rank_of old s < first) → {new : List ℕ} {next : ℕ} → RankTurns G true old first new next → (s : ℕ) → rank_of new s < next
  grown-below all none = all
  grown-below all (turn {ranks} {next} {s = u} t h x) =
      let rest = grown-below all t in set_all (λ s v. v < suc next) ranks u next 0 (λ s. omega (arith, rest s)) (omega arith)

  -- a state keeps the rank that it has, and a new rank is not below the first number
  pub grown-old : {new : List ℕ} {next : ℕ} → RankTurns G true old first new next → (s : ℕ) → (rank_of new s ≡ rank_of old s) ⊎ ((¬ Ranked old s) × (first ≤ rank_of new s))
  grown-old none s = inl refl
  grown-old (turn {ranks} {next} {s = u} t h x) s = by (ℕ_discrete s u) (grown-old t s)
    where
      by : Dec (s ≡ u) → (rank_of ranks s ≡ rank_of old s) ⊎ ((¬ Ranked old s) × (first ≤ rank_of ranks s)) → (rank_of (set ranks u next) s ≡ rank_of old s) ⊎ ((¬ Ranked old s) × (first ≤ rank_of (set ranks u next) s))
      by (no e) rest = subst (λ v. (v ≡ rank_of old s) ⊎ ((¬ Ranked old s) × (first ≤ v))) (sym (get_or-set_other ranks u s next 0 e)) rest
      by (yes e) rest =
          let same = ap (rank_of (set ranks u next)) e ∙ get_or-set_same ranks u next 0 h in
          inr (⊎_elim (λ o r. x.0 (subst (Ranked ranks) e λ z. r (sym o ∙ z))) (λ o. o.0) rest, rw same (turns_rise t))

  pub grown-lower : ((s : ℕ) → rank_of old s < first) → first ≤ 2 → {new : List ℕ} {next : ℕ} → RankTurns G true old first new next → (s : ℕ) → 1 < rank_of new s → Lower G new s
  grown-lower all two none = λ s h. absurd (omega (arith, all s))
  grown-lower all two (turn {ranks} {next} {s = u} t h x) = λ s g. by s g (ℕ_discrete s u) (λ q. grown-lower all two t s q)
    where
      new : List ℕ
      new = set ranks u next

      by : (s : ℕ) → 1 < rank_of new s → Dec (s ≡ u) → (1 < rank_of ranks s → Lower G ranks s) → Lower G new s
      by s g (yes e) rest c hc =
          let y = x.1.answer c hc in
          let same = kept-ranked ranks u next (G.entry u y.letter) x.0 y.leads in
          record {
            letter = y.letter;
            is_letter = y.is_letter;
            has_choice = y.has_choice;
            leads = rw (e, same, get_or-set_same ranks u next 0 h) (y.leads, grown-below all t (G.entry u y.letter));
          }
      by s g (no e) rest c hc =
          let own = get_or-set_other ranks u s next 0 e in
          let y = rest (rw own at g) c hc in
          let same = kept-ranked ranks u next (G.entry s y.letter) x.0 y.leads.0 in
          record { letter = y.letter; is_letter = y.is_letter; has_choice = y.has_choice; leads = rw (own, same) y.leads }

-- ---- turning ends

module _ (G : Game) where
  -- each letter with the choice c leads to no ranked state, or one is an answer
  answer_or_none : (ranks : List ℕ) (s c : ℕ) → ((a : ℕ) → a < G.letters → G.choice a ≡ c → ¬ Ranked ranks (G.entry s a)) ⊎ HasAnswer G (Ranked ranks) s c
  answer_or_none ranks s c = each_or (λ a. G.choice a ≡ c → ¬ Ranked ranks (G.entry s a)) G.letters λ a ha. by a ha (ℕ_discrete (G.choice a) c) (ℕ_discrete (rank_of ranks (G.entry s a)) 0)
    where
      by : (a : ℕ) → a < G.letters → Dec (G.choice a ≡ c) → Dec (rank_of ranks (G.entry s a) ≡ 0) → (G.choice a ≡ c → ¬ Ranked ranks (G.entry s a)) ⊎ HasAnswer G (Ranked ranks) s c
      by a ha (yes e) (yes z) = inl λ _ r. r z
      by a ha (yes e) (no r) = inr (record { letter = a; is_letter = ha; has_choice = e; leads = r })
      by a ha (no e) z = inl λ q. absurd (e q)

  answered_or_not : (ranks : List ℕ) (s : ℕ) → Answered G ranks s ⊎ Unanswered G ranks s
  answered_or_not ranks s = ⊎_elim (λ all. inl (record { answer = all })) inr (each_or (HasAnswer G (Ranked ranks) s) G.choices λ c hc. by c hc (answer_or_none ranks s c))
    where
      by : (c : ℕ) → c < G.choices → ((a : ℕ) → a < G.letters → G.choice a ≡ c → ¬ Ranked ranks (G.entry s a)) ⊎ HasAnswer G (Ranked ranks) s c → HasAnswer G (Ranked ranks) s c ⊎ Unanswered G ranks s
      by c hc (inl x) = inr (record { at = c; is_choice = hc; none = x })
      by c hc (inr x) = inl x

  settled_or_not : (to : Bool) (ranks : List ℕ) (s : ℕ) → NoneToTurn G to ranks s ⊎ Turnable G to ranks s
  settled_or_not true ranks s = by (ℕ_discrete (rank_of ranks s) 0) (answered_or_not ranks s)
    where
      by : Dec (rank_of ranks s ≡ 0) → Answered G ranks s ⊎ Unanswered G ranks s → (Ranked ranks s ⊎ Unanswered G ranks s) ⊎ ((¬ Ranked ranks s) × Answered G ranks s)
      by (no r) x = inl (inl r)
      by (yes z) (inl x) = inr ((λ r. r z), x)
      by (yes z) (inr x) = inl (inr x)
  settled_or_not false ranks s = by (ℕ_discrete (rank_of ranks s) 0) (answered_or_not ranks s)
    where
      by : Dec (rank_of ranks s ≡ 0) → Answered G ranks s ⊎ Unanswered G ranks s → ((¬ Ranked ranks s) ⊎ Answered G ranks s) ⊎ (Ranked ranks s × Unanswered G ranks s)
      by (yes z) x = inl (inl λ r. r z)
      by (no r) (inl x) = inl (inr x)
      by (no r) (inr x) = inr (r, x)

  -- nothing is left to be turned, or some state is
  all-settled_or_not : (to : Bool) (ranks : List ℕ) → ((s : ℕ) → s < length ranks → NoneToTurn G to ranks s) ⊎ ((s : ℕ) × (s < length ranks) × Turnable G to ranks s)
  all-settled_or_not to ranks = each_or (NoneToTurn G to ranks) (length ranks) λ s h. ⊎_elim inl (λ x. inr (s, h, x)) (settled_or_not to ranks s)

  module _ (to : Bool) (old : List ℕ) (first : ℕ) (some : 0 < first) where
    -- each turn leaves one state fewer, so that turning ends
    turned_from : (fuel : ℕ) (ranks : List ℕ) (next : ℕ) → RankTurns G to old first ranks next → states_left to ranks ≤ fuel → (new : List ℕ) × AllTurned G to old first new
    turned_from zero ranks next t few = by (all-settled_or_not to ranks)
      where
        by : ((s : ℕ) → s < length ranks → NoneToTurn G to ranks s) ⊎ ((s : ℕ) × (s < length ranks) × Turnable G to ranks s) → (new : List ℕ) × AllTurned G to old first new
        by (inl all) = (ranks, record { next = next; turns = t; settled = all })
        by (inr x) = absurd (omega (arith, turns-left some t, turns-left some (turn t x.1 x.2)))
    turned_from (suc fuel) ranks next t few = by (all-settled_or_not to ranks) λ s h x. turned_from fuel (set ranks s (turned_to to next)) (suc next) (turn t h x) (omega (arith, turns-left some t, turns-left some (turn t h x)))
      where
        by : ((s : ℕ) → s < length ranks → NoneToTurn G to ranks s) ⊎ ((s : ℕ) × (s < length ranks) × Turnable G to ranks s)
            → ((s : ℕ) → s < length ranks → Turnable G to ranks s → (new : List ℕ) × AllTurned G to old first new) → (new : List ℕ) × AllTurned G to old first new
        by (inl all) rest = (ranks, record { next = next; turns = t; settled = all })
        by (inr x) rest = rest x.0 x.1 x.2

    pub all_turned : (new : List ℕ) × AllTurned G to old first new
    all_turned = turned_from (states_left to old) old first none (omega arith)
