-- Records that lead to states of two tables: a map of the old states to new ones that every entry respects is where all records lead; a record without a
-- way on, and two records that lead apart, leave a state without a new one. From the definitions, and the laws of paths one behind the other (automaton).
use mathlib.Core.Path.{◌≡◌, refl, sym, ap, subst, ◌∙◌}
use mathlib.Core.Logic.{◌≢◌}
use mathlib.Core.List.{List, [], ◌∷◌, ◌++◌}
use Prim.Native.Nat.{ℕ, ◌<◌}
use Rattle.automaton.specs.Words.{AllBelow}
use Rattle.automaton.specs.Table.{no_state, walk, PathFrom}
use Rattle.automaton.specs.WellFormed.{RowEntries}
use Rattle.automaton.proofs.Words.{all-below-append}
use Rattle.automaton.proofs.Course.{walk-append, path-append, path-rows}
use Rattle.carry.specs.Carry.{LeadsToState, IsReached, CarriesTo, LacksState, IsCarried, to_state, unreached}
use Rattle.carry.specs.Queue.{LeadsToBoth}

-- ---- one table

-- what stands behind a record is a path from the state to which it leads
pub path-behind : (entry : ℕ → ℕ → ℕ) (s : ℕ) (r q : List ℕ) → PathFrom entry s (r ++ q) → PathFrom entry (walk entry s r) q
path-behind entry s [] q p = p
path-behind entry s (a ∷ r) q p = path-behind entry (entry s a) r q p.1

module _ {k : ℕ} {entry : ℕ → ℕ → ℕ} where
  pub leads_empty : LeadsToState k entry 0 []
  leads_empty = record { letters = tt; path = tt; leads = refl }

  -- one letter more
  pub leads-letter : {i a : ℕ} {r : List ℕ} → LeadsToState k entry i r → a < k → entry i a ≢ no_state → LeadsToState k entry (entry i a) (r ++ (a ∷ []))
  leads-letter {i} {a} {r} x h ne = record {
    letters = all-below-append k r (a ∷ []) x.letters (h, tt);
    path = path-append entry 0 r (a ∷ []) x.path (subst (λ j. PathFrom entry j (a ∷ [])) (sym x.leads) (ne, tt));
    leads = walk-append entry 0 r (a ∷ []) ∙ ap (λ j. entry j a) x.leads;
  }

  -- a letter without an entry leads nowhere
  pub missing-leads : {i j a : ℕ} {r : List ℕ} → LeadsToState k entry i r → entry i a ≡ no_state → LeadsToState k entry j (r ++ (a ∷ [])) → ⊥
  missing-leads {a = a} {r} x none y = (path-behind entry 0 r (a ∷ []) y.path).0 (ap (λ j. entry j a) x.leads ∙ none)

  -- a record of a table leads to one of its rows
  pub leads-row : {n i : ℕ} {r : List ℕ} → RowEntries k n entry → 0 < n → LeadsToState k entry i r → i < n
  leads-row {n} {i} {r} rows some x = subst (λ j. j < n) x.leads (path-rows entry k n 0 r rows some x.letters x.path)

-- ---- two tables

module _ {k : ℕ} {old new : ℕ → ℕ → ℕ} where
  pub both-reached : {i j : ℕ} → LeadsToBoth k old new i j → IsReached k old i
  both-reached x = record { by = x.by; reaches = x.old_leads }

  -- one letter more in both
  pub both-letter : {i j a : ℕ} → LeadsToBoth k old new i j → a < k → old i a ≢ no_state → new j a ≢ no_state → LeadsToBoth k old new (old i a) (new j a)
  both-letter {a = a} x h ne me = record { by = x.by ++ (a ∷ []); old_leads = leads-letter x.old_leads h ne; new_leads = leads-letter x.new_leads h me }

  -- a record has no way on in the new table
  pub no_way_lacks : {i : ℕ} {r : List ℕ} → LeadsToState k old i r → ((j : ℕ) → ¬ LeadsToState k new j r) → LacksState k old new
  no_way_lacks {i} {r} x none = record { state = i; reached = record { by = r; reaches = x }; lacks = λ j c. none j (c.every r x) }

  pub no_entry_lacks : {i j a : ℕ} → LeadsToBoth k old new i j → a < k → old i a ≢ no_state → new j a ≡ no_state → LacksState k old new
  no_entry_lacks x h ne none = no_way_lacks (leads-letter x.old_leads h ne) (λ l y. missing-leads x.new_leads none y)

  -- two records lead to one old state, and to different new ones
  pub apart-lacks : {i j l : ℕ} → LeadsToBoth k old new i j → LeadsToBoth k old new i l → j ≢ l → LacksState k old new
  apart-lacks {i} x y ne = record {
    state = i;
    reached = both-reached x;
    lacks = λ m c. ne (sym x.new_leads.leads ∙ (c.every x.by x.old_leads).leads ∙ sym (c.every y.by y.old_leads).leads ∙ y.new_leads.leads);
  }

  -- the state to go on from is one, and so is what is given for a row
  carries_unique : {i j l : ℕ} → IsReached k old i → CarriesTo k old new i j → CarriesTo k old new i l → j ≡ l
  carries_unique x c d = sym (c.every x.by x.reaches).leads ∙ (d.every x.by x.reaches).leads

  pub carried_unique : {i v w : ℕ} → IsCarried k old new i v → IsCarried k old new i w → v ≡ w
  carried_unique (to_state x c) (to_state y d) = carries_unique x c d
  carried_unique (to_state x c) (unreached n e) = absurd (n x)
  carried_unique (unreached n e) (to_state y d) = absurd (n y)
  carried_unique (unreached n e) (unreached m d) = e ∙ sym d

-- a map of the states that have been seen, which every entry respects
module _ {k : ℕ} (old new : ℕ → ℕ → ℕ) (seen : ℕ → Type 0) (state : ℕ → ℕ) (start : seen 0) (start-state : state 0 ≡ 0)
    (closed : (i a : ℕ) → seen i → a < k → old i a ≢ no_state → seen (old i a) × (new (state i) a ≢ no_state) × (new (state i) a ≡ state (old i a))) where
  along : (r : List ℕ) (i : ℕ) → seen i → AllBelow k r → PathFrom old i r → PathFrom new (state i) r × (walk new (state i) r ≡ state (walk old i r)) × seen (walk old i r)
  along [] i s h p = (tt, refl, s)
  along (a ∷ r) i s h p =
      let c = closed i a s h.0 p.0 in
      let rest = along r (old i a) c.0 h.1 p.1 in
      ((c.1, subst (λ q. PathFrom new q r) (sym c.2) rest.0), ap (λ q. walk new q r) c.2 ∙ rest.1, rest.2)

  -- is where every record leads
  pub map-carries : (i : ℕ) → CarriesTo k old new i (state i)
  map-carries i = record {
    every = λ r x.
        let w = along r 0 start x.letters x.path in
        record {
          letters = x.letters;
          path = subst (λ q. PathFrom new q r) start-state w.0;
          leads = ap (λ q. walk new q r) (sym start-state) ∙ w.1 ∙ ap state x.leads;
        };
  }

  -- and a state that a record reaches has been seen
  pub reached-seen : {i : ℕ} → IsReached k old i → seen i
  reached-seen x = subst seen x.reaches.leads (along x.by 0 start x.reaches.letters x.reaches.path).2
