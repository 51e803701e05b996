-- The check of a graph in tables, place by place: what a place adds, and why a place that fails is in no graph. Whatever is met
-- first at a place has the next number, since a graph's nodes are numbered in the order in which they are first met.
use mathlib.Core.Path.{◌≡◌, refl, sym, subst, ◌∙◌}
use mathlib.Core.Logic.{◌⊎◌, inl, inr, ◌≢◌}
use mathlib.Core.List.{List}
use Prim.Native.Nat.{ℕ, suc, ◌<◌, ◌≤◌}
use native.Mathlib.Omega.{arith}
use native.Mathlib.Decide.{ℕ_discrete, dec_lt}
use lib.Dec.{T}
use lib.ListN.{get_or}
use Rattle.automaton.specs.Table.{no_state, Before, FirstMet}
use Rattle.automaton.specs.Stored.{entry_at}
use Rattle.automaton.proofs.Places.{before_extend, before-later, before-row-end, before-row-start}
use Rattle.marks.specs.Tests.{is_marked}
use Rattle.marks.proofs.Tests.{marked-test, test-marked}
use Rattle.stored_graph.specs.StoredGraph.{IsStoredGraph}
use Rattle.stored_graph.specs.Checking.{HasGraphSizes, AreBits, Checked}

place-order : (i a j b : ℕ) → Before i a j b ⊎ (((i ≡ j) × (a ≡ b)) ⊎ Before j b i a)
place-order i a j b = go (dec_lt i j) (dec_lt j i) (dec_lt a b) (dec_lt b a)
  where
    go : Dec (i < j) → Dec (j < i) → Dec (a < b) → Dec (b < a) → Before i a j b ⊎ (((i ≡ j) × (a ≡ b)) ⊎ Before j b i a)
    go (yes h) q r s = inl (inl h)
    go (no g) (yes h) r s = inr (inr (inl h))
    go (no g) (no h) (yes r) s = inl (inr (omega arith, r))
    go (no g) (no h) (no r) (yes s) = inr (inr (inr (omega arith, s)))
    go (no g) (no h) (no r) (no s) = inr (inl (omega arith, omega arith))

-- a graph has the sizes
pub graph-sizes : {entries flags : List ℕ} {letters rows : ℕ} → IsStoredGraph entries flags letters rows → HasGraphSizes entries flags letters rows
graph-sizes G = record { some_letter = G.some_letter; some_row = G.some_row; few_rows = G.few_rows; entries_fit = G.entries_fit; flags_fit = G.flags_fit }

-- where flags are 1 or 0, a flag does not fall if the byte does not
pub flag-stays : (flags : List ℕ) (rows s u : ℕ) → AreBits flags rows → u < rows → get_or flags s 0 ≤ get_or flags u 0 → T (is_marked flags s) → T (is_marked flags u)
flag-stays flags rows s u b h l t = marked-test flags u (omega (arith, b u h, test-marked flags s t))

module _ {entries flags : List ℕ} {letters rows : ℕ} where
  pub checked_start : HasGraphSizes entries flags letters rows → Checked entries flags letters rows 0 0 1
  checked_start z = record {
    some = omega arith;
    most = z.some_row;
    targets = λ s b h p. absurd (none p);
    stays = λ s b h p. absurd (none p);
    first_met = λ j h g. absurd (omega arith);
  }
    where
      none : {s b : ℕ} → Before s b 0 0 → ⊥
      none (inl h) = omega arith
      none (inr p) = omega (arith, p.1)

  module _ {i a met : ℕ} (C : Checked entries flags letters rows i a met) where
    -- the next place names no row, or a row met before
    pub checked_old : (entry_at letters entries i a ≡ no_state) ⊎ (entry_at letters entries i a < met)
        → (entry_at letters entries i a < rows → T (is_marked flags i) → T (is_marked flags (entry_at letters entries i a))) → Checked entries flags letters rows i (suc a) met
    checked_old t f = record {
      some = C.some;
      most = C.most;
      targets = λ s b h p. targets s b h (before_extend p);
      stays = λ s b h p. stays s b h (before_extend p);
      first_met = λ j h g. let m = C.first_met j h g in (m.0, before-later m.1);
    }
      where
        targets : (s b : ℕ) → b < letters → Before s b i a ⊎ ((s ≡ i) × (b ≡ a)) → (entry_at letters entries s b ≡ no_state) ⊎ (entry_at letters entries s b < met)
        targets s b h (inl p) = C.targets s b h p
        targets s b h (inr q) = rw (q.0, q.1) t

        stays : (s b : ℕ) → b < letters → Before s b i a ⊎ ((s ≡ i) × (b ≡ a)) → entry_at letters entries s b < rows → T (is_marked flags s) → T (is_marked flags (entry_at letters entries s b))
        stays s b h (inl p) = C.stays s b h p
        stays s b h (inr q) = rw (q.0, q.1) f

    -- the next place names the row that is met next
    pub checked_new : i < met → a < letters → met < rows → entry_at letters entries i a ≡ met
        → (entry_at letters entries i a < rows → T (is_marked flags i) → T (is_marked flags (entry_at letters entries i a))) → Checked entries flags letters rows i (suc a) (suc met)
    checked_new hi ha hm e f = record {
      some = omega arith;
      most = hm;
      targets = λ s b h p. targets s b h (before_extend p);
      stays = checked_old_stays;
      first_met = λ j h g. first_met j h g (ℕ_discrete j met);
    }
      where
        checked_old_stays : (s b : ℕ) → b < letters → Before s b i (suc a) → entry_at letters entries s b < rows → T (is_marked flags s) → T (is_marked flags (entry_at letters entries s b))
        checked_old_stays s b h p = go (before_extend p)
          where
            go : Before s b i a ⊎ ((s ≡ i) × (b ≡ a)) → entry_at letters entries s b < rows → T (is_marked flags s) → T (is_marked flags (entry_at letters entries s b))
            go (inl q) = C.stays s b h q
            go (inr q) = rw (q.0, q.1) f

        wider : {v : ℕ} → (v ≡ no_state) ⊎ (v < met) → (v ≡ no_state) ⊎ (v < suc met)
        wider (inl q) = inl q
        wider (inr q) = inr (omega arith)

        targets : (s b : ℕ) → b < letters → Before s b i a ⊎ ((s ≡ i) × (b ≡ a)) → (entry_at letters entries s b ≡ no_state) ⊎ (entry_at letters entries s b < suc met)
        targets s b h (inl p) = wider (C.targets s b h p)
        targets s b h (inr q) = rw (q.0, q.1) (inr (omega (arith, e)))

        small : {v : ℕ} → (v ≡ no_state) ⊎ (v < met) → v ≢ no_state → v < met
        small (inl q) n = absurd (n q)
        small (inr q) n = q

        first_met : (j : ℕ) → 0 < j → j < suc met → Dec (j ≡ met) → (f : FirstMet letters (entry_at letters entries) j) × Before f.state f.letter i (suc a)
        first_met j h g (yes q) = (
          record {
            state = i;
            letter = a;
            earlier_state = omega arith;
            is_letter = ha;
            holds = e ∙ sym q;
            before = λ s b hb p n. omega (arith, small (C.targets s b hb p) n);
          },
          inr (refl, omega arith),
        )
        first_met j h g (no q) = let m = C.first_met j h (omega arith) in (m.0, before-later m.1)

  pub checked_at : {i a b met : ℕ} → a ≡ b → Checked entries flags letters rows i a met → Checked entries flags letters rows i b met
  checked_at {i} {a} {b} {met} e C = subst (λ x. Checked entries flags letters rows i x met) e C

  pub checked_row : {i met : ℕ} → Checked entries flags letters rows i letters met → Checked entries flags letters rows (suc i) 0 met
  checked_row C = record {
    some = C.some;
    most = C.most;
    targets = λ s b h p. C.targets s b h (before-row-end h p);
    stays = λ s b h p. C.stays s b h (before-row-end h p);
    first_met = λ j h g. let m = C.first_met j h g in (m.0, before-row-start m.1);
  }

  -- what a graph rules out

  module _ (G : IsStoredGraph entries flags letters rows) {i a met : ℕ} (C : Checked entries flags letters rows i a met) where
    -- no place that was checked names a row that is not met
    not_named : (j s b : ℕ) → met ≤ j → j < rows → b < letters → Before s b i a → entry_at letters entries s b ≡ j → ⊥
    not_named j s b l h hb p e = go (C.targets s b hb p)
      where
        go : (entry_at letters entries s b ≡ no_state) ⊎ (entry_at letters entries s b < met) → ⊥
        go (inl q) = omega (arith, G.few_rows)
        go (inr q) = omega arith

    -- a place that names a row after the next one breaks the order
    pub order-broken : i < rows → a < letters → entry_at letters entries i a ≢ no_state → met < entry_at letters entries i a → ⊥
    order-broken hi ha n l = go (G.targets i a hi ha)
      where
        go : (entry_at letters entries i a ≡ no_state) ⊎ (entry_at letters entries i a < rows) → ⊥
        go (inl q) = n q
        go (inr h) = at_first (G.first_met met C.some (omega arith))
          where
            at_first : FirstMet letters (entry_at letters entries) met → ⊥
            at_first f = compare (place-order f.state f.letter i a)
              where
                compare : Before f.state f.letter i a ⊎ (((f.state ≡ i) × (f.letter ≡ a)) ⊎ Before i a f.state f.letter) → ⊥
                compare (inl p) = not_named met f.state f.letter (omega arith) (omega arith) f.is_letter p f.holds
                compare (inr (inl q)) = let e : entry_at letters entries i a ≡ met = rw (q.0, q.1) at f.holds in omega arith
                compare (inr (inr p)) = omega (arith, f.before i a ha p n)

    -- a row that is not met before its place
    pub row_unmet : (j : ℕ) → met ≤ j → j < rows → j ≤ i → ⊥
    row_unmet j l h hi =
        let f = G.first_met j (omega (arith, C.some)) h in
        not_named j f.state f.letter l h f.is_letter (inl (omega (arith, f.earlier_state))) f.holds

  -- all rows are checked and met
  pub checked_graph : {i met : ℕ} → i ≡ rows → met ≡ rows → HasGraphSizes entries flags letters rows → AreBits flags rows → Checked entries flags letters rows i 0 met → IsStoredGraph entries flags letters rows
  checked_graph {i} {met} e m z b C = record {
    some_letter = z.some_letter;
    some_row = z.some_row;
    few_rows = z.few_rows;
    entries_fit = z.entries_fit;
    flags_fit = z.flags_fit;
    bits = b;
    targets = λ s a hs ha. go (C.targets s a ha (inl (omega arith)));
    stays = λ s a hs ha. C.stays s a ha (inl (omega arith));
    first_met = λ j h g. (C.first_met j h (omega arith)).0;
  }
    where
      go : {v : ℕ} → (v ≡ no_state) ⊎ (v < met) → (v ≡ no_state) ⊎ (v < rows)
      go (inl q) = inl q
      go (inr q) = inr (omega arith)
