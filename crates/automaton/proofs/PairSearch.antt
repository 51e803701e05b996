-- The keys of pairs of states stand for the pairs: so a search counts the pairs that two tables reach together, or shows that there are more than the
-- limit, and where pairs stay final the rows' graph has the words of both tables together. Whether they stay final is seen in the rows.
use Prim.Native.Nat.{ℕ, ◌+◌, ◌*◌, ◌/◌, ◌%◌, ◌≤◌, ◌<◌}
use native.Mathlib.Omega.{arith}
use native.Mathlib.Nat.{add-zero, zero-mul, mul-add-div_right, div-eq_of_lt, mul-add-mod_self_right, mod-eq_of_lt}
use mathlib.Core.Path.{◌≡◌, refl, sym, ◌∙◌, ap, ap₂, subst}
use mathlib.Core.Logic.{◌⊎◌, inl, inr, ◌≢◌}
use mathlib.Core.Bool.{Bool, true, false, cond, ◌&&◌}
use mathlib.Core.List.{List, [], ◌∷◌, ◌++◌, map}
use lib.Dec.{T, eqb, ltb}
use borrow.Author.Tests.{eqb-true, eq-eqb, ltb-true, lt-ltb}
use Rattle.basics.proofs.Tests.{true_of_T, T-of_true, not-both}
use Rattle.automaton.specs.Words.{AllBelow}
use Rattle.automaton.specs.Table.{no_state, walk, PathFrom}
use Rattle.automaton.specs.Solutions.{SameSolutions}
use Rattle.automaton.specs.Graph.{Graph, Language}
use Rattle.automaton.specs.Reachable.{IsRow, IsRow.no_row, IsRow.row, SearchedKeys}
use Rattle.automaton.specs.ReachedRows.{RowsOf, Marks, KeysStand}
use Rattle.automaton.specs.Join.{TwoTables, BothFollow, left_state, right_state, pair_of, BothFinal, SamePair, Together, FinalsStay}
use Rattle.automaton.specs.PairSearch.{pair_system, pair_key, left_next, right_next, StatesBelow, pair_final}
use Rattle.automaton.proofs.Reachable.{reached-row}
use Rattle.automaton.proofs.ReachedRows.{below-snoc, true_false, lawful-reached, searched-rows, row-graph, rows_language}
use Rattle.automaton.proofs.Join.{longer-walk, longer-path, path-longer, pairs_congruence}

-- ---- numbers of pairs

module _ (m p q : ℕ) (h : q < m) where
  pub pair-first : (p * m + q) / m ≡ p
  pair-first = mul-add-div_right (omega arith) p q ∙ (ap (p +◌) (div-eq_of_lt h) ∙ add-zero p)

  pub pair-second : (p * m + q) % m ≡ q
  pair-second = mul-add-mod_self_right p m q ∙ mod-eq_of_lt h

-- ---- tests

both_true : (b c : Bool) → (b && c) ≡ true → (b ≡ true) × (c ≡ true)
both_true true true e = (refl, refl)
both_true true false e = not-both e
both_true false c e = not-both e

true_both : (b c : Bool) → b ≡ true → c ≡ true → (b && c) ≡ true
true_both true true e f = refl
true_both true false e f = f
true_both false c e f = e

-- ---- states on paths

walk-below : (k m : ℕ) (f : ℕ → ℕ) (e : ℕ → ℕ → ℕ) → ((q a : ℕ) → q < m → a < k → (e q (f a) < m) ⊎ (e q (f a) ≡ no_state)) → (r : List ℕ) (q : ℕ) → q < m → AllBelow k r → PathFrom e q (map f r) → walk e q (map f r) < m
walk-below k m f e W [] q h b p = h
walk-below k m f e W (a ∷ r) q h b p = by (W q a h b.0) (λ l. walk-below k m f e W r (e q (f a)) l b.1 p.1)
  where
    by : (e q (f a) < m) ⊎ (e q (f a) ≡ no_state) → (e q (f a) < m → walk e (e q (f a)) (map f r) < m) → walk e (e q (f a)) (map f r) < m
    by (inl l) again = again l
    by (inr z) again = absurd (p.0 z)

-- an entry that is not none is below m
below_of : {e m : ℕ} → (e < m) ⊎ (e ≡ no_state) → e ≢ no_state → e < m
below_of (inl l) ne = l
below_of (inr z) ne = absurd (ne z)

-- ---- keys stand for pairs

module _ {T : TwoTables} {m : ℕ} (W : StatesBelow T m) where
  module _ (r : List ℕ) (b : AllBelow T.letters r) (l : BothFollow T r) where
    left_below : left_state T r < m
    left_below = walk-below T.letters m T.left T.left_entry W.left_entries r 0 W.some_state b l.left_path

    right-below : right_state T r < m
    right-below = walk-below T.letters m T.right T.right_entry W.right_entries r 0 W.some_state b l.right_path

    key_left : pair_key T m r / m ≡ left_state T r
    key_left = pair-first m (left_state T r) (right_state T r) right-below

    key_right : pair_key T m r % m ≡ right_state T r
    key_right = pair-second m (left_state T r) (right_state T r) right-below

    module _ (a : ℕ) where
      left-next : left_next T m (pair_key T m r) a ≡ left_state T (r ++ (a ∷ []))
      left-next = ap (λ x. T.left_entry x (T.left a)) key_left ∙ sym (longer-walk T.left T.left_entry r a)

      right-next : right_next T m (pair_key T m r) a ≡ right_state T (r ++ (a ∷ []))
      right-next = ap (λ x. T.right_entry x (T.right a)) key_right ∙ sym (longer-walk T.right T.right_entry r a)

      goes_on : ltb (left_next T m (pair_key T m r) a) m && ltb (right_next T m (pair_key T m r) a) m ≡ true → BothFollow T (r ++ (a ∷ []))
      goes_on e =
          let t = both_true _ _ e in
          let u = ltb-true _ m t.0 in
          let v = ltb-true _ m t.1 in
          record {
            left_path = path-longer T.left T.left_entry r a l.left_path (λ z. let w = left-next ∙ longer-walk T.left T.left_entry r a ∙ z in absurd (omega (arith, u, w, W.room)));
            right_path = path-longer T.right T.right_entry r a l.right_path (λ z. let w = right-next ∙ longer-walk T.right T.right_entry r a ∙ z in absurd (omega (arith, v, w, W.room)));
          }

      goes_back : a < T.letters → BothFollow T (r ++ (a ∷ [])) → ltb (left_next T m (pair_key T m r) a) m && ltb (right_next T m (pair_key T m r) a) m ≡ true
      goes_back h g =
          let u = below_of (W.left_entries (left_state T r) a left_below h) (longer-path T.left T.left_entry r a g.left_path).1 in
          let v = below_of (W.right_entries (right_state T r) a right-below h) (longer-path T.right T.right_entry r a g.right_path).1 in
          let p = lt-ltb _ m (subst (λ (x : ℕ). x < m) (sym (left-next ∙ longer-walk T.left T.left_entry r a)) u) in
          let q = lt-ltb _ m (subst (λ (x : ℕ). x < m) (sym (right-next ∙ longer-walk T.right T.right_entry r a)) v) in
          true_both _ _ p q

  pub pairs_stand : KeysStand (pair_system T m) (BothFollow T) (pair_key T m) (pair_of T) (pair_final T)
  pairs_stand =
      record {
        start_lawful = record { left_path = tt; right_path = tt };
        beginning = λ r a l. record { left_path = (longer-path T.left T.left_entry r a l.left_path).0; right_path = (longer-path T.right T.right_entry r a l.right_path).0 };
        empty = add-zero (0 * m) ∙ zero-mul m;
        allows = λ r b l a h. (goes_on r b l a, goes_back r b l a h);
        leads = λ r b l a h g. ap₂ (λ (x y : ℕ). x * m + y) (left-next r b l a) (right-next r b l a);
        key_thing = λ r t b c l g e.
            let u = sym (key_left r b l) ∙ ap (λ x. x / m) e ∙ key_left t c g in
            let v = sym (key_right r b l) ∙ ap (λ x. x % m) e ∙ key_right t c g in
            λ i. (u i, v i);
        thing_key = λ r t b c l g e. ap (λ p. p.0 * m + p.1) e;
        flagged = λ r b l. ap₂ (λ (x y : ℕ). eqb (T.left_final x) 1 && eqb (T.right_final y) 1) (key_left r b l) (key_right r b l);
      }

-- ---- pairs that are final

module _ {T₀ : TwoTables} where
  final-pair : (r : List ℕ) → T (pair_final T₀ (pair_of T₀ r)) → BothFinal T₀ r
  final-pair r d =
      let w = both_true _ _ (true_of_T (pair_final T₀ (pair_of T₀ r)) d) in
      record { left_final = eqb-true (T₀.left_final (left_state T₀ r)) 1 w.0; right_final = eqb-true (T₀.right_final (right_state T₀ r)) 1 w.1 }

  pair-final : (r : List ℕ) → BothFinal T₀ r → T (pair_final T₀ (pair_of T₀ r))
  pair-final r d = T-of_true (pair_final T₀ (pair_of T₀ r)) (true_both _ _ (eq-eqb _ 1 d.left_final) (eq-eqb _ 1 d.right_final))

  pub pairs-marks : FinalsStay T₀ → Marks T₀.letters (BothFollow T₀) (pair_of T₀) (pair_final T₀) (BothFinal T₀) (SamePair T₀)
  pairs-marks f =
      record {
        same_alike = λ r t b c l g e. record { same_left = ap (λ p. p.0) e; same_right = ap (λ p. p.1) e };
        done↔done = λ r b l. (final-pair r, pair-final r);
        stays = λ r a b h l g d. f.stay r a b h g d;
      }

-- ---- what a search of pairs leaves

module _ {T₀ : TwoTables} {m : ℕ} (W : StatesBelow T₀ m) {limit n : ℕ} {key : ℕ → ℕ} {entry : ℕ → ℕ → ℕ} {byte : ℕ → ℕ} (z : SearchedKeys (pair_system T₀ m) limit key entry byte false n) where
  pub pair-rows : RowsOf T₀.letters (BothFollow T₀) (pair_of T₀) (pair_final T₀) n entry byte
  pair-rows = searched-rows (pairs_stand W) z

  -- Where the rows' bytes stay 1 along entries, pairs stay final: each record that both follow has a row.
  module _ (stays : (i a : ℕ) → i < n → a < T₀.letters → entry i a < n → byte i ≡ 1 → byte (entry i a) ≡ 1) where
    abbrev stands : KeysStand (pair_system T₀ m) (BothFollow T₀) (pair_key T₀ m) (pair_of T₀) (pair_final T₀)
    stands = pairs_stand W

    -- the byte of a row says whether the pair of a record with the row's key is final
    byte-is : (r : List ℕ) → AllBelow T₀.letters r → BothFollow T₀ r → (i : ℕ) → i < n → key i ≡ pair_key T₀ m r → byte i ≡ cond (pair_final T₀ (pair_of T₀ r)) 1 0
    byte-is r b l i h e = z.known.flagged i h ∙ ap (λ x. cond ((pair_system T₀ m).flag x) 1 0) e ∙ ap (λ x. cond x 1 0) (stands.flagged r b l)

    one_true : (b : Bool) {v : ℕ} → v ≡ cond b 1 0 → v ≡ 1 → T b
    one_true true e f = tt
    one_true false e f = absurd (omega (arith, e, f))

    pub rows_stay : FinalsStay T₀
    rows_stay = record { stay = go }
      where
        go : (r : List ℕ) (a : ℕ) → AllBelow T₀.letters r → a < T₀.letters → BothFollow T₀ (r ++ (a ∷ [])) → BothFinal T₀ r → BothFinal T₀ (r ++ (a ∷ []))
        go r a b h g d =
            let l = stands.beginning r a g in
            let o = reached-row (pair_system T₀ m) z (lawful-reached stands r b l) in
            by o.0 o.1 o.2 l (z.outcome o.0 a o.1 h)
          where
            by : (i : ℕ) → i < n → key i ≡ pair_key T₀ m r → BothFollow T₀ r → IsRow (pair_system T₀ m) key n (key i) a (entry i a) → BothFinal T₀ (r ++ (a ∷ []))
            by i hi e l (no_row q f) = absurd (true_false (ap (λ x. (pair_system T₀ m).ok x a) e ∙ (stands.allows r b l a h).1 g) f)
            by i hi e l (row inside q f) =
                let one = byte-is r b l i hi e ∙ ap (λ x. cond x 1 0) (true_of_T (pair_final T₀ (pair_of T₀ r)) (pair-final r d)) in
                let next = f ∙ ap (λ x. (pair_system T₀ m).after x a) e ∙ stands.leads r b l a h g in
                final-pair (r ++ (a ∷ []))
                (one_true (pair_final T₀ (pair_of T₀ (r ++ (a ∷ [])))) (byte-is (r ++ (a ∷ [])) (below-snoc T₀.letters r a b h) g (entry i a) inside next) (stays i a hi h inside one))

  module _ (f : FinalsStay T₀) (room : n ≤ no_state) where
    unfoldable pub pair-graph : Graph
    pair-graph = row-graph (pairs-marks f) pair-rows room

    pub pair-graph_language : SameSolutions T₀.letters (Language pair-graph 0) (Together T₀)
    unfolding pair-graph
    pair-graph_language = rows_language (pairs-marks f) pair-rows room pairs_congruence
