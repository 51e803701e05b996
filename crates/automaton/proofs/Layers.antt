-- Layers that a queue leaves: the layer of a row is the least number of letters that lead to it, a course of fewest letters
-- rises one layer with each letter, and its length is the least layer of a final row.
use mathlib.Core.Path.{◌≡◌, refl, sym, ap, ◌∙◌}
use mathlib.Core.Logic.{◌≢◌}
use mathlib.Core.List.{List, [], ◌∷◌, ◌++◌}
use Prim.Native.Nat.{ℕ, zero, suc, ◌+◌, ◌<◌, ◌≤◌}
use native.Mathlib.Omega.{arith}
use native.Mathlib.Decide.{ℕ_discrete}
use lib.ListN.{length, length-append}
use Rattle.automaton.specs.Words.{AllBelow}
use Rattle.automaton.specs.Table.{no_state, walk, PathFrom}
use Rattle.automaton.specs.Course.{IsCourse, NoLater, fewer_letters, IsBest, IsLeast, NoCourseOf, HasEntry}
use Rattle.automaton.specs.Layers.{MetFrom, IsLayers, Rising, IsGoal}
use Rattle.automaton.proofs.Words.{all-below-append}
use Rattle.automaton.proofs.CourseOrder.{no_worse_no_later}
use Rattle.automaton.proofs.Course.{walk-append, path-append, Fewest, best_fewest}

module _ (k : ℕ) (entry : ℕ → ℕ → ℕ) (s : ℕ) (Met : ℕ → Type 0) (layer : ℕ → ℕ) (L : IsLayers k entry s Met layer) where
  entry_of : (i a : ℕ) → a < k → entry i a ≢ no_state → HasEntry k entry i a
  entry_of i a h ne = record { is_letter = h; some_entry = ne }

  pub path-met : (i : ℕ) (r : List ℕ) → Met i → AllBelow k r → PathFrom entry i r → Met (walk entry i r)
  path-met i [] x h p = x
  path-met i (a ∷ r) x h p = path-met (entry i a) r (L.along_met i a x (entry_of i a h.0 p.0)) h.1 p.1

  pub path-layer : (i : ℕ) (r : List ℕ) → Met i → AllBelow k r → PathFrom entry i r → layer (walk entry i r) ≤ layer i + length r
  path-layer i [] x h p = omega arith
  path-layer i (a ∷ r) x h p =
      omega (arith, path-layer (entry i a) r (L.along_met i a x (entry_of i a h.0 p.0)) h.1 p.1, L.along_layer i a x (entry_of i a h.0 p.0))

  -- no path from the start to a row has fewer letters than the row's layer
  pub layer-least : (r : List ℕ) → AllBelow k r → PathFrom entry s r → layer (walk entry s r) ≤ length r
  layer-least r h p = omega (arith, path-layer s r L.start_met h p, L.start_layer)

  -- a path from the start to the row i with as many letters as its layer
  pub record LayerPath (i : ℕ) : Type 0 where
    pub route : List ℕ
    pub letters : AllBelow k route
    pub path : PathFrom entry s route
    pub leads : walk entry s route ≡ i
    pub long : length route ≡ layer i

  next-path : (i : ℕ) (y : MetFrom k entry Met layer i) → LayerPath y.row → LayerPath i
  next-path i y x = record {
    route = x.route ++ (y.letter ∷ []);
    letters = all-below-append k x.route (y.letter ∷ []) x.letters (y.has_entry.is_letter, tt);
    path = path-append entry s x.route (y.letter ∷ []) x.path (rw x.leads (y.has_entry.some_entry, tt));
    leads = walk-append entry s x.route (y.letter ∷ []) ∙ ap (λ u. entry u y.letter) x.leads ∙ y.leads;
    long = omega (arith, length-append x.route (y.letter ∷ []), x.long);
  }

  start-path : (i : ℕ) → i ≡ s → LayerPath i
  start-path i q = record { route = []; letters = tt; path = tt; leads = sym q; long = sym (ap layer q ∙ L.start_layer) }

  from-layer : (m i : ℕ) → layer i ≡ m → Met i → Dec (i ≡ s) → LayerPath i
  from-layer zero i e x (yes q) = start-path i q
  from-layer zero i e x (no ne) = let y = L.met_from i x ne in absurd (omega (arith, y.next_layer))
  from-layer (suc m) i e x (yes q) = start-path i q
  from-layer (suc m) i e x (no ne) =
      let y = L.met_from i x ne in
      next-path i y (from-layer m y.row (omega (arith, y.next_layer)) y.met (ℕ_discrete y.row s))

  pub layer-path : (i : ℕ) → Met i → LayerPath i
  layer-path i x = from-layer (layer i) i refl x (ℕ_discrete i s)

  -- a path that climbs as many layers as it has letters rises with each letter
  pub climb_rising : (i : ℕ) (r : List ℕ) → Met i → AllBelow k r → PathFrom entry i r → layer i + length r ≤ layer (walk entry i r)
      → Rising entry layer i r
  climb_rising i [] x h p g = tt
  climb_rising i (a ∷ r) x h p g =
      let y = L.along_met i a x (entry_of i a h.0 p.0) in
      let u = path-layer (entry i a) r y h.1 p.1 in
      let v = L.along_layer i a x (entry_of i a h.0 p.0) in
      (omega arith, climb_rising (entry i a) r y h.1 p.1 (omega arith))

  module _ (final : ℕ → ℕ) where
    -- a final row that is met has a course of as many letters as its layer
    pub final-course : (i : ℕ) → Met i → final i ≡ 1 → (r : List ℕ) × IsCourse k entry final s r × (length r ≡ layer i)
    final-course i x e = let p = layer-path i x in
        (p.route, record { letters = p.letters; path = p.path; ends = ap final p.leads ∙ e }, p.long)

    -- where no row that is met is final, there is no course (15)
    pub none-final : ((i : ℕ) → Met i → final i ≢ 1) → (r : List ℕ) → ¬ IsCourse k entry final s r
    none-final f r c = f (walk entry s r) (path-met s r L.start_met c.letters c.path) c.ends

    module _ (goal : ℕ) (G : IsGoal final Met layer goal) where
      -- no course is shorter than the goal layer, and one is as long
      pub goal-least : (r : List ℕ) → IsCourse k entry final s r → goal ≤ length r
      goal-least r c = omega (
        arith,
        layer-least r c.letters c.path,
        G.least (walk entry s r) (path-met s r L.start_met c.letters c.path) c.ends,
      )

      pub goal-course : (r : List ℕ) × IsCourse k entry final s r × (length r ≡ goal)
      goal-course = let x = final-course G.row G.met G.is_final in (x.0, x.1, x.2 ∙ G.in_goal)

      pub fewest_goal : (r : List ℕ) → IsCourse k entry final s r → Fewest k entry final s r → length r ≡ goal
      fewest_goal r c f = omega (arith, goal-least r c, f goal-course.0 goal-course.1, goal-course.2)

      -- the letters that are left at the row i: its courses of so many letters rise
      pub left_rising : (i : ℕ) → Met i → (r : List ℕ) → IsCourse k entry final i r → layer i + length r ≡ goal → Rising entry layer i r
      left_rising i x r c e =
          let y = path-met i r x c.letters c.path in
          climb_rising i r x c.letters c.path (omega (arith, G.least (walk entry i r) y c.ends))

      -- so no course of so many letters goes on by an entry that does not lead to the next layer
      pub left-none : (i a m : ℕ) → Met i → HasEntry k entry i a → layer i + suc m ≡ goal → layer (entry i a) ≢ suc (layer i)
          → NoCourseOf k entry final m (entry i a)
      left-none i a m x h e ne q c g = ne (left_rising i x (a ∷ q) course (omega arith)).0
        where
          course : IsCourse k entry final i (a ∷ q)
          course = record { letters = (h.is_letter, c.letters); path = (h.some_entry, c.path); ends = c.ends }

      module _ (changes : ℕ → ℕ → ℕ) where
        pub best-goal : (r : List ℕ) → IsBest changes k entry final s r → length r ≡ goal
        best-goal r b = fewest_goal r b.course (best_fewest changes k entry final s r b)

        -- the best of as many letters as the goal layer is the best course
        pub least-best : (r : List ℕ) → IsLeast changes k entry final (λ a. 0) goal s r → IsBest changes k entry final s r
        least-best r l = record { course = l.course; first = λ q c. go q c (ℕ_discrete (length q) goal) }
          where
            go : (q : List ℕ) → IsCourse k entry final s q → Dec (length q ≡ goal) → NoLater changes r q
            go q c (yes e) = no_worse_no_later changes r q (l.long ∙ sym e) (l.least q c e)
            go q c (no ne) = fewer_letters (omega (arith, l.long, goal-least q c))
