-- The best course of m letters from a row, where the first letter costs by a function: it is found by recursion on m, and what
-- it costs is the least over the letters of what the letter and the best course of m - 1 letters after it cost.
use mathlib.Core.Path.{◌≡◌, refl, ap}
use mathlib.Core.Logic.{◌⊎◌, inl, inr, ◌≢◌}
use mathlib.Core.List.{List, [], ◌∷◌}
use Prim.Native.Nat.{ℕ, zero, suc, ◌+◌, ◌<◌, ◌≤◌}
use native.Mathlib.Nat.{not-suc-le-zero}
use native.Mathlib.Omega.{arith}
use native.Mathlib.Decide.{ℕ_discrete, dec_lt}
use lib.ListN.{length}
use borrow.Author.Count.{below_more}
use Rattle.automaton.specs.Table.{no_state}
use Rattle.automaton.specs.Course.{IsCourse, total_after, NoWorse, cheaper, as_cheap, IsLeast, NoCourseOf, IsLeastCost, has_cost, lacks, HasEntry, IsChoice}
use Rattle.automaton.proofs.CourseOrder.{no_worse_total, no_worse_cons}

module _ (changes : ℕ → ℕ → ℕ) (k : ℕ) (entry : ℕ → ℕ → ℕ) (final : ℕ → ℕ) where
  -- the best of m letters

  pub data Search (first : ℕ → ℕ) (m s : ℕ) : Type 0 where
    least : (r : List ℕ) → IsLeast changes k entry final first m s r → Search first m s
    none : NoCourseOf k entry final m s → Search first m s

  -- the best course a ∷ r of m + 1 letters among those whose first letter is below j
  pub record LeastBelow (j : ℕ) (first : ℕ → ℕ) (m s a : ℕ) (r : List ℕ) : Type 0 where
    pub head_below : a < j
    pub course : IsCourse k entry final s (a ∷ r)
    pub long : length r ≡ m
    pub least : (b : ℕ) (q : List ℕ) → b < j → IsCourse k entry final s (b ∷ q) → length q ≡ m → NoWorse changes first (a ∷ r) (b ∷ q)

  pub data SearchBelow (j : ℕ) (first : ℕ → ℕ) (m s : ℕ) : Type 0 where
    least_below : (a : ℕ) (r : List ℕ) → LeastBelow j first m s a r → SearchBelow j first m s
    none_below : ((b : ℕ) (q : List ℕ) → b < j → IsCourse k entry final s (b ∷ q) → length q ≢ m) → SearchBelow j first m s

  pub course-tail : (s a : ℕ) (r : List ℕ) → IsCourse k entry final s (a ∷ r) → IsCourse k entry final (entry s a) r
  course-tail s a r c = record { letters = c.letters.1; path = c.path.1; ends = c.ends }

  -- the courses by the letter j join those by letters below it
  unfoldable pub one_more : (j : ℕ) (first : ℕ → ℕ) (m s : ℕ) → j < k → Dec (entry s j ≡ no_state) → Search (changes j) m (entry s j)
      → SearchBelow j first m s → SearchBelow (suc j) first m s
  one_more j first m s hj d x y = go d x y
    where
      Least : (a : ℕ) (r : List ℕ) (b : ℕ) → Type 0
      Least a r b = (q : List ℕ) → IsCourse k entry final s (b ∷ q) → length q ≡ m → NoWorse changes first (a ∷ r) (b ∷ q)

      Lacks : ℕ → Type 0
      Lacks b = (q : List ℕ) → IsCourse k entry final s (b ∷ q) → length q ≢ m

      skip : Lacks j → SearchBelow j first m s → SearchBelow (suc j) first m s
      skip e (none_below f) = none_below λ b q h. below_more Lacks j (λ b g q. f b q g) e b (omega arith) q
      skip e (least_below a r l) = least_below a r (record {
        head_below = omega (arith, l.head_below);
        course = l.course;
        long = l.long;
        least = λ b q h. below_more (Least a r) j (λ b g q. l.least b q g) (λ q c g. absurd (e q c g)) b (omega arith) q;
      })

      candidate : (ne : entry s j ≢ no_state) (r : List ℕ) → IsLeast changes k entry final (changes j) m (entry s j) r
          → ((b : ℕ) → b < j → Least j r b) → SearchBelow (suc j) first m s
      candidate ne r l f = least_below j r (record {
        head_below = omega arith;
        course = record { letters = (hj, l.course.letters); path = (ne, l.course.path); ends = l.course.ends };
        long = l.long;
        least = λ b q h. below_more (Least j r) j f (λ q c g. no_worse_cons changes first j r q (l.least q (course-tail s j q c) g)) b (omega arith) q;
      })

      keep : (r : List ℕ) → IsLeast changes k entry final (changes j) m (entry s j) r → (a : ℕ) (p : List ℕ) → LeastBelow j first m s a p
          → ¬ (total_after changes first (j ∷ r) < total_after changes first (a ∷ p)) → SearchBelow (suc j) first m s
      keep r l a p o h = least_below a p (record {
        head_below = omega (arith, o.head_below);
        course = o.course;
        long = o.long;
        least = λ b q g. below_more (Least a p) j (λ b g q. o.least b q g) at_j b (omega arith) q;
      })
        where
          tie : (q : List ℕ) → total_after changes first (a ∷ p) ≤ total_after changes first (j ∷ q)
              → Dec (total_after changes first (a ∷ p) < total_after changes first (j ∷ q)) → NoWorse changes first (a ∷ p) (j ∷ q)
          tie q g (yes z) = cheaper z
          tie q g (no z) = as_cheap (omega arith) (inl o.head_below)

          at_j : Least a p j
          at_j q c g =
              let w = no_worse_total changes first (j ∷ r) (j ∷ q) (no_worse_cons changes first j r q (l.least q (course-tail s j q c) g)) in
              tie q (omega arith) (dec_lt (total_after changes first (a ∷ p)) (total_after changes first (j ∷ q)))

      choose : (ne : entry s j ≢ no_state) (r : List ℕ) → IsLeast changes k entry final (changes j) m (entry s j) r
          → (a : ℕ) (p : List ℕ) → LeastBelow j first m s a p
          → Dec (total_after changes first (j ∷ r) < total_after changes first (a ∷ p)) → SearchBelow (suc j) first m s
      choose ne r l a p o (yes h) = candidate ne r l λ b g q c e.
          cheaper (omega (arith, no_worse_total changes first (a ∷ p) (b ∷ q) (o.least b q g c e)))
      choose ne r l a p o (no h) = keep r l a p o h

      go : Dec (entry s j ≡ no_state) → Search (changes j) m (entry s j) → SearchBelow j first m s → SearchBelow (suc j) first m s
      go (yes e) x y = skip (λ q c g. absurd (c.path.0 e)) y
      go (no ne) (none f) y = skip (λ q c g. f q (course-tail s j q c) g) y
      go (no ne) (least r l) (none_below f) = candidate ne r l λ b g q c e. absurd (f b q g c e)
      go (no ne) (least r l) (least_below a p o) =
          choose ne r l a p o (dec_lt (total_after changes first (j ∷ r)) (total_after changes first (a ∷ p)))

  -- a final row needs no letter
  pub final-least : (first : ℕ → ℕ) (s : ℕ) → final s ≡ 1 → IsLeast changes k entry final first 0 s []
  final-least first s e = record { course = record { letters = tt; path = tt; ends = e }; long = refl; least = λ q c g. alone q g }
    where
      alone : (q : List ℕ) → length q ≡ 0 → NoWorse changes first [] q
      alone [] g = as_cheap refl tt
      alone (a ∷ q) g = absurd (omega arith)

  -- another row needs one
  pub other_none : (s : ℕ) → final s ≢ 1 → NoCourseOf k entry final 0 s
  other_none s ne [] c e = ne c.ends
  other_none s ne (a ∷ q) c e = absurd (omega arith)

  -- the best course of m letters from each row, after each letter: recursion on m, and over the letters
  unfoldable pub best_of : (m : ℕ) (first : ℕ → ℕ) (s : ℕ) → Search first m s
  best_of zero first s = go (ℕ_discrete (final s) 1)
    where
      go : Dec (final s ≡ 1) → Search first 0 s
      go (yes e) = least [] (final-least first s e)
      go (no ne) = none (other_none s ne)
  best_of (suc m) first s = whole (letters (λ a. best_of m (changes a) (entry s a)) k (omega arith))
    where
      letters : ((a : ℕ) → Search (changes a) m (entry s a)) → (j : ℕ) → j ≤ k → SearchBelow j first m s
      letters after zero h = none_below λ b q g. absurd (not-suc-le-zero g)
      letters after (suc j) h = one_more j first m s h (ℕ_discrete (entry s j) no_state) (after j) (letters after j (omega arith))

      whole : SearchBelow k first m s → Search first (suc m) s
      whole (none_below f) = none go
        where
          go : NoCourseOf k entry final (suc m) s
          go [] c e = absurd (omega arith)
          go (b ∷ q) c e = f b q c.letters.0 c (omega arith)
      whole (least_below a r l) = least (a ∷ r) (record { course = l.course; long = ap suc l.long; least = go })
        where
          go : (q : List ℕ) → IsCourse k entry final s q → length q ≡ suc m → NoWorse changes first (a ∷ r) q
          go [] c e = absurd (omega arith)
          go (b ∷ q) c e = l.least b q c.letters.0 c (omega arith)

  -- the best of m + 1 letters by what the best of m letters cost

  abbrev LeastCost : (without : ℕ) (first : ℕ → ℕ) (m s v : ℕ) → Type 0
  LeastCost = IsLeastCost changes k entry final

  cost_least : (without : ℕ) (first : ℕ → ℕ) (m s v : ℕ) (r : List ℕ) → LeastCost without first m s v
      → IsLeast changes k entry final first m s r → v ≡ total_after changes first r
  cost_least without first m s v r (lacks f e) l = absurd (f r l.course l.long)
  cost_least without first m s v r (has_cost {r = q} o e h) l =
      omega (arith, no_worse_total changes first r q (l.least q o.course o.long), no_worse_total changes first q r (o.least r l.course l.long))

  cost_course : (without : ℕ) (first : ℕ → ℕ) (m s v : ℕ) (q : List ℕ) → LeastCost without first m s v → IsCourse k entry final s q
      → length q ≡ m → (v ≤ total_after changes first q) × (v ≢ without)
  cost_course without first m s v q (lacks f e) c g = absurd (f q c g)
  cost_course without first m s v q (has_cost {r} o e h) c g = (omega (arith, no_worse_total changes first r q (o.least q c g)), omega arith)

  -- a row that needs no letter
  pub cost_zero : (without : ℕ) (first : ℕ → ℕ) (s : ℕ) → 0 < without → final s ≡ 1 → LeastCost without first 0 s 0
  cost_zero without first s h e = has_cost {r = []} (final-least first s e) refl h

  module _ (without : ℕ) (first cost_after : ℕ → ℕ) (m s : ℕ)
      (after : (b : ℕ) → HasEntry k entry s b → LeastCost without (changes b) m (entry s b) (cost_after b)) where
    -- forward: the chosen letter, and then the best course from the next row
    pub choice-least : (a : ℕ) → IsChoice k entry without first cost_after s a → (r : List ℕ)
        → IsLeast changes k entry final (changes a) m (entry s a) r → IsLeast changes k entry final first (suc m) s (a ∷ r)
    choice-least a x r l = record {
      course = record { letters = (x.letter.is_letter, l.course.letters); path = (x.letter.some_entry, l.course.path); ends = l.course.ends };
      long = ap suc l.long;
      least = go;
    }
      where
        e : cost_after a ≡ total_after changes (changes a) r
        e = cost_least without (changes a) m (entry s a) (cost_after a) r (after a x.letter) l

        tie : (b : ℕ) (q : List ℕ) → first a + cost_after a ≡ first b + cost_after b → cost_after b ≤ total_after changes (changes b) q → a < b
            → Dec (total_after changes first (a ∷ r) < total_after changes first (b ∷ q)) → NoWorse changes first (a ∷ r) (b ∷ q)
        tie b q f g h (yes z) = cheaper z
        tie b q f g h (no z) = as_cheap (omega (arith, e)) (inl h)

        same : (b : ℕ) (q : List ℕ) → a ≡ b → IsCourse k entry final s (b ∷ q) → length q ≡ m → NoWorse changes first (a ∷ r) (b ∷ q)
        same b q f c g =
            let c' : IsCourse k entry final s (a ∷ q) = rw f c in
            rw (← f) (no_worse_cons changes first a r q (l.least q (course-tail s a q c') g))

        by_letter : (b : ℕ) (q : List ℕ) → IsCourse k entry final s (b ∷ q) → length q ≡ m → cost_after b ≤ total_after changes (changes b) q
            → (first a + cost_after a < first b + cost_after b) ⊎ ((first a + cost_after a ≡ first b + cost_after b) × (a ≤ b))
            → Dec (a ≡ b) → NoWorse changes first (a ∷ r) (b ∷ q)
        by_letter b q c g v (inl h) d = cheaper (omega (arith, e))
        by_letter b q c g v (inr h) (yes f) = same b q f c g
        by_letter b q c g v (inr h) (no ne) =
            tie b q h.0 v (omega arith) (dec_lt (total_after changes first (a ∷ r)) (total_after changes first (b ∷ q)))

        go : (q : List ℕ) → IsCourse k entry final s q → length q ≡ suc m → NoWorse changes first (a ∷ r) q
        go [] c g = absurd (omega arith)
        go (b ∷ q) c g =
            let y : HasEntry k entry s b = record { is_letter = c.letters.0; some_entry = c.path.0 } in
            let z = cost_course without (changes b) m (entry s b) (cost_after b) q (after b y) (course-tail s b q c) (omega arith) in
            by_letter b q c (omega arith) z.0 (x.least b y z.1) (ℕ_discrete a b)

    -- backward: the least of what the letters and then the best courses cost
    pub cost_minimum : (v a : ℕ) → HasEntry k entry s a → cost_after a ≢ without → v ≡ first a + cost_after a
        → ((b : ℕ) → HasEntry k entry s b → cost_after b ≢ without → v ≤ first b + cost_after b) → v < without → LeastCost without first (suc m) s v
    cost_minimum v a x ne e f h = go (after a x) (best_of (suc m) first s)
      where
        low : (q : List ℕ) → IsCourse k entry final s q → length q ≡ suc m → v ≤ total_after changes first q
        low [] c g = absurd (omega arith)
        low (b ∷ q) c g =
            let y : HasEntry k entry s b = record { is_letter = c.letters.0; some_entry = c.path.0 } in
            let z = cost_course without (changes b) m (entry s b) (cost_after b) q (after b y) (course-tail s b q c) (omega arith) in
            omega (arith, z.0, f b y z.1)

        attained : (r : List ℕ) → IsLeast changes k entry final (changes a) m (entry s a) r → IsCourse k entry final s (a ∷ r)
        attained r l = record {
          letters = (x.is_letter, l.course.letters);
          path = (x.some_entry, l.course.path);
          ends = l.course.ends;
        }

        go : LeastCost without (changes a) m (entry s a) (cost_after a) → Search first (suc m) s → LeastCost without first (suc m) s v
        go (lacks g d) y = absurd (ne d)
        go (has_cost {r} l d g) (none y) = absurd (y (a ∷ r) (attained r l) (ap suc l.long))
        go (has_cost {r} l d g) (least q o) = has_cost o (omega (
          arith,
          low q o.course o.long,
          no_worse_total changes first q (a ∷ r) (o.least (a ∷ r) (attained r l) (ap suc l.long)),
        )) h

    -- or no letter goes on
    pub cost_none : ((b : ℕ) → HasEntry k entry s b → cost_after b ≡ without) → LeastCost without first (suc m) s without
    cost_none f = lacks go refl
      where
        go : NoCourseOf k entry final (suc m) s
        go [] c g = absurd (omega arith)
        go (b ∷ q) c g =
            let y : HasEntry k entry s b = record { is_letter = c.letters.0; some_entry = c.path.0 } in
            (cost_course without (changes b) m (entry s b) (cost_after b) q (after b y) (course-tail s b q c) (omega arith)).1 (f b y)
