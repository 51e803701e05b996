-- Best courses: there is at most one, there is one as soon as there is a course, and it has fewer letters than there are rows;
-- so whether there is one is decided.
use mathlib.Core.Path.{◌≡◌, refl, sym, ◌∙◌}
use mathlib.Core.Logic.{◌≢◌}
use mathlib.Core.List.{List, [], ◌∷◌, ◌++◌}
use Prim.Native.Nat.{ℕ, zero, suc, ◌<◌, ◌≤◌}
use native.Mathlib.Omega.{arith}
use native.Mathlib.Decide.{ℕ_discrete}
use lib.ListN.{length, take, drop, length-append, length-drop}
use lib.Seq.{length-take-le}
use Rattle.automaton.specs.Words.{AllBelow}
use Rattle.automaton.specs.Table.{walk, PathFrom}
use Rattle.automaton.proofs.Words.{all-below-append}
use Rattle.automaton.proofs.Pigeonhole.{pigeonhole}
use Rattle.automaton.specs.WellFormed.{RowEntries}
use Rattle.automaton.specs.Course.{IsCourse, NoLater, fewer_letters, IsBest, IsLeast}
use Rattle.automaton.proofs.WellFormed.{some-row-entry}
use Rattle.automaton.proofs.CourseOrder.{Trichotomy, below, equal, above, trichotomy, no_later_antisym, no_later_letters, no_worse_no_later}
use Rattle.automaton.proofs.CourseSearch.{Search, least, none, best_of}

module _ (changes : ℕ → ℕ → ℕ) (k : ℕ) (entry : ℕ → ℕ → ℕ) (final : ℕ → ℕ) where
  -- two best courses are equal
  pub best_unique : (s : ℕ) (r q : List ℕ) → IsBest changes k entry final s r → IsBest changes k entry final s q → r ≡ q
  best_unique s r q x y = no_later_antisym changes r q (x.first q y.course) (y.first r x.course)

  pub data Within (m s : ℕ) : Type 0 where
    best : (r : List ℕ) → IsBest changes k entry final s r → Within m s
    none_within : ((q : List ℕ) → IsCourse k entry final s q → m ≤ length q) → Within m s

  -- the best course, if there is one of fewer than m letters
  unfoldable pub best-within : (m s : ℕ) → Within m s
  best-within zero s = none_within λ q c. omega arith
  best-within (suc m) s = go (best-within m s) (best_of changes k entry final m (λ a. 0) s)
    where
      fewest : (r : List ℕ) → IsLeast changes k entry final (λ a. 0) m s r → ((q : List ℕ) → IsCourse k entry final s q → m ≤ length q)
          → (q : List ℕ) → IsCourse k entry final s q → NoLater changes r q
      fewest r l f q c = compare (ℕ_discrete (length q) m)
        where
          compare : Dec (length q ≡ m) → NoLater changes r q
          compare (yes e) = no_worse_no_later changes r q (l.long ∙ sym e) (l.least q c e)
          compare (no ne) = fewer_letters (omega (arith, f q c, l.long))

      go : Within m s → Search changes k entry final (λ a. 0) m s → Within (suc m) s
      go (best r b) x = best r b
      go (none_within f) (least r l) = best r (record { course = l.course; first = fewest r l f })
      go (none_within f) (none e) = none_within λ q c. omega (arith, f q c, e q c)

  -- if there is a course, there is a best one
  pub best_exists : (s : ℕ) (q : List ℕ) → IsCourse k entry final s q → (r : List ℕ) × IsBest changes k entry final s r
  best_exists s q c = go (best-within (suc (length q)) s)
    where
      go : Within (suc (length q)) s → (r : List ℕ) × IsBest changes k entry final s r
      go (best r b) = (r, b)
      go (none_within f) = absurd (omega (arith, f q c))

-- parts of a course

all-below-take : (k i : ℕ) (r : List ℕ) → AllBelow k r → AllBelow k (take i r)
all-below-take k zero r h = tt
all-below-take k (suc i) [] h = tt
all-below-take k (suc i) (a ∷ r) h = (h.0, all-below-take k i r h.1)

all-below-drop : (k i : ℕ) (r : List ℕ) → AllBelow k r → AllBelow k (drop i r)
all-below-drop k zero r h = h
all-below-drop k (suc i) [] h = tt
all-below-drop k (suc i) (a ∷ r) h = all-below-drop k i r h.1

module _ (entry : ℕ → ℕ → ℕ) where
  pub walk-append : (s : ℕ) (r q : List ℕ) → walk entry s (r ++ q) ≡ walk entry (walk entry s r) q
  walk-append s [] q = refl
  walk-append s (a ∷ r) q = walk-append (entry s a) r q

  pub path-append : (s : ℕ) (r q : List ℕ) → PathFrom entry s r → PathFrom entry (walk entry s r) q → PathFrom entry s (r ++ q)
  path-append s [] q p g = g
  path-append s (a ∷ r) q p g = (p.0, path-append (entry s a) r q p.1 g)

  pub path-take : (i s : ℕ) (r : List ℕ) → PathFrom entry s r → PathFrom entry s (take i r)
  path-take zero s r p = tt
  path-take (suc i) s [] p = tt
  path-take (suc i) s (a ∷ r) p = (p.0, path-take i (entry s a) r p.1)

  pub path-drop : (i s : ℕ) (r : List ℕ) → PathFrom entry s r → PathFrom entry (walk entry s (take i r)) (drop i r)
  path-drop zero s r p = p
  path-drop (suc i) s [] p = p
  path-drop (suc i) s (a ∷ r) p = path-drop i (entry s a) r p.1

  pub walk-drop : (i s : ℕ) (r : List ℕ) → walk entry (walk entry s (take i r)) (drop i r) ≡ walk entry s r
  walk-drop zero s r = refl
  walk-drop (suc i) s [] = refl
  walk-drop (suc i) s (a ∷ r) = walk-drop i (entry s a) r

  -- a path of a table stays in its rows
  pub path-rows : (k n s : ℕ) (r : List ℕ) → RowEntries k n entry → s < n → AllBelow k r → PathFrom entry s r → walk entry s r < n
  path-rows k n s [] t hs h p = hs
  path-rows k n s (a ∷ r) t hs h p = path-rows k n (entry s a) r t (some-row-entry t s a hs h.0 p.0) h.1 p.1

module _ (k : ℕ) (entry : ℕ → ℕ → ℕ) (final : ℕ → ℕ) (s : ℕ) where
  -- no course has fewer letters
  abbrev pub Fewest : List ℕ → Type 0
  Fewest r = (q : List ℕ) → IsCourse k entry final s q → length r ≤ length q

  -- another path to a row of a course, and then its end, is a course
  pub course-joined : (i : ℕ) (r q : List ℕ) → IsCourse k entry final s r → AllBelow k q → PathFrom entry s q
      → walk entry s q ≡ walk entry s (take i r) → IsCourse k entry final s (q ++ drop i r)
  course-joined i r q c h p e = record {
    letters = all-below-append k q (drop i r) h (all-below-drop k i r c.letters);
    path = path-append entry s q (drop i r) p (rw e (path-drop entry i s r c.path));
    ends = rw (walk-append entry s q (drop i r), e, walk-drop entry i s r) c.ends;
  }

  -- the rows of a course of fewest letters differ
  pub fewest_distinct : (r : List ℕ) → IsCourse k entry final s r → Fewest r → (i j : ℕ) → i < j → j ≤ length r
      → walk entry s (take i r) ≢ walk entry s (take j r)
  fewest_distinct r c f i j h g e =
      let x = f (take i r ++ drop j r)
      (course-joined j r (take i r) c (all-below-take k i r c.letters) (path-take entry i s r c.path) e) in
      let y : length (take i r) ≡ i = length-take-le i r (omega arith) in
      omega (arith, x, y, length-append (take i r) (drop j r), length-drop j r)

  -- so they are fewer than the rows of the table
  pub fewest_short : (n : ℕ) → RowEntries k n entry → s < n → (r : List ℕ) → IsCourse k entry final s r → Fewest r → length r < n
  fewest_short n t hs r c f = pigeonhole (suc (length r)) n (λ i. walk entry s (take i r)) inside inj
    where
      inside : (i : ℕ) → i < suc (length r) → walk entry s (take i r) < n
      inside i h = path-rows entry k n s (take i r) t hs (all-below-take k i r c.letters) (path-take entry i s r c.path)

      inj : (i j : ℕ) → i < suc (length r) → j < suc (length r) → walk entry s (take i r) ≡ walk entry s (take j r) → i ≡ j
      inj i j hi hj e = go (trichotomy i j)
        where
          go : Trichotomy i j → i ≡ j
          go (below h) = absurd (fewest_distinct r c f i j h (omega arith) e)
          go (equal q) = q
          go (above h) = absurd (fewest_distinct r c f j i h (omega arith) (sym e))

module _ (changes : ℕ → ℕ → ℕ) (k : ℕ) (entry : ℕ → ℕ → ℕ) (final : ℕ → ℕ) where
  pub best_fewest : (s : ℕ) (r : List ℕ) → IsBest changes k entry final s r → Fewest k entry final s r
  best_fewest s r b q c = no_later_letters changes r q (b.first q c)

  -- the best course has fewer letters than the table has rows
  pub best-short : (n s : ℕ) → RowEntries k n entry → s < n → (r : List ℕ) → IsBest changes k entry final s r → length r < n
  best-short n s t hs r b = fewest_short k entry final s n t hs r b.course (best_fewest s r b)

  pub data Decided (s : ℕ) : Type 0 where
    has_best : (r : List ℕ) → IsBest changes k entry final s r → Decided s
    has_none : ((r : List ℕ) → ¬ IsCourse k entry final s r) → Decided s

  -- whether there is a course is decided, and the best one computed
  pub course_decided : (n s : ℕ) → RowEntries k n entry → s < n → Decided s
  course_decided n s t hs = go (best-within changes k entry final n s)
    where
      go : Within changes k entry final n s → Decided s
      go (best r b) = has_best r b
      go (none_within f) = has_none λ q c.
          let x = best_exists changes k entry final s q c in
          let y = best-short n s t hs x.0 x.1 in
          absurd (omega (arith, y, f x.0 x.1.course))
