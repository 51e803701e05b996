-- Every name in an entry of the normal form is one of the normal form's streams, where every name of the sheet is one of the sheet's.
use Prim.Native.Nat.{ℕ, suc, ◌+◌, ◌≤◌}
use native.Mathlib.Omega.{arith}
use native.Mathlib.Nat.{le_trans}
use mathlib.Core.Path.{◌≡◌, ◌∙◌, ap}
use mathlib.Core.List.{List, [], ◌∷◌, ◌++◌}
use lib.ListN.{length, length-append, length-map}
use Rattle.basics.proofs.Lists.{All-append, All-member, member-All, All-map}
use Rattle.basics.specs.Lists.{All}
use Rattle.meaning.specs.Expression.{Expression, integer, name, first, next, negation, binary, conditional, fby, Constraint, always, until, left_side, right_side, Sheet}
use Rattle.meaning.specs.Interval.{NamesBelow, SidesBelow}
use Rattle.meaning.specs.NormalForm.{added, added_count, rewritten, added_entries, added_by, rewritten_constraint, entries_by, all_added, all_rewritten, all_entries, normal_form}
use Rattle.meaning.specs.Scope.{NamesKnown}

-- ---- what the added streams stand for

added-below : (n : ℕ) (e : Expression) → NamesBelow n e → All (NamesBelow n) (added e)
unfolding added
added-below n (integer z) h = tt
added-below n (name k) h = tt
added-below n (first e) h = added-below n e h
added-below n (next e) h = (h, (h, added-below n e h))
added-below n (negation e) h = added-below n e h
added-below n (binary o a b) h = (All-append (NamesBelow n) (added a) (added b)).1 (added-below n a h.0, added-below n b h.1)
added-below n (conditional c a b) h =
    (All-append (NamesBelow n) (added c) (added a ++ added b)).1
    (added-below n c h.0, (All-append (NamesBelow n) (added a) (added b)).1 (added-below n a h.1, added-below n b h.2))
added-below n (fby a b) h = (All-append (NamesBelow n) (added a) (fby a b ∷ a ∷ b ∷ added b)).1 (added-below n a h.0, (h, (h.0, (h.1, added-below n b h.1))))

added_by-below : (n : ℕ) (c : Constraint) → SidesBelow n c → All (NamesBelow n) (added_by c)
unfolding added_by
added_by-below n (always s a b) h = (All-append (NamesBelow n) (added a) (added b)).1 (added-below n a h.left, added-below n b h.right)
added_by-below n (until a b) h = (All-append (NamesBelow n) (added a) (a ∷ b ∷ added b)).1 (added-below n a h.left, (h.left, (h.right, added-below n b h.right)))

pub all_added-below : (n : ℕ) (cs : List Constraint) → All (SidesBelow n) cs → All (NamesBelow n) (all_added cs)
unfolding all_added
all_added-below n [] h = tt
all_added-below n (c ∷ cs) h = (All-append (NamesBelow n) (added_by c) (all_added cs)).1 (added_by-below n c h.0, all_added-below n cs h.1)

-- ---- the entries

pub NamesBelow-≤ : {m n : ℕ} → m ≤ n → (e : Expression) → NamesBelow m e → NamesBelow n e
NamesBelow-≤ l (integer z) h = tt
NamesBelow-≤ l (name k) h = le_trans h l
NamesBelow-≤ l (first e) h = NamesBelow-≤ l e h
NamesBelow-≤ l (next e) h = NamesBelow-≤ l e h
NamesBelow-≤ l (negation e) h = NamesBelow-≤ l e h
NamesBelow-≤ l (binary o a b) h = (NamesBelow-≤ l a h.0, NamesBelow-≤ l b h.1)
NamesBelow-≤ l (conditional c a b) h = (NamesBelow-≤ l c h.0, NamesBelow-≤ l a h.1, NamesBelow-≤ l b h.2)
NamesBelow-≤ l (fby a b) h = (NamesBelow-≤ l a h.0, NamesBelow-≤ l b h.1)

pub SidesBelow-≤ : {m n : ℕ} → m ≤ n → (c : Constraint) → SidesBelow m c → SidesBelow n c
SidesBelow-≤ l c h = record { left = NamesBelow-≤ l (left_side c) h.left; right = NamesBelow-≤ l (right_side c) h.right }

-- The streams numbered from n on that stand for these expressions are below m.
record Fits (n m : ℕ) (es : List Expression) : Type 0 where
  pub room : n + length es ≤ m

fits-first : {n m : ℕ} (es fs : List Expression) → Fits n m (es ++ fs) → Fits n m es
fits-first es fs l = record { room = omega (arith, length-append es fs) }

fits-second : {n m : ℕ} (es fs : List Expression) → Fits n m (es ++ fs) → Fits (n + length es) m fs
fits-second es fs l = record { room = omega (arith, length-append es fs) }

module _ (m : ℕ) where
  rewritten-below : (n : ℕ) (e : Expression) → NamesBelow m e → Fits n m (added e) → NamesBelow m (rewritten n e)
  unfolding added rewritten
  rewritten-below n (integer z) h l = tt
  rewritten-below n (name k) h l = h
  rewritten-below n (first e) h l = rewritten-below n e h l
  rewritten-below n (next e) h l = omega arith
  rewritten-below n (negation e) h l = rewritten-below n e h l
  rewritten-below n (binary o a b) h l =
      (rewritten-below n a h.0 (fits-first (added a) (added b) l), rewritten-below (n + added_count a) b h.1 (fits-second (added a) (added b) l))
  rewritten-below n (conditional c a b) h l =
      let k = fits-second (added c) (added a ++ added b) l in (
        rewritten-below n c h.0 (fits-first (added c) (added a ++ added b) l),
        rewritten-below (n + added_count c) a h.1 (fits-first (added a) (added b) k),
        rewritten-below (n + added_count c + added_count a) b h.2 (fits-second (added a) (added b) k),
      )
  rewritten-below n (fby a b) h l = let k = fits-second (added a) (fby a b ∷ a ∷ b ∷ added b) l in omega arith

  added_entries-below : (n : ℕ) (e : Expression) → NamesBelow m e → Fits n m (added e) → All (SidesBelow m) (added_entries n e)
  unfolding added added_entries
  added_entries-below n (integer z) h l = tt
  added_entries-below n (name k) h l = tt
  added_entries-below n (first e) h l = added_entries-below n e h l
  added_entries-below n (next e) h l =
      let k : Fits (suc (suc n)) m (added e) = record { room = omega arith } in (
        record { left = omega arith; right = rewritten-below (suc (suc n)) e h k },
        (record { left = omega arith; right = omega arith }, added_entries-below (suc (suc n)) e h k),
      )
  added_entries-below n (negation e) h l = added_entries-below n e h l
  added_entries-below n (binary o a b) h l =
      (All-append (SidesBelow m) (added_entries n a) (added_entries (n + added_count a) b)).1
      (added_entries-below n a h.0 (fits-first (added a) (added b) l), added_entries-below (n + added_count a) b h.1 (fits-second (added a) (added b) l))
  added_entries-below n (conditional c a b) h l =
      let k = fits-second (added c) (added a ++ added b) l in
      let f = n + added_count c in
      (All-append (SidesBelow m) (added_entries n c) (added_entries f a ++ added_entries (f + added_count a) b)).1 (
        added_entries-below n c h.0 (fits-first (added c) (added a ++ added b) l),
        (All-append (SidesBelow m) (added_entries f a) (added_entries (f + added_count a) b)).1
            (added_entries-below f a h.1 (fits-first (added a) (added b) k), added_entries-below (f + added_count a) b h.2 (fits-second (added a) (added b) k)),
      )
  added_entries-below n (fby a b) h l =
      let x = n + added_count a in
      let k = fits-first (added a) (fby a b ∷ a ∷ b ∷ added b) l in
      let q = fits-second (added a) (fby a b ∷ a ∷ b ∷ added b) l in
      let r : Fits (suc (suc (suc x))) m (added b) = record { room = omega arith } in
      (All-append (SidesBelow m) (added_entries n a) _).1 (
        added_entries-below n a h.0 k,
        (
          record { left = omega arith; right = rewritten-below n a h.0 k },
          (
            record { left = omega arith; right = rewritten-below (suc (suc (suc x))) b h.1 r },
            (record { left = omega arith; right = omega arith }, (record { left = omega arith; right = omega arith }, added_entries-below (suc (suc (suc x))) b h.1 r)),
          ),
        ),
      )

  rewritten_constraint-below : (n : ℕ) (c : Constraint) → SidesBelow m c → Fits n m (added_by c) → SidesBelow m (rewritten_constraint n c)
  unfolding added_by rewritten_constraint
  rewritten_constraint-below n (always s a b) h l =
      record {
        left = rewritten-below n a h.left (fits-first (added a) (added b) l);
        right = rewritten-below (n + added_count a) b h.right (fits-second (added a) (added b) l);
      }
  rewritten_constraint-below n (until a b) h l = let k = fits-second (added a) (a ∷ b ∷ added b) l in record { left = omega arith; right = omega arith }

  entries_by-below : (n : ℕ) (c : Constraint) → SidesBelow m c → Fits n m (added_by c) → All (SidesBelow m) (entries_by n c)
  unfolding added_by entries_by
  entries_by-below n (always s a b) h l =
      (All-append (SidesBelow m) (added_entries n a) (added_entries (n + added_count a) b)).1
      (added_entries-below n a h.left (fits-first (added a) (added b) l), added_entries-below (n + added_count a) b h.right (fits-second (added a) (added b) l))
  entries_by-below n (until a b) h l =
      let x = n + added_count a in
      let k = fits-first (added a) (a ∷ b ∷ added b) l in
      let q = fits-second (added a) (a ∷ b ∷ added b) l in
      let r : Fits (suc (suc x)) m (added b) = record { room = omega arith } in
      (All-append (SidesBelow m) (added_entries n a) _).1 (
        added_entries-below n a h.left k,
        (
          record { left = omega arith; right = rewritten-below n a h.left k },
          (record { left = omega arith; right = rewritten-below (suc (suc x)) b h.right r }, added_entries-below (suc (suc x)) b h.right r),
        ),
      )

  constraints-below : (n : ℕ) (cs : List Constraint) → All (SidesBelow m) cs → Fits n m (all_added cs)
      → All (SidesBelow m) (all_rewritten n cs) × All (SidesBelow m) (all_entries n cs)
  unfolding all_added all_rewritten all_entries
  constraints-below n [] h l = (tt, tt)
  constraints-below n (c ∷ cs) h l =
      let k = fits-first (added_by c) (all_added cs) l in
      let r = constraints-below (n + length (added_by c)) cs h.1 (fits-second (added_by c) (all_added cs) l) in
      ((rewritten_constraint-below n c h.0 k, r.0), (All-append (SidesBelow m) (entries_by n c) _).1 (entries_by-below n c h.0 k, r.1))

pub sides-All : {s : Sheet} → NamesKnown s → All (SidesBelow (length s.streams)) s.constraints
sides-All {s} known = member-All (SidesBelow (length s.streams)) s.constraints known.sides

-- The number of the normal form's streams.
pub streams-length : (s : Sheet) → length (normal_form s).streams ≡ length s.streams + length (all_added s.constraints)
unfolding normal_form
streams-length s = length-append s.streams _ ∙ ap (λ n. length s.streams + n) (length-map (all_added s.constraints) _)

pub names-below : {s : Sheet} → NamesKnown s → NamesKnown (normal_form s)
unfolding normal_form
names-below {s} known =
    let n = length s.streams in
    let m = length (normal_form s).streams in
    let l : n + length (all_added s.constraints) ≤ m = omega (arith, streams-length s) in
    let fewer : n ≤ m = omega arith in
    let below = All-map s.constraints (SidesBelow-≤ fewer) (sides-All known) in
    let entries = constraints-below m n s.constraints below (record { room = l }) in
    record { sides = λ c h. All-member (SidesBelow m) ((All-append (SidesBelow m) (all_rewritten n s.constraints) _).1 entries) h }
