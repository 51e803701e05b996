-- What a sweep does: the step at one row, and sweeps after each other, over any rows in any order. From the definitions of sweeps and
-- the laws of marks.
use mathlib.Core.Path.{◌≡◌, refl, sym, ◌∙◌}
use mathlib.Core.Logic.{◌⊎◌, ⊎_elim}
use mathlib.Core.Bool.{Bool, true, false, not, beq, ◌||◌}
use mathlib.Core.List.{List, [], ◌∷◌}
use Prim.Native.Nat.{ℕ, zero, suc, ◌+◌, ◌<◌}
use native.Mathlib.Nat.{not-suc-le-zero}
use native.Mathlib.Omega.{arith}
use native.Mathlib.Decide.{ℕ_discrete}
use lib.ListN.{length, get_or, set, length-set}
use lib.Seq.{get_or-set_other}
use lib.Dec.{eqb}
use borrow.Author.Tests.{eqb-true, eqb-false}
use Rattle.basics.proofs.Answers.{says_yes, says_no}
use Rattle.basics.specs.Answers.{Says}
use Rattle.marks.specs.Marks.{Marked, target, Supported, Ends, ends, LeadsToMarked, here, there}
use Rattle.marks.specs.Sweeps.{mark, differ, rows_left, SweepSettled, Grows, Prunes, Turns, SweepOutcome, Swept, Closed}
use Rattle.marks.proofs.Laws.{marked-inside, cleared_refl, cleared_trans, cleared-set, marked_refl, marked_trans, marked-set}

-- ---- tests and counts

pub beq_same : (a b : Bool) → beq a b ≡ true → a ≡ b
beq_same true true e = refl
beq_same true false e = sym e
beq_same false true e = e
beq_same false false e = refl

pub beq_other : (a b : Bool) → beq a b ≡ false → a ≡ not b
beq_other true true e = e
beq_other true false e = refl
beq_other false true e = refl
beq_other false false e = sym e

-- turning one row leaves one row fewer
fewer-left : (to : Bool) (marks : List ℕ) (s : ℕ) → s < length marks → beq (eqb (get_or marks s 0) 1) to ≡ false → suc (rows_left to (set marks s (mark to))) ≡ rows_left to marks
fewer-left to [] s h e = absurd (not-suc-le-zero h)
fewer-left to (x ∷ xs) zero h e = go to (eqb x 1) e
  where
    go : (to b : Bool) → beq b to ≡ false → suc (differ (eqb (mark to) 1) to + rows_left to xs) ≡ differ b to + rows_left to xs
    go true b e = rw (beq_other b true e) (omega arith)
    go false b e = rw (beq_other b false e) (omega arith)
fewer-left to (x ∷ xs) (suc s) h e = let g : suc (rows_left to (set xs s (mark to))) ≡ rows_left to xs = fewer-left to xs s (omega arith) e in omega arith

-- ---- clearing

module _ {letters : ℕ} {entries : List ℕ} where
  -- paths end in a larger set too, if they end from each row that is only in the larger one
  ends_wider : {first old : List ℕ} → ((t : ℕ) → Marked first t → ¬ Marked old t → Ends letters entries first t) → {s : ℕ} → Ends letters entries old s → Ends letters entries first s
  ends_wider {first} {old} r {s} (ends h) = ends λ a ha m. go a m (ℕ_discrete (get_or old (target letters entries s a) 0) 1) (λ q. ends_wider r (h a ha q))
    where
      go : (a : ℕ) → Marked first (target letters entries s a) → Dec (Marked old (target letters entries s a)) → (Marked old (target letters entries s a) → Ends letters entries first (target letters entries s a))
          → Ends letters entries first (target letters entries s a)
      go a m (yes q) f = f q
      go a m (no q) f = r (target letters entries s a) m q

  prunes_one : {marks : List ℕ} (s : ℕ) → Marked marks s → ¬ Supported letters entries marks s → Prunes letters entries marks (set marks s 0)
  prunes_one {marks} s m n = record { cleared = cleared-set marks s m; reason = λ t a b. reason t a b (ℕ_discrete t s) }
    where
      dead : Ends letters entries marks s
      dead = ends λ a ha q. absurd (n (record { letter = a; is_letter = ha; marked = q }))

      reason : (t : ℕ) → Marked marks t → ¬ Marked (set marks s 0) t → Dec (t ≡ s) → Ends letters entries marks t
      reason t a b (yes q) = rw q dead
      reason t a b (no q) = absurd (b (get_or-set_other marks s t 0 0 q ∙ a))

  prunes_then : {first old new : List ℕ} → Prunes letters entries first old → Prunes letters entries old new → Prunes letters entries first new
  prunes_then {first} {old} {new} p q = record { cleared = cleared_trans p.cleared q.cleared; reason = λ s m n. go s m n (ℕ_discrete (get_or old s 0) 1) }
    where
      go : (s : ℕ) → Marked first s → ¬ Marked new s → Dec (Marked old s) → Ends letters entries first s
      go s m n (yes o) = ends_wider p.reason (q.reason s o n)
      go s m n (no o) = p.reason s m o

  -- ---- marking

  leads_through : {first old : List ℕ} → length old ≡ length first → ((t : ℕ) → Marked old t → LeadsToMarked letters entries first t) → {s : ℕ} → LeadsToMarked letters entries old s → LeadsToMarked letters entries first s
  leads_through e r {s} (here m) = r s m
  leads_through e r (there a ha h l) = there a ha (rw e at h) (leads_through e r l)

  grows_one : {marks : List ℕ} (s : ℕ) → s < length marks → ¬ Marked marks s → Supported letters entries marks s → Grows letters entries marks (set marks s 1)
  grows_one {marks} s h n p = record { marked = marked-set marks s h n; reason = λ t m. reason t m (ℕ_discrete t s) }
    where
      reason : (t : ℕ) → Marked (set marks s 1) t → Dec (t ≡ s) → LeadsToMarked letters entries marks t
      reason t m (yes q) = rw q (there p.letter p.is_letter (marked-inside marks (target letters entries s p.letter) p.marked) (here p.marked))
      reason t m (no q) = here (sym (get_or-set_other marks s t 1 0 q) ∙ m)

  grows_then : {first old new : List ℕ} → length old ≡ length first → Grows letters entries first old → Grows letters entries old new → Grows letters entries first new
  grows_then e p q = record { marked = marked_trans p.marked q.marked; reason = λ s m. leads_through e p.reason (q.reason s m) }

-- ---- turning, and the step at one row

module _ (letters : ℕ) (entries : List ℕ) where
  pub turns-none : (to : Bool) (marks : List ℕ) → Turns to letters entries marks marks
  turns-none true marks = record { marked = marked_refl marks; reason = λ s m. here m }
  turns-none false marks = record { cleared = cleared_refl marks; reason = λ s m n. absurd (n m) }

  pub turns_then : (to : Bool) (first old new : List ℕ) → length old ≡ length first → Turns to letters entries first old → Turns to letters entries old new → Turns to letters entries first new
  turns_then true first old new e p q = grows_then e p q
  turns_then false first old new e p q = prunes_then p q

  -- nothing is to be turned where the row's mark is `to`
  pub settled-mark : (to : Bool) (marks : List ℕ) (s : ℕ) → beq (eqb (get_or marks s 0) 1) to ≡ true → SweepSettled to letters entries marks s
  settled-mark true marks s e = λ p. eqb-true (get_or marks s 0) 1 (beq_same _ _ e)
  settled-mark false marks s e = λ m. absurd (eqb-false (get_or marks s 0) 1 (beq_same _ _ e) m)

  -- nor where it has a marked successor, or none, other than `to` asks
  pub settled-successor : (to found : Bool) (marks : List ℕ) (s : ℕ) → beq found to ≡ false → Says found (Supported letters entries marks s) → SweepSettled to letters entries marks s
  settled-successor true found marks s e h = λ p. absurd (says_no (beq_other found true e) h p)
  settled-successor false found marks s e h = λ m. says_yes (beq_other found false e) h

  pub swept_keep : (to : Bool) (marks : List ℕ) (s : ℕ) → SweepSettled to letters entries marks s → Swept to letters entries (λ t. t ≡ s) marks marks false
  swept_keep to marks s f = record { same = refl; turns = turns-none to marks; outcome = (refl, λ t q. rw q f) }

  pub swept_turn : (to found : Bool) (marks : List ℕ) (s : ℕ) → s < length marks → beq (eqb (get_or marks s 0) 1) to ≡ false → beq found to ≡ true → Says found (Supported letters entries marks s)
      → Swept to letters entries (λ t. t ≡ s) marks (set marks s (mark to)) true
  swept_turn to found marks s h e f p = record { same = length-set marks s (mark to); turns = turns to e f; outcome = omega (arith, fewer-left to marks s h e) }
    where
      turns : (to : Bool) → beq (eqb (get_or marks s 0) 1) to ≡ false → beq found to ≡ true → Turns to letters entries marks (set marks s (mark to))
      turns true e f = grows_one s h (eqb-false (get_or marks s 0) 1 (beq_other _ _ e)) (says_yes (beq_same found true f) p)
      turns false e f = prunes_one s (eqb-true (get_or marks s 0) 1 (beq_other _ _ e)) (says_no (beq_same found false f) p)

-- ---- sweeps after each other

module _ {letters : ℕ} {entries : List ℕ} where
  -- no row is seen yet
  pub swept_none : (to : Bool) {Seen : ℕ → Type 0} (marks : List ℕ) → ((s : ℕ) → ¬ Seen s) → Swept to letters entries Seen marks marks false
  swept_none to marks n = record { same = refl; turns = turns-none letters entries to marks; outcome = (refl, λ s h. absurd (n s h)) }

  -- a sweep that turned something leaves fewer rows to turn
  pub swept_fewer : {to : Bool} {Seen : ℕ → Type 0} {old new : List ℕ} {changed : Bool} → changed ≡ true → Swept to letters entries Seen old new changed → rows_left to new < rows_left to old
  swept_fewer {to} {Seen} {old} {new} e r = let q : Swept to letters entries Seen old new true = rw e at r in q.outcome

  -- the rows of P, and then those of Q
  pub swept_then : {to : Bool} {P Q R : ℕ → Type 0} {first old new : List ℕ} {c d : Bool} → ((s : ℕ) → R s → P s ⊎ Q s) → Swept to letters entries P first old c → Swept to letters entries Q old new d → Swept to letters entries R first new (c || d)
  swept_then {to} {P} {Q} {R} {first} {old} {new} {c} {d} f p q = record { same = q.same ∙ p.same; turns = turns_then letters entries to first old new p.same p.turns q.turns; outcome = outcome c d p.outcome q.outcome }
    where
      outcome : (c d : Bool) → SweepOutcome c to letters entries P first old → SweepOutcome d to letters entries Q old new → SweepOutcome (c || d) to letters entries R first new
      outcome true true a b = omega arith
      outcome true false a b = rw b.0 a
      outcome false true a b = rw a.0 at b
      outcome false false a b = (b.0 ∙ a.0, λ s r. ⊎_elim (λ h. a.1 s h) (λ h. rw a.0 at (b.1 s h)) (f s r))

  -- fewer rows
  pub swept_seen : {to : Bool} {P Q : ℕ → Type 0} {old new : List ℕ} {changed : Bool} → ((s : ℕ) → Q s → P s) → Swept to letters entries P old new changed → Swept to letters entries Q old new changed
  swept_seen {to} {P} {Q} {old} {new} {changed} f p = record { same = p.same; turns = p.turns; outcome = outcome changed p.outcome }
    where
      outcome : (b : Bool) → SweepOutcome b to letters entries P old new → SweepOutcome b to letters entries Q old new
      outcome true a = a
      outcome false a = (a.0, λ s h. a.1 s (f s h))

  -- after one over all rows that turned nothing all rows are settled
  pub swept_closed : (to : Bool) (first : List ℕ) {old new : List ℕ} {changed : Bool} → length old ≡ length first → Turns to letters entries first old → changed ≡ false → Swept to letters entries (λ s. s < length old) old new changed → Closed to letters entries first new
  swept_closed true first {old} {new} l t e r =
      let q : Swept true letters entries (λ s. s < length old) old new false = rw e at r in
      let g = grows_then l t q.turns in
      record { marked = g.marked; closed = λ s h m. rw q.outcome.0 (q.outcome.1 s (rw q.outcome.0 at h) (rw q.outcome.0 at m)); reason = g.reason }
  swept_closed false first {old} {new} l t e r =
      let q : Swept false letters entries (λ s. s < length old) old new false = rw e at r in
      let g = prunes_then t q.turns in
      record { cleared = g.cleared; closed = λ s m. rw q.outcome.0 (let m' : Marked old s = rw q.outcome.0 at m in q.outcome.1 s (marked-inside old s m') m'); reason = g.reason }
