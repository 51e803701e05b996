-- The outcome is one, and there always is one; and what the search, the rooms and the way forward say of it: there is no course, a room is too short for the
-- best one, or the list holds it. From the laws of layers and courses, and of the streams' shape.
use mathlib.Core.Path.{◌≡◌, refl, sym, ap, ◌∙◌, subst}
use mathlib.Core.Logic.Dec
use mathlib.Core.Logic.{inl, inr, ◌≢◌}
use mathlib.Core.List.{List, ◌++◌}
use Prim.Native.Nat.{ℕ, ◌-◌, ◌<◌, ◌≤◌}
use native.Mathlib.Omega.{arith}
use native.Mathlib.Decide.{ℕ_discrete, dec_lt, map_dec}
use lib.ListN.{length, take, drop, replicate, length-replicate, get_or-replicate}
use lib.Seq.{length-take-le, get_or-take, ext_get_or}
use Rattle.basics.specs.Lists.{at}
use Rattle.basics.proofs.Lists.{drop-replicate}
use Rattle.basics.proofs.Reflects.{decide, or_reflects, ltb_reflects}
use Rattle.automaton.specs.Stored.{entry_at, final_at}
use Rattle.automaton.specs.WellFormed.{most_rows}
use Rattle.automaton.specs.Course.{IsBest, CourseOutcome.endless, CourseOutcome.short, CourseOutcome.found}
use Rattle.automaton.specs.Layers.{IsGoal}
use Rattle.automaton.proofs.WellFormed.{well_formed-entries, well_formed-state_decided}
use Rattle.automaton.proofs.Course.{best_exists}
use Rattle.automaton.proofs.CourseOutcome.{course_functional, course-total}
use Rattle.automaton.proofs.Layers.{none-final, goal-course, best-goal}
use Rattle.streams.specs.Description.{description_of}
use Rattle.streams.specs.declared.StreamsDescription.{StreamsDescription}
use Rattle.streams.proofs.Decided.{fit_decided}
use Rattle.changes.specs.Changes.{changed}
use Rattle.changes.specs.Axes.{axes_in, IsShape}
use Rattle.changes.specs.declared.Shape.{Shape}
use Rattle.changes.proofs.Streams.{shape_changes}
use Rattle.course_tests.specs.Refusals.{IsFit, IsShort}
use Rattle.course.specs.Outcome.{BestCourse, CourseCall}
use Rattle.course_tests.specs.Goal.{not_met}
use Rattle.course.specs.Queue.{IsMet}
use Rattle.course_tests.specs.Goal.{IsGoalBelow}
use Rattle.course_tests.specs.Refusals.{GoalRefusal}
use Rattle.course.specs.Goal.{IsSearched}
use Rattle.course.specs.Costs.{layered_in, HoldsBest}
use Rattle.course.proofs.Goal.{goal-none, goal-some}

-- the first numbers of a list that is filled with one
pub filled-length : (n m v : ℕ) → n ≤ m → length (take n (replicate m v)) ≡ n
filled-length n m v h = length-take-le n (replicate m v) (rw (length-replicate m v) h)

pub filled-part : (n m v : ℕ) → n ≤ m → take n (replicate m v) ≡ replicate n v
filled-part n m v h =
    ext_get_or 0 (take n (replicate m v)) (replicate n v) (filled-length n m v h ∙ sym (length-replicate n v)) λ i l.
    let g : i < n = omega (arith, filled-length n m v h) in
    get_or-take n (replicate m v) i 0 g ∙ get_or-replicate m i v 0 (omega arith) ∙ sym (get_or-replicate n i v 0 g)

-- ---- one outcome for each call, and always one

pub short_decided : (room work entries m : ℕ) → Dec (IsShort room work entries m)
short_decided room work entries m = decide (or_reflects (ltb_reflects room m) (ltb_reflects work entries))

module _ (k : ℕ) (entries finals : List ℕ) (streams : StreamsDescription) (s room work : ℕ) where
  fit_or_not : Dec (IsFit k entries finals streams s)
  fit_or_not = map_dec (λ x. record { state = x.0; streams_fit = x.1 }) (λ f. (f.state, f.streams_fit)) (Dec.and (well_formed-state_decided k entries finals s) (fit_decided streams k))

  -- Two calls with the same arguments give the same.
  pub call_functional : {a c a' c' : ℕ} {l l' w w' : List ℕ} → CourseCall k entries finals streams s room work a c l w → CourseCall k entries finals streams s room work a' c' l' w'
      → (a ≡ a') × (c ≡ c') × (l ≡ l') × (w ≡ w')
  call_functional x y =
      let o = course_functional (changed (description_of streams)) k (entry_at k entries) (final_at finals) s (IsFit k entries finals streams s) (IsShort room work (length entries)) room x.outcome y.outcome in
      (o.0, o.1, o.2, x.cleared ∙ sym y.cleared)

  pub record HasCall : Type 0 where
    pub refusal : ℕ
    pub count : ℕ
    pub list : List ℕ
    pub call : CourseCall k entries finals streams s room work refusal count list (replicate work 0)

  pub call-total : HasCall
  call-total =
      let o = course-total (changed (description_of streams)) k (entry_at k entries) (final_at finals) s (IsFit k entries finals streams s) (IsShort room work (length entries)) room
      fit_or_not (short_decided room work (length entries)) (λ f. (length finals, well_formed-entries f.state.well_formed, f.state.is_row)) in
      record { refusal = o.0; count = o.1; list = o.2; call = record { outcome = o.3; cleared = refl } }

-- ---- refusals

pub not_short : {room work entries m : ℕ} → ¬ IsShort room work entries m → (m ≤ room) × (entries ≤ work)
not_short {room} {work} {entries} {m} n = (by (dec_lt room m), other (dec_lt work entries))
  where
    by : Dec (room < m) → m ≤ room
    by (yes h) = absurd (n (inl h))
    by (no h) = omega arith

    other : Dec (work < entries) → entries ≤ work
    other (yes h) = absurd (n (inr h))
    other (no h) = omega arith

-- the goal layer and the rooms do not refuse
pub goal-passes : {goal room work entries n : ℕ} → GoalRefusal goal room work entries n → n ≡ 0 → (goal ≢ not_met) × (¬ IsShort room work entries goal)
goal-passes {goal} {room} {work} {entries} r e = by (ℕ_discrete goal not_met) (short_decided room work entries goal)
  where
    by : Dec (goal ≡ not_met) → Dec (IsShort room work entries goal) → (goal ≢ not_met) × (¬ IsShort room work entries goal)
    by (yes q) d = absurd (omega (arith, r.endless q))
    by (no some) (yes h) = absurd (omega (arith, r.short some h))
    by (no some) (no h) = (some, h)

-- a refusal with a list of zeros
pub outcome-refused : {k : ℕ} {entries finals : List ℕ} {streams : StreamsDescription} {s room work n refusal count : ℕ} {list : List ℕ} → (refusal ≡ n) × (count ≡ 0) → list ≡ replicate room 0
    → BestCourse k entries finals streams s room work n 0 (replicate room 0) → BestCourse k entries finals streams s room work refusal count list
outcome-refused e zero x = rw (e.0, e.1, zero) x

module _ {k : ℕ} {entries finals : List ℕ} {streams : StreamsDescription} {s : ℕ} {layers queue : List ℕ} {count goal : ℕ} (fit : IsFit k entries finals streams s) (long : length finals ≡ length layers)
    (x : IsSearched k entries finals s layers queue count goal) where
  few : length layers ≤ most_rows
  few = omega (arith, fit.state.well_formed.whole.few_rows)

  -- no final row is met
  outcome-endless : {room work : ℕ} → goal ≡ not_met → BestCourse k entries finals streams s room work 15 0 (replicate room 0)
  outcome-endless e = endless fit (none-final k (entry_at k entries) s (IsMet (length layers) (at layers)) (at layers) x.ended.is_layers (final_at finals)
      (goal-none x.ended.is_queue few (subst (IsGoalBelow (final_at finals) (at layers) (length layers)) e x.goal_below)))

  module _ (some : goal ≢ not_met) where
    is-goal : IsGoal (final_at finals) (IsMet (length layers) (at layers)) (at layers) goal
    is-goal = goal-some x.ended.is_queue few some x.goal_below

    -- the best course has as many letters as the goal layer, for which a room is too short
    outcome-short : {room work : ℕ} → IsShort room work (length entries) goal → BestCourse k entries finals streams s room work 10 0 (replicate room 0)
    outcome-short {room} {work} h =
        let weight = changed (description_of streams) in
        let c = goal-course k (entry_at k entries) s (IsMet (length layers) (at layers)) (at layers) x.ended.is_layers (final_at finals) goal is-goal in
        let r = best_exists weight k (entry_at k entries) (final_at finals) s c.0 c.1 in
        let e = best-goal k (entry_at k entries) s (IsMet (length layers) (at layers)) (at layers) x.ended.is_layers (final_at finals) goal is-goal weight r.0 r.1 in
        short fit r.1 (subst (IsShort room work (length entries)) (sym e) h)

  -- the goal layer and the rooms refuse
  pub outcome-goal-refused : {room work n : ℕ} → GoalRefusal goal room work (length entries) n → n ≢ 0 → BestCourse k entries finals streams s room work n 0 (replicate room 0)
  outcome-goal-refused {room} {work} {n} r ne = by (ℕ_discrete goal not_met) (short_decided room work (length entries) goal)
    where
      by : Dec (goal ≡ not_met) → Dec (IsShort room work (length entries) goal) → BestCourse k entries finals streams s room work n 0 (replicate room 0)
      by (yes e) d = rw (r.endless e) (outcome-endless e)
      by (no some) (yes h) = rw (r.short some h) (outcome-short some h)
      by (no some) (no h) = absurd (ne (r.none some h))

  -- the list holds the best course
  pub outcome-found : {shape : Shape} → IsShape streams shape → {list list' : List ℕ} {work : ℕ} → list ≡ replicate (length list) 0 → ¬ IsShort (length list) work (length entries) goal
      → HoldsBest (axes_in shape) (layered_in k entries finals layers goal) s list list' → BestCourse k entries finals streams s (length list) work 0 goal list'
  outcome-found {shape} is-shape {list} {list'} {work} zero enough holds = rw (holds.written ∙ ap (λ l. r ++ l) (ap (drop goal) zero ∙ drop-replicate 0 goal (length list)))
      (subst (λ m. BestCourse k entries finals streams s (length list) work 0 m (r ++ replicate (length list - m) 0)) holds.long
      (found fit best (λ h. enough (subst (IsShort (length list) work (length entries)) holds.long h))))
    where
      r : List ℕ
      r = holds.course

      letter : 0 < k
      letter = let ne = fit.state.well_formed.whole.some_letter in omega arith

      best : IsBest (changed (description_of streams)) k (entry_at k entries) (final_at finals) s holds.course
      best = subst (λ weight. IsBest weight k (entry_at k entries) (final_at finals) s holds.course) (sym (shape_changes is-shape fit.streams_fit letter)) holds.best
