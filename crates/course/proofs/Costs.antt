-- Costs of rows, from those of the next layer: what is stored row by row, the last layer first, is right at each row and letter (`IsKnown`), so the way
-- forward by it is the best course. From the laws of the least cost with changes, and of layers and costs.
use mathlib.Core.Path.{◌≡◌, sym, ap, ◌∙◌, subst}
use mathlib.Core.Logic.{◌⊎◌, inl, inr, ◌≢◌}
use mathlib.Core.Bool.{cond}
use mathlib.Core.List.{List}
use Prim.Native.Nat.{ℕ, suc, ◌+◌, ◌-◌, ◌*◌, ◌<◌, ◌≤◌}
use native.Mathlib.Omega.{arith}
use native.Mathlib.Decide.{ℕ_discrete, dec_lt}
use lib.Dec.{eqb}
use lib.ListN.{length}
use borrow.Author.Tests.{eq-eqb, ne_eqb}
use Rattle.automaton.specs.Table.{no_state}
use Rattle.automaton.specs.Stored.{entry_at}
use Rattle.automaton.specs.WellFormed.{most_rows, RowEntries}
use Rattle.automaton.specs.Layers.{Onward, IsCost, goal_final, goal_other, before_some, before_none, IsCosts}
use Rattle.automaton.proofs.WellFormed.{some-row-entry}
use Rattle.changes.specs.Axes.{Axis, letter_total, changed_along}
use Rattle.changes.specs.Least.{IsLeastFrom}
use Rattle.changes.proofs.Axes.{changed-most}
use Rattle.changes.proofs.Passes.{least-lower}
use Rattle.course.specs.Queue.{IsMet, IsQueue}
use Rattle.course_tests.specs.Cost.{no_course}
use Rattle.course.specs.Costs.{Layered, cost_at, cost_behind, behind, FindsRow, IsKnown, AreKnown}

-- ---- the cost behind a letter

module _ (t : Layered) (costs : List ℕ) where
  module _ (next e a : ℕ) where
    pub behind-missing : e ≡ no_state → cost_behind t costs next e a ≡ no_course
    behind-missing h = ap (λ b. cond b no_course (cond (eqb (t.layer e) next) (cost_at t costs e a) no_course)) (eq-eqb e no_state h)

    some_entry : e ≢ no_state → cost_behind t costs next e a ≡ cond (eqb (t.layer e) next) (cost_at t costs e a) no_course
    some_entry h = ap (λ b. cond b no_course (cond (eqb (t.layer e) next) (cost_at t costs e a) no_course)) (ne_eqb e no_state h)

    pub behind_aside : e ≢ no_state → t.layer e ≢ next → cost_behind t costs next e a ≡ no_course
    behind_aside h l = some_entry h ∙ ap (λ b. cond b (cost_at t costs e a) no_course) (ne_eqb (t.layer e) next l)

    pub behind-next : e ≢ no_state → t.layer e ≡ next → cost_behind t costs next e a ≡ cost_at t costs e a
    behind-next h l = some_entry h ∙ ap (λ b. cond b (cost_at t costs e a) no_course) (eq-eqb (t.layer e) next l)

  module _ (i p : ℕ) where
    pub cost_stored : t.layer i ≢ t.goal → cost_at t costs i p ≡ entry_at t.letters costs i p
    cost_stored h = ap (λ b. cond b (cond (eqb (t.final i) 1) 0 no_course) (entry_at t.letters costs i p)) (ne_eqb (t.layer i) t.goal h)

    cost_goal : t.layer i ≡ t.goal → cost_at t costs i p ≡ cond (eqb (t.final i) 1) 0 no_course
    cost_goal h = ap (λ b. cond b (cond (eqb (t.final i) 1) 0 no_course) (entry_at t.letters costs i p)) (eq-eqb (t.layer i) t.goal h)

    pub cost_final : t.layer i ≡ t.goal → t.final i ≡ 1 → cost_at t costs i p ≡ 0
    cost_final h f = cost_goal h ∙ ap (λ b. cond b 0 no_course) (eq-eqb (t.final i) 1 f)

    pub cost_other : t.layer i ≡ t.goal → t.final i ≢ 1 → cost_at t costs i p ≡ no_course
    cost_other h f = cost_goal h ∙ ap (λ b. cond b 0 no_course) (ne_eqb (t.final i) 1 f)

-- where the stored numbers are the same, so are the costs
pub cost_same : (t : Layered) (costs costs' : List ℕ) (i p : ℕ) → entry_at t.letters costs' i p ≡ entry_at t.letters costs i p → cost_at t costs' i p ≡ cost_at t costs i p
cost_same t costs costs' i p e = ap (cond (eqb (t.layer i) t.goal) (cond (eqb (t.final i) 1) 0 no_course)) e

-- the letter a leads from the row i to the next layer
abbrev pub On : (t : Layered) (i a : ℕ) → Type 0
On t i a = Onward t.letters t.entry t.layer i a

module _ (t : Layered) (costs : List ℕ) (i a : ℕ) where
  pub behind-onward : On t i a → behind t costs i a ≡ cost_at t costs (t.entry i a) a
  behind-onward o = behind-next t costs (t.layer i + 1) (t.entry i a) a o.has_entry.some_entry (let e = o.next_layer in omega arith)

  -- a cost that is not none is that of a letter that leads on
  pub behind-some : a < t.letters → behind t costs i a ≢ no_course → On t i a
  behind-some h ne = go (ℕ_discrete (t.entry i a) no_state) (ℕ_discrete (t.layer (t.entry i a)) (t.layer i + 1))
    where
      go : Dec (t.entry i a ≡ no_state) → Dec (t.layer (t.entry i a) ≡ t.layer i + 1) → On t i a
      go (yes e) d = absurd (ne (behind-missing t costs (t.layer i + 1) (t.entry i a) a e))
      go (no some) (yes e) = record { has_entry = record { is_letter = h; some_entry = some }; next_layer = omega arith }
      go (no some) (no aside) = absurd (ne (behind_aside t costs (t.layer i + 1) (t.entry i a) a some aside))

-- ---- one row

-- a row of the goal layer is known whatever is stored
pub goal-known : {xs : List Axis} {t : Layered} {costs : List ℕ} {i p : ℕ} → t.layer i ≡ t.goal → IsKnown xs t costs i p
goal-known {xs} {t} {costs} {i} {p} e = go (ℕ_discrete (t.final i) 1)
  where
    go : Dec (t.final i ≡ 1) → IsKnown xs t costs i p
    go (yes f) = let z = cost_final t costs i p e f in record { is_cost = goal_final e f z; small = inr (omega arith) }
    go (no f) = let z = cost_other t costs i p e f in record { is_cost = goal_other e f z; small = inl z }

-- a row before it is known by the rows of the next layer, whose costs are small, as are letters' changes
module _ (xs : List Axis) (t : Layered) (letters : letter_total xs ≡ t.letters) (few : length xs ≤ 8) (short : t.goal < most_rows) (costs costs' : List ℕ) (i p : ℕ)
    (before : t.layer i < t.goal) (letter : p < t.letters) (same : (a : ℕ) → On t i a → cost_at t costs' (t.entry i a) a ≡ cost_at t costs (t.entry i a) a)
    (later : (a : ℕ) → On t i a → IsKnown xs t costs (t.entry i a) a) (least : IsLeastFrom xs (behind t costs i) p (entry_at t.letters costs' i p)) where
  abbrev rest : ℕ → ℕ
  rest a = behind t costs i a

  stored : cost_at t costs' i p ≡ entry_at t.letters costs' i p
  stored = cost_stored t costs' i p (omega arith)

  own-lower : entry_at t.letters costs' i p ≤ rest p
  own-lower = least-lower least (subst (λ n. p < n) (sym letters) letter)

  -- what is behind a letter that leads on is small
  rest-small : (a : ℕ) → a < t.letters → rest a ≢ no_course → rest a + 8 * suc (t.layer i) ≤ 8 * t.goal
  rest-small a h ne = go (later a o).small
    where
      o : On t i a
      o = behind-some t costs i a h ne

      go : (cost_at t costs (t.entry i a) a ≡ no_course) ⊎ (cost_at t costs (t.entry i a) a + 8 * t.layer (t.entry i a) ≤ 8 * t.goal) → rest a + 8 * suc (t.layer i) ≤ 8 * t.goal
      go (inl e) = absurd (ne (behind-onward t costs i a o ∙ e))
      go (inr l) = let e = behind-onward t costs i a o in let n = o.next_layer in omega arith

  bound_at : (b : ℕ) → b < t.letters → entry_at t.letters costs' i p ≤ changed_along xs p b + rest b
  bound_at b h = least.bound b (subst (λ n. b < n) (sym letters) h)

  changes_few : (a : ℕ) → changed_along xs p a ≤ 8
  changes_few a = let m = changed-most xs p a in omega arith

  -- where the best letter has no course behind it, none has
  none-behind : rest least.best ≡ no_course → (b : ℕ) → b < t.letters → rest b ≡ no_course
  none-behind e b h = go (ℕ_discrete (rest b) no_course)
    where
      go : Dec (rest b ≡ no_course) → rest b ≡ no_course
      go (yes q) = q
      go (no ne) = absurd (omega (arith, rest-small b h ne, bound_at b h, changes_few b, least.attained))

  pub row-known : IsKnown xs t costs' i p
  row-known = go (ℕ_discrete (rest least.best) no_course)
    where
      best : least.best < t.letters
      best = subst (λ n. least.best < n) letters least.letter

      go : Dec (rest least.best ≡ no_course) → IsKnown xs t costs' i p
      go (yes e) =
          let own : cost_at t costs' i p ≡ no_course = omega (arith, stored, least.attained, own-lower, none-behind e p letter) in
          record { is_cost = before_none before (λ b o. same b o ∙ sym (behind-onward t costs i b o) ∙ none-behind e b o.has_entry.is_letter) own; small = inl own }
      go (no ne) =
          let s = rest-small least.best best ne in
          let c = changes_few least.best in
          let o : On t i least.best = behind-some t costs i least.best best ne in
          let v : cost_at t costs' (t.entry i least.best) least.best ≡ rest least.best = same least.best o ∙ sym (behind-onward t costs i least.best o) in
          record {
            is_cost = before_some before least.best o (omega arith) (omega (arith, stored, least.attained))
                (λ b q n. omega (arith, stored, bound_at b q.has_entry.is_letter, same b q, behind-onward t costs i b q)) (omega (arith, stored, least.attained));
            small = inr (omega (arith, stored, least.attained));
          }

-- a cost stays known where a row is stored that does not stand in the next layer
pub known_kept : {xs : List Axis} {t : Layered} {costs costs' : List ℕ} {i p : ℕ} (u : ℕ) → ((j a : ℕ) → j ≢ u → a < t.letters → entry_at t.letters costs' j a ≡ entry_at t.letters costs j a)
    → p < t.letters → i ≢ u → t.layer u ≢ suc (t.layer i) → IsKnown xs t costs i p → IsKnown xs t costs' i p
known_kept {xs} {t} {costs} {costs'} {i} {p} u same letter other far known = record { is_cost = go known.is_cost; small = subst (λ v. (v ≡ no_course) ⊎ (v + 8 * t.layer i ≤ 8 * t.goal)) (sym own) known.small }
  where
    own : cost_at t costs' i p ≡ cost_at t costs i p
    own = cost_same t costs costs' i p (same i p other letter)

    onward : (a : ℕ) → On t i a → cost_at t costs' (t.entry i a) a ≡ cost_at t costs (t.entry i a) a
    onward a o = cost_same t costs costs' (t.entry i a) a (same (t.entry i a) a (λ e. far (ap t.layer (sym e) ∙ o.next_layer)) o.has_entry.is_letter)

    go : IsCost (changed_along xs) t.letters t.entry t.final t.layer t.goal no_course (cost_at t costs) i p
        → IsCost (changed_along xs) t.letters t.entry t.final t.layer t.goal no_course (cost_at t costs') i p
    go (goal_final h f e) = goal_final h f (own ∙ e)
    go (goal_other h f e) = goal_other h f (own ∙ e)
    go (before_some h a o ne e bound low) =
        before_some h a o (λ q. ne (sym (onward a o) ∙ q)) (omega (arith, own, onward a o)) (λ b q n. omega (arith, own, onward b q, bound b q (λ z. n (onward b q ∙ z)))) (omega (arith, own))
    go (before_none h f e) = before_none h (λ b o. onward b o ∙ f b o) (own ∙ e)

-- ---- the rows of the queue, the last one first

-- the costs of each row from the place `left` of the queue on, up to the goal layer
pub record KnownFrom (xs : List Axis) (t : Layered) (queue : ℕ → ℕ) (count left : ℕ) (costs : List ℕ) : Type 0 where
  pub known : (q p : ℕ) → left ≤ q → q < count → t.layer (queue q) ≤ t.goal → p < t.letters → IsKnown xs t costs (queue q) p

module _ {xs : List Axis} {t : Layered} {queue : ℕ → ℕ} {count : ℕ} (Q : IsQueue t.rows t.layer queue count) where
  pub known_start : {costs : List ℕ} → KnownFrom xs t queue count count costs
  known_start = record { known = λ q p h g. absurd (omega arith) }

  -- a row of the goal layer, or behind it
  pub known_passed : {left : ℕ} {costs : List ℕ} → 0 < left → t.goal ≤ t.layer (queue (left - 1)) → KnownFrom xs t queue count left costs → KnownFrom xs t queue count (left - 1) costs
  known_passed {left} {costs} pos beyond done = record { known = λ q p h g l m. by q p h g l m (ℕ_discrete q (left - 1)) }
    where
      by : (q p : ℕ) → left - 1 ≤ q → q < count → t.layer (queue q) ≤ t.goal → p < t.letters → Dec (q ≡ left - 1) → IsKnown xs t costs (queue q) p
      by q p h g l m (yes e) = goal-known (let f = ap (λ x. t.layer (queue x)) e in omega arith)
      by q p h g l m (no ne) = done.known q p (omega arith) g l m

  -- a row before the goal layer is found
  module _ (letters : letter_total xs ≡ t.letters) (few : length xs ≤ 8) (short : t.goal < most_rows) (entries : RowEntries t.letters t.rows t.entry) {left : ℕ} {costs costs' : List ℕ}
      (pos : 0 < left) (most : left ≤ count) (before : t.layer (queue (left - 1)) < t.goal) (done : KnownFrom xs t queue count left costs) (found : FindsRow xs t (queue (left - 1)) costs costs') where
    -- a row of the next layer stands behind it in the queue
    in_order : (q : ℕ) → q < count → t.layer (queue (left - 1)) < t.layer (queue q) → left ≤ q
    in_order q h l = go (dec_lt q left)
      where
        go : Dec (q < left) → left ≤ q
        go (yes g) = absurd (omega (arith, Q.rising q (left - 1) (omega arith) (omega arith)))
        go (no g) = omega arith

    later_known : (a : ℕ) → On t (queue (left - 1)) a → IsKnown xs t costs (t.entry (queue (left - 1)) a) a
    later_known a o =
        let i = queue (left - 1) in
        let n = o.next_layer in
        let row = some-row-entry entries i a (Q.rows (left - 1) (omega arith)) o.has_entry.is_letter o.has_entry.some_entry in
        let place = Q.known (t.entry i a) (record { is_row = row; has_layer = omega arith }) in
        let e = ap t.layer place.2 in
        subst (λ j. IsKnown xs t costs j a) place.2 (done.known place.0 a (in_order place.0 place.1 (omega arith)) place.1 (omega arith) o.has_entry.is_letter)

    pub known_more : KnownFrom xs t queue count (left - 1) costs'
    known_more = record { known = λ q p h g l m. by q p h g l m (ℕ_discrete q (left - 1)) }
      where
        same : (a : ℕ) → On t (queue (left - 1)) a → cost_at t costs' (t.entry (queue (left - 1)) a) a ≡ cost_at t costs (t.entry (queue (left - 1)) a) a
        same a o =
            let j = t.entry (queue (left - 1)) a in
            cost_same t costs costs' j a (found.outside j a (λ z. let f = ap t.layer z in let n = o.next_layer in omega arith) o.has_entry.is_letter)

        by : (q p : ℕ) → left - 1 ≤ q → q < count → t.layer (queue q) ≤ t.goal → p < t.letters → Dec (q ≡ left - 1) → IsKnown xs t costs' (queue q) p
        by q p h g l m (yes e) = subst (λ x. IsKnown xs t costs' (queue x) p) (sym e) (row-known xs t letters few short costs costs' (queue (left - 1)) p before m same later_known (found.inside p m))
        by q p h g l m (no ne) =
            known_kept (queue (left - 1)) found.outside m (λ e. Q.distinct (left - 1) q (omega arith) g (sym e)) (let r = Q.rising (left - 1) q h g in omega arith) (done.known q p (omega arith) g l m)

  pub known_end : {left : ℕ} {costs : List ℕ} → left ≤ 0 → KnownFrom xs t queue count left costs → AreKnown xs t costs
  known_end {left} {costs} all done = record {
    known = λ i p x l m.
        let q = Q.known i x in
        let e = ap t.layer q.2 in
        subst (λ j. IsKnown xs t costs j p) q.2 (done.known q.0 p (omega arith) q.1 (omega arith) m);
  }

-- they are costs
pub known-costs : {xs : List Axis} {t : Layered} {costs : List ℕ} → AreKnown xs t costs
    → IsCosts (changed_along xs) t.letters t.entry t.final (IsMet t.rows t.layer) t.layer t.goal no_course (cost_at t costs)
known-costs A = record { some_cost = omega arith; costs = λ i p x h l. (A.known i p x h l).is_cost }
