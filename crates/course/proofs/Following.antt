-- The way forward: each turn writes the first of the cheapest letters, and in the end the letters are the best course. From the laws of costs.
use mathlib.Core.Path.{◌≡◌, refl, sym, ap, ◌∙◌}
use mathlib.Core.Logic.{◌⊎◌, inl, inr, ◌≢◌}
use mathlib.Core.List.{List, [], ◌∷◌, ◌++◌, append_assoc, append-nil}
use Prim.Native.Nat.{ℕ, suc, ◌+◌, ◌<◌, ◌≤◌}
use native.Mathlib.Numerals.{add-one}
use native.Mathlib.Omega.{arith}
use native.Mathlib.Decide.{ℕ_discrete}
use lib.ListN.{length, get_or, set, drop, replicate, length-append, length-drop}
use lib.Seq.{set_at, drop-cons}
use Rattle.basics.specs.Lists.{at}
use Rattle.basics.proofs.Clearing.{zeros}
use Rattle.automaton.specs.Layers.{IsLayers, IsGoal, IsCost, goal_final, goal_other, before_some, before_none, IsFirstCheapest, Chosen, chosen_end, chosen_letter}
use Rattle.automaton.proofs.Costs.{start_cost, chosen-best}
use Rattle.changes.specs.Axes.{Axis, changed_along}
use Rattle.course.specs.Queue.{IsMet}
use Rattle.course_tests.specs.Cost.{no_course}
use Rattle.course.specs.Costs.{Layered, cost_at, AreKnown, IsCheapest, is_first, is_none, HoldsBest}
use Rattle.course.proofs.Costs.{cost_other, known-costs}

-- what the way forward gives from a row on, where the next letter costs by `first`
abbrev pub ChosenFrom : (xs : List Axis) (t : Layered) (costs : List ℕ) (first : ℕ → ℕ) (i : ℕ) → List ℕ → Type 0
ChosenFrom xs t costs = Chosen (changed_along xs) t.letters t.entry t.final t.layer t.goal no_course (cost_at t costs)

-- After `taken` letters from s: the row reached, the list, which is as it was behind them, and the changes from the last letter to
-- each. A course goes on, and what is chosen from here on is chosen after them.
pub record Following (xs : List Axis) (t : Layered) (costs : List ℕ) (s : ℕ) (list₀ list changes : List ℕ) (row taken : ℕ) : Type 0 where
  pub letters : List ℕ
  pub long : length letters ≡ taken
  pub written : list ≡ letters ++ drop taken list₀
  pub met : IsMet t.rows t.layer row
  pub in_layer : t.layer row ≡ taken
  pub first : ℕ → ℕ
  pub counted : (b : ℕ) → b < t.letters → at changes b ≡ first b
  pub last : ℕ
  pub is_letter : last < t.letters
  pub goes_on : cost_at t costs row last ≢ no_course
  pub rest : (q : List ℕ) → ChosenFrom xs t costs first row q → ChosenFrom xs t costs (λ a. 0) s (letters ++ q)

module _ {xs : List Axis} {t : Layered} {costs : List ℕ} {s : ℕ} {list₀ list changes : List ℕ} {row taken : ℕ} (f : Following xs t costs s list₀ list changes row taken) where
  pub following_length : taken ≤ length list₀ → length list ≡ length list₀
  following_length h = ap length f.written ∙ simp (length-append, length-drop) (omega (arith, f.long))

  module _ (A : AreKnown xs t costs) (before : taken < t.goal) where
    -- there is a letter by which a course goes on, so the cheapest is found
    pub following_first : {r : ℕ} → IsCheapest t costs (at changes) row r → IsFirstCheapest t.letters t.entry t.layer no_course (cost_at t costs) (at changes) row r
    following_first {r} (is_first x) = x
    following_first {r} (is_none none e) = absurd (some (A.known row f.last f.met (let l = f.in_layer in omega arith) f.is_letter).is_cost)
      where
        some : IsCost (changed_along xs) t.letters t.entry t.final t.layer t.goal no_course (cost_at t costs) row f.last → ⊥
        some (goal_final h g q) = let l = f.in_layer in omega arith
        some (goal_other h g q) = f.goes_on q
        some (before_some h a o ne q bound low) = ne (none a o)
        some (before_none h g q) = f.goes_on q

    pub following_next : {a : ℕ} {changes' : List ℕ} → taken < length list₀ → IsLayers t.letters t.entry s (IsMet t.rows t.layer) t.layer
        → IsFirstCheapest t.letters t.entry t.layer no_course (cost_at t costs) (at changes) row a → ((b : ℕ) → b < t.letters → at changes' b ≡ changed_along xs a b)
        → Following xs t costs s list₀ (set list taken a) changes' (t.entry row a) (taken + 1)
    following_next {a} {changes'} room L x c = rw add-one (record {
      letters = f.letters ++ (a ∷ []);
      long = omega (arith, length-append f.letters (a ∷ []), f.long);
      written = ap (λ l. set l taken a) (f.written ∙ ap (λ l. f.letters ++ l) (drop-cons list₀ taken 0 room))
          ∙ set_at f.letters (get_or list₀ taken 0) (drop (suc taken) list₀) a taken f.long ∙ sym (append_assoc f.letters (a ∷ []) (drop (suc taken) list₀));
      met = L.along_met row a f.met x.onward.has_entry;
      in_layer = x.onward.next_layer ∙ ap suc f.in_layer;
      first = changed_along xs a;
      counted = c;
      last = a;
      is_letter = x.onward.has_entry.is_letter;
      goes_on = x.goes_on;
      rest = λ q y. rw append_assoc (f.rest (a ∷ q) (chosen_letter cheapest y));
    })
      where
        e : (b : ℕ) → b < t.letters → at changes b ≡ f.first b
        e = f.counted

        cheapest : IsFirstCheapest t.letters t.entry t.layer no_course (cost_at t costs) f.first row a
        cheapest = record { onward = x.onward; goes_on = x.goes_on; least = λ b o ne. order b (x.least b o ne) (e a x.onward.has_entry.is_letter) (e b o.has_entry.is_letter) }
          where
            order : (b : ℕ) → (at changes a + cost_at t costs (t.entry row a) a < at changes b + cost_at t costs (t.entry row b) b) ⊎ ((at changes a + cost_at t costs (t.entry row a) a ≡ at changes b + cost_at t costs (t.entry row b) b) × (a ≤ b))
                → at changes a ≡ f.first a → at changes b ≡ f.first b
                → (f.first a + cost_at t costs (t.entry row a) a < f.first b + cost_at t costs (t.entry row b) b) ⊎ ((f.first a + cost_at t costs (t.entry row a) a ≡ f.first b + cost_at t costs (t.entry row b) b) × (a ≤ b))
            order b (inl h) p q = inl (omega arith)
            order b (inr h) p q = inr (omega (arith, h.0), h.1)

module _ {xs : List Axis} {t : Layered} {costs : List ℕ} {s : ℕ} (A : AreKnown xs t costs) (L : IsLayers t.letters t.entry s (IsMet t.rows t.layer) t.layer)
    (G : IsGoal t.final (IsMet t.rows t.layer) t.layer t.goal) where
  pub following_start : {list changes : List ℕ} → 0 < t.letters → changes ≡ replicate t.letters 0 → Following xs t costs s list list changes s 0
  following_start {list} {changes} some zero = record {
    letters = [];
    long = refl;
    written = refl;
    met = L.start_met;
    in_layer = L.start_layer;
    first = λ a. 0;
    counted = λ b h. ap (λ l. at l b) zero ∙ zeros t.letters b;
    last = 0;
    is_letter = some;
    goes_on = start_cost (changed_along xs) t.letters t.entry t.final s (IsMet t.rows t.layer) t.layer t.goal no_course (cost_at t costs) L G (known-costs A) 0 some;
    rest = λ q c. c;
  }

  -- in the goal layer the row is final, so the letters are the best course
  pub following_end : {list₀ list changes : List ℕ} {row taken : ℕ} → taken ≡ t.goal → Following xs t costs s list₀ list changes row taken → HoldsBest xs t s list₀ list
  following_end {list₀} {list} {changes} {row} {taken} end f = record {
    course = f.letters;
    best = chosen-best (changed_along xs) t.letters t.entry t.final s (IsMet t.rows t.layer) t.layer t.goal no_course (cost_at t costs) L G (known-costs A) f.letters
        (rw append-nil at (f.rest [] (chosen_end (f.in_layer ∙ end) (final (ℕ_discrete (t.final row) 1)))));
    long = f.long ∙ end;
    written = f.written ∙ ap (λ n. f.letters ++ drop n list₀) end;
  }
    where
      final : Dec (t.final row ≡ 1) → t.final row ≡ 1
      final (yes e) = e
      final (no ne) = absurd (f.goes_on (cost_other t costs row f.last (f.in_layer ∙ end) ne))
