-- The search for the first of the cheapest letters: the least total so far, and the first letter that has it. From the laws of costs.
use mathlib.Core.Path.{◌≡◌, refl, sym, ap, ◌∙◌}
use mathlib.Core.Logic.{◌⊎◌, inl, inr, ◌≢◌}
use mathlib.Core.Bool.{cond}
use mathlib.Core.List.{List}
use Prim.Native.Nat.{ℕ, ◌+◌, ◌<◌, ◌≤◌}
use native.Mathlib.Omega.{arith}
use native.Mathlib.Decide.{ℕ_discrete, dec_lt}
use borrow.Author.Count.{below_more}
use borrow.Author.Tests.{eq-eqb, ne_eqb}
use Rattle.course_tests.specs.Cost.{no_course, total_cost}
use Rattle.course.specs.Costs.{Layered, cost_at, behind, IsCheapest, is_first, is_none}
use Rattle.course.proofs.Costs.{On, behind-onward, behind-some}

total-none : (changes cost : ℕ) → cost ≡ no_course → total_cost changes cost ≡ 131072
total-none changes cost e = ap (λ b. cond b 131072 (changes + cost)) (eq-eqb cost no_course e)

total-some : (changes cost : ℕ) → cost ≢ no_course → total_cost changes cost ≡ changes + cost
total-some changes cost ne = ap (λ b. cond b 131072 (changes + cost)) (ne_eqb cost no_course ne)

-- two stored numbers have a total that is less than what stands for none
pub total-small : (changes cost : ℕ) → changes < 65536 → cost < 65536 → cost ≢ no_course → total_cost changes cost < 131072
total-small changes cost h l ne = let e = total-some changes cost ne in omega arith

module _ (t : Layered) (costs : List ℕ) (first : ℕ → ℕ) (i : ℕ) where
  abbrev total : ℕ → ℕ
  total b = total_cost (first b) (behind t costs i b)

  -- The least total of the letters before m, or 131,072; and the first of these letters that has it, or 0.
  pub record IsFirstLeast (m best least : ℕ) : Type 0 where
    pub bound : (b : ℕ) → b < m → least ≤ total b
    pub small : (b : ℕ) → b < m → behind t costs i b ≢ no_course → total b < 131072
    pub found : ((least ≡ 131072) × (best ≡ 0)) ⊎ ((least < 131072) × (best < m) × (total best ≡ least) × ((b : ℕ) → b < best → least < total b))

  pub least_start : IsFirstLeast 0 0 131072
  least_start = record { bound = λ b h. absurd (omega arith); small = λ b h. absurd (omega arith); found = inl (refl, refl) }

  module _ {m best least : ℕ} (x : IsFirstLeast m best least) (small : behind t costs i m ≢ no_course → total m < 131072) where
    -- the letter m is cheaper
    pub least-lower : total m < least → IsFirstLeast (m + 1) m (total m)
    least-lower h = record {
      bound = below_more (λ b. total m ≤ total b) m (λ b l. let g = x.bound b l in omega arith) (omega arith);
      small = below_more (λ b. behind t costs i b ≢ no_course → total b < 131072) m x.small small;
      found = inr (most x.found, omega arith, refl, λ b l. let g = x.bound b l in omega arith);
    }
      where
        most : ((least ≡ 131072) × (best ≡ 0)) ⊎ ((least < 131072) × (best < m) × (total best ≡ least) × ((b : ℕ) → b < best → least < total b)) → total m < 131072
        most (inl e) = omega (arith, e.0)
        most (inr y) = omega (arith, y.0)

    -- it is not
    pub least_kept : least ≤ total m → IsFirstLeast (m + 1) best least
    least_kept h = record {
      bound = below_more (λ b. least ≤ total b) m x.bound h;
      small = below_more (λ b. behind t costs i b ≢ no_course → total b < 131072) m x.small small;
      found = kept x.found;
    }
      where
        kept : ((least ≡ 131072) × (best ≡ 0)) ⊎ ((least < 131072) × (best < m) × (total best ≡ least) × ((b : ℕ) → b < best → least < total b))
            → ((least ≡ 131072) × (best ≡ 0)) ⊎ ((least < 131072) × (best < m + 1) × (total best ≡ least) × ((b : ℕ) → b < best → least < total b))
        kept (inl e) = inl e
        kept (inr y) = inr (y.0, omega (arith, y.1), y.2, y.3)

  -- after all letters it is the first of the cheapest
  pub least-end : {best least : ℕ} → IsFirstLeast t.letters best least → IsCheapest t costs first i best
  least-end {best} {least} x = go x.found
    where
      some-total : (b : ℕ) → On t i b → cost_at t costs (t.entry i b) b ≢ no_course → total b ≡ first b + cost_at t costs (t.entry i b) b
      some-total b o ne = let e = behind-onward t costs i b o in total-some (first b) (behind t costs i b) (λ q. ne (sym e ∙ q)) ∙ ap (λ c. first b + c) e

      go : ((least ≡ 131072) × (best ≡ 0)) ⊎ ((least < 131072) × (best < t.letters) × (total best ≡ least) × ((b : ℕ) → b < best → least < total b)) → IsCheapest t costs first i best
      go (inl e) = is_none (λ b o. none b o (ℕ_discrete (behind t costs i b) no_course)) e.1
        where
          none : (b : ℕ) → On t i b → Dec (behind t costs i b ≡ no_course) → cost_at t costs (t.entry i b) b ≡ no_course
          none b o (yes q) = sym (behind-onward t costs i b o) ∙ q
          none b o (no ne) = absurd (omega (arith, e.0, x.bound b o.has_entry.is_letter, x.small b o.has_entry.is_letter ne))
      go (inr y) = is_first (record { onward = o; goes_on = λ q. some (behind-onward t costs i best o ∙ q); least = λ b p ne. order b p ne (dec_lt b best) (dec_lt least (total b)) })
        where
          some : behind t costs i best ≢ no_course
          some q = omega (arith, y.0, y.2, total-none (first best) (behind t costs i best) q)

          o : On t i best
          o = behind-some t costs i best y.1 some

          own : least ≡ first best + cost_at t costs (t.entry i best) best
          own = sym y.2 ∙ some-total best o (λ q. some (behind-onward t costs i best o ∙ q))

          order : (b : ℕ) → On t i b → cost_at t costs (t.entry i b) b ≢ no_course → Dec (b < best) → Dec (least < total b)
              → (first best + cost_at t costs (t.entry i best) best < first b + cost_at t costs (t.entry i b) b)
              ⊎ ((first best + cost_at t costs (t.entry i best) best ≡ first b + cost_at t costs (t.entry i b) b) × (best ≤ b))
          order b p ne (yes h) d = inl (omega (arith, own, y.3 b h, some-total b p ne))
          order b p ne (no h) (yes l) = inl (omega (arith, own, some-total b p ne))
          order b p ne (no h) (no l) = inr (omega (arith, own, some-total b p ne, x.bound b p.has_entry.is_letter), omega arith)
