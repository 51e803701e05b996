-- What a constraint asks of streams, judged at all times: it is met exactly if it permits every time and, if it is an until, is done at some
-- time. From the definitions; an until that is done is met at the first time at which its right side is true.
use Prim.Native.Nat.{ℕ, zero, suc, ◌≤◌, ◌<◌, max}
use native.Mathlib.Omega.{arith}
use native.Mathlib.Decide.{dec_lt}
use native.Mathlib.Nat.{le_refl}
use mathlib.Core.Path.{refl}
use mathlib.Core.Logic.{◌↔◌}
use mathlib.Core.List.Memᴰ
use mathlib.Core.List.{List, [], ◌∷◌, Memᴰ}
use lib.Dec.{T}
use Rattle.basics.proofs.Tests.{T-dec, or_left, or_right, or_cases}
use Rattle.meaning.specs.Value.{truth, Streams}
use Rattle.meaning.specs.Expression.{Expression, Constraint, always, until, right_side, Until, value, MeetsFrom, Meets}
use Rattle.meaning.specs.Window.{untils_of}
use Rattle.meaning.specs.Situation.{done, permits}
use Rattle.meaning.proofs.Facts.{some_before-of, some_before-more}

module _ (w : Streams) where
  -- Once done, an until stays done.
  pub done_stays : (c : Constraint) (n m : ℕ) → n ≤ m → T (done w c n) → T (done w c m)
  unfolding done
  done_stays c n m h t = some_before-more (λ i. truth (value w (right_side c) i)) n m h t

  until-permits : (a b : Expression) → Until (value w a) (value w b) → (i : ℕ) → T (permits w (until a b) i)
  unfolding permits done
  until-permits a b u i = go (dec_lt i u.time)
    where
      go : Dec (i < u.time) → T (permits w (until a b) i)
      go (yes l) = or_left (truth (value w a i)) (done w (until a b) (suc i)) (u.left i l)
      go (no l) =
          or_right (truth (value w a i)) (done w (until a b) (suc i)) (some_before-of (λ i. truth (value w b i)) (suc i) u.time (omega arith) u.right)

  until-done : (a b : Expression) (u : Until (value w a) (value w b)) → T (done w (until a b) (suc u.time))
  unfolding done
  until-done a b u = some_before-of (λ i. truth (value w b i)) (suc u.time) u.time (le_refl (suc u.time)) u.right

  -- An until that is done and permits every time is met at the first time at which its right side is true.
  until-met : (a b : Expression) → ((i : ℕ) → T (permits w (until a b) i)) → (n : ℕ) → T (done w (until a b) n) → Until (value w a) (value w b)
  unfolding permits done
  until-met a b h zero t = absurd t
  until-met a b h (suc n) t = go (until-met a b h n) (T-dec (done w (until a b) n))
    where
      go : (T (done w (until a b) n) → Until (value w a) (value w b)) → Dec (T (done w (until a b) n)) → Until (value w a) (value w b)
      go again (yes d) = again d
      go again (no d) = record {
        time = n;
        right = or_cases (done w (until a b) n) (truth (value w b n)) t (λ e. absurd (d e)) (λ e. e);
        left = λ j l. or_cases (truth (value w a j)) (done w (until a b) (suc j)) (h j) (λ e. e) (λ e. absurd (d (done_stays (until a b) (suc j) n l e)));
      }

  -- A constraint is met exactly if it permits every time and, if it is an until, is done at some time.
  pub meets-permits : (c : Constraint) → Meets w c ↔ (((i : ℕ) → T (permits w c i)) × (Memᴰ c (untils_of c) → (n : ℕ) × T (done w c n)))
  unfolding Meets MeetsFrom value permits
  meets-permits (always s a b) = (λ h. (h, λ m. absurd (Memᴰ.not-nil m)), λ h. h.0)
  meets-permits (until a b) = (
    λ u. (until-permits a b u, λ m. (suc u.time, until-done a b u)),
    λ h. let d = h.1 (Memᴰ.head refl) in until-met a b h.0 d.0 d.1,
  )

  -- Untils that are each done at some time are all done at one time.
  pub done-together : (cs : List Constraint) → ((c : Constraint) → Memᴰ c cs → (n : ℕ) × T (done w c n)) → (n : ℕ) × ((c : Constraint) → Memᴰ c cs → T (done w c n))
  done-together [] h = (0, λ c m. absurd (Memᴰ.not-nil m))
  done-together (x ∷ cs) h = both (h x (Memᴰ.head refl)) (done-together cs (λ c m. h c (Memᴰ.tail m)))
    where
      both : (n : ℕ) × T (done w x n) → (n : ℕ) × ((c : Constraint) → Memᴰ c cs → T (done w c n)) → (n : ℕ) × ((c : Constraint) → Memᴰ c (x ∷ cs) → T (done w c n))
      both p q = (max p.0 q.0, at)
        where
          at : (c : Constraint) → Memᴰ c (x ∷ cs) → T (done w c (max p.0 q.0))
          at c (Memᴰ.head e) = rw e (done_stays x p.0 (max p.0 q.0) (omega arith) p.1)
          at c (Memᴰ.tail m) = done_stays c q.0 (max p.0 q.0) (omega arith) (q.1 c m)
