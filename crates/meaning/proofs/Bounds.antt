-- The members of a list of constraints: B and D are the least numbers such that their sides look back at most B and ahead at most D, and what
-- any `first` stands before looks ahead at most D; the list's untils are those of its members that are untils. From the definitions over the list.
use Prim.Native.Nat.{ℕ, ◌≤◌, max}
use native.Mathlib.Omega.{arith}
use mathlib.Core.Path.{◌≡◌, sym, subst}
use mathlib.Core.Logic.{◌↔◌}
use mathlib.Core.List.Memᴰ
use mathlib.Core.List.{List, Memᴰ}
use Rattle.meaning.specs.Expression.{Expression, Constraint, always, until, left_side, right_side}
use Rattle.meaning.specs.Window.{reach, back, all_firsts, B, D, untils_of, all_untils}
use Rattle.meaning.proofs.Facts.{largest_over-bound, largest_over-least, join_over-member, join_over_origin}

pub record SidesWithin (b d : ℕ) (c : Constraint) : Type 0 where
  pub back_left : back (left_side c) ≤ b
  pub back_right : back (right_side c) ≤ b
  pub reach_left : reach (left_side c) ≤ d
  pub reach_right : reach (right_side c) ≤ d

pub sides-within : (cs : List Constraint) (c : Constraint) → Memᴰ c cs → SidesWithin (B cs) (D cs) c
unfolding B D
sides-within cs c m =
    let b = largest_over-bound (λ c. max (back (left_side c)) (back (right_side c))) cs c m in
    let d = largest_over-bound (λ c. max (reach (left_side c)) (reach (right_side c))) cs c m in
    record { back_left = omega arith; back_right = omega arith; reach_left = omega arith; reach_right = omega arith }

pub first-within : (cs : List Constraint) (e : Expression) → Memᴰ e (all_firsts cs) → reach e ≤ D cs
unfolding D
first-within cs e m = let h = largest_over-bound reach (all_firsts cs) e m in omega arith

-- B and D are the least such numbers.
pub bounds-least : (cs : List Constraint) (b d : ℕ) → ((c : Constraint) → Memᴰ c cs → SidesWithin b d c) → ((e : Expression) → Memᴰ e (all_firsts cs) → reach e ≤ d)
    → (B cs ≤ b) × (D cs ≤ d)
unfolding B D
bounds-least cs b d sides firsts =
    let backs = largest_over-least (λ c. max (back (left_side c)) (back (right_side c))) cs b (λ c m. let x = sides c m in omega arith) in
    let reaches = largest_over-least (λ c. max (reach (left_side c)) (reach (right_side c))) cs d (λ c m. let x = sides c m in omega arith) in
    let ahead = largest_over-least reach (all_firsts cs) d firsts in
    (backs, omega arith)

until-of : (x c : Constraint) → Memᴰ c (untils_of x) → c ≡ x
until-of (always s a b) c m = absurd (Memᴰ.not-nil m)
until-of (until a b) c m = Memᴰ.eq_of_singleton m

-- The untils of the list are those of its members that are untils.
pub until-member : (cs : List Constraint) (c : Constraint) → Memᴰ c (all_untils cs) ↔ (Memᴰ c cs × Memᴰ c (untils_of c))
until-member cs c = (
  λ m.
      let o = join_over_origin untils_of cs c m in
      let e = until-of o.0 c o.2 in
      (subst (λ x. Memᴰ x cs) (sym e) o.1, subst (λ x. Memᴰ c (untils_of x)) (sym e) o.2),
  λ m. join_over-member untils_of cs c c m.0 m.1,
)
