-- The sides of constraints, written one behind the other: what was written of the two sides of one constraint, that it stays while those of later ones
-- are written, and what all of them come to.
use Prim.Native.Nat.{ℕ, zero, suc, ◌+◌, ◌-◌, ◌≤◌, ◌<◌}
use native.Mathlib.Omega.{arith}
use native.Mathlib.Decide.{ℕ_discrete, dec_lt}
use mathlib.Core.Path.{◌≡◌, refl, sym, ◌∙◌, ap, subst}
use mathlib.Core.Bool.{true, false}
use mathlib.Core.List.{List}
use lib.ListN.{length, get_or, set, length-set}
use lib.Seq.{get_or-set_same, get_or-set_other}
use borrow.Author.Tests.{le-leb, lt-leb}
use Rattle.nodes.specs.Evaluate.{Nodes, View, places}
use Rattle.evaluate.proofs.Recursion.{HasArrays}
use Rattle.residue.specs.Residue.{tree_of}
use Rattle.residue.specs.Written.{written, SameBelow}
use Rattle.residue.proofs.Size.{length-written, size-some}
use Rattle.residue.proofs.Writing.{below_trans, writes_hold, holds-stays}
use Rattle.write_residue.specs.declared.WrittenResidue.{WrittenResidue}
use Rattle.write_residue.specs.Wrote.{end_of, Wrote}
use Rattle.write_residue.proofs.Answers.{end-room, end-full, end-behind, end_join, wrote-behind, wrote-within}
use Rattle.write_residue.proofs.Joined.{room-told}
use Rattle.write_sides.specs.declared.SideNodes.{SideNodes}
use Rattle.write_sides.specs.Sides.{side_residue, side_size, SideWritten, ConstraintWritten, sides_size, SidesWritten, sides_within, WritesSides}

module _ (N : Nodes) (U : View) (letters p : ℕ) where
  abbrev size : ℕ → ℕ
  size root = side_size N U letters p root

  -- ---- one constraint

  module _ {old mid new : Nodes} {at : ℕ} (roots : SideNodes) {a b : WrittenResidue} (o : HasArrays old) (h : at ≤ 1024) (u : Wrote old mid at (side_residue N U letters p roots.left) a)
      (w : Wrote mid new a.end (side_residue N U letters p roots.right) b) where
    left-told : b.end ≤ 1024 → (at + size roots.left ≤ 1024) × (a.end ≡ at + size roots.left)
    left-told e = room-told u (omega (arith, wrote-behind w (wrote-within u)))

    pub constraint-written : ConstraintWritten N U letters p old new at roots (record { left = a.end; right = b.end })
    constraint-written =
        let l = tree_of (side_residue N U letters p roots.left) in
        let r = tree_of (side_residue N U letters p roots.right) in
        record {
          end = w.end ∙ ap (λ k. end_of k (size roots.right)) u.end ∙ end_join at (size roots.left) (size roots.right);
          kept = below_trans (wrote-behind u (omega arith)) w.kept u.kept;
          arrays = w.arrays;
          left = λ e.
              let t = left-told e in
              let f = wrote-behind w (wrote-within u) in
              record {
                start = at;
                ends = omega (arith, t.1, size-some l);
                within = omega (arith, t.1, size-some l);
                holds = holds-stays mid new a.end at (written at l) w.kept (omega (arith, t.1, length-written at l)) (writes_hold old mid at (written at l) o h (u.nodes t.0));
              };
          right = λ e.
              let t = room-told w e in
              record {
                start = a.end;
                ends = omega (arith, t.1, size-some r);
                within = omega (arith, t.1, size-some r);
                holds = writes_hold mid new a.end (written a.end r) u.arrays (omega (arith, t.0)) (w.nodes t.0);
              };
          some = λ e. omega (arith, (left-told e).1, size-some l);
        }

  -- A side that was written stays while nodes are written behind it.
  side-stays : {M P : Nodes} {end later root last : ℕ} → SameBelow end P M → end ≤ later → SideWritten N U letters p M end root last → SideWritten N U letters p P later root last
  side-stays {M} {P} {end} {later} {root} s h w =
      let t = tree_of (side_residue N U letters p root) in
      record {
        start = w.start;
        ends = w.ends;
        within = omega (arith, w.within);
        holds = holds-stays M P end w.start (written w.start t) s (omega (arith, w.within, w.ends, length-written w.start t)) w.holds;
      }

  -- ---- all constraints

  module _ (lefts rights : List ℕ) where
    abbrev total : ℕ → ℕ
    total n = sides_size N U letters p lefts rights n

    total-more : (j : ℕ) → total (suc j) ≡ total j + (size (get_or lefts j 0) + size (get_or rights j 0))
    unfolding sides_size
    total-more j = refl

    total-none : total 0 ≡ 0
    unfolding sides_size
    total-none = refl

    total_grows : (n j : ℕ) → j ≤ n → total j ≤ total n
    total_grows zero j h = let e : j ≡ 0 = omega arith in omega (arith, ap total e)
    total_grows (suc n) j h = by (ℕ_discrete j (suc n)) (total_grows n j)
      where
        by : Dec (j ≡ suc n) → (j ≤ n → total j ≤ total n) → total j ≤ total (suc n)
        by (yes e) r = omega (arith, ap total e)
        by (no e) r = omega (arith, r (omega arith), total-more n)

    -- The sides of the first j constraints are written, and their last nodes stand in the two lists.
    pub record UpTo (count : ℕ) (M : Nodes) (new_lefts new_rights : List ℕ) (at j : ℕ) : Type 0 where
      pub within : j ≤ count
      pub few : count ≤ 32
      pub room : at ≤ 1024
      pub size : at ≡ total j
      pub arrays : HasArrays M
      pub sides : SidesWritten N U letters p lefts rights M at j new_lefts new_rights
      pub lefts_long : length new_lefts ≡ 32
      pub rights_long : length new_rights ≡ 32

    pub up_to-none : {count : ℕ} {M : Nodes} {new_lefts new_rights : List ℕ} → count ≤ 32 → HasArrays M → length new_lefts ≡ 32 → length new_rights ≡ 32 → UpTo count M new_lefts new_rights 0 0
    up_to-none c a l r =
        record {
          within = omega arith;
          few = c;
          room = omega arith;
          size = sym total-none;
          arrays = a;
          sides = record { left = λ j h. absurd (omega arith); right = λ j h. absurd (omega arith) };
          lefts_long = l;
          rights_long = r;
        }

    module _ {count : ℕ} {M P : Nodes} {new_lefts new_rights : List ℕ} {at j : ℕ} {roots ends : SideNodes} (u : UpTo count M new_lefts new_rights at j) (h : j < count)
        (l : roots.left ≡ get_or lefts j 0) (r : roots.right ≡ get_or rights j 0) (w : ConstraintWritten N U letters p M P at roots ends) where
      ends_next : ends.right ≡ end_of at (size (get_or lefts j 0) + size (get_or rights j 0))
      ends_next = w.end ∙ ap (λ x. end_of at (size x + size roots.right)) l ∙ ap (λ x. end_of at (size (get_or lefts j 0) + size x)) r

      -- What else is written, if there is room.
      pub up_to-more : ends.right ≤ 1024 → UpTo count P (set new_lefts j (ends.left - 1)) (set new_rights j (ends.right - 1)) ends.right (j + 1)
      up_to-more e =
          let behind : at ≤ ends.right = omega (arith, ends_next, end-behind at (size (get_or lefts j 0) + size (get_or rights j 0)) (omega (arith, u.room))) in
          record {
            within = omega arith;
            few = u.few;
            room = e;
            size = by (dec_lt 1024 (at + (size (get_or lefts j 0) + size (get_or rights j 0))));
            arrays = w.arrays;
            sides =
                record {
                  left = λ i b. pick lefts new_lefts (ends.left - 1) i b (omega (arith, u.lefts_long, u.few)) (λ k. side-stays w.kept behind (u.sides.left i k)) (subst (λ x. SideWritten N U letters p P ends.right x (ends.left - 1)) l (w.left e));
                  right = λ i b. pick rights new_rights (ends.right - 1) i b (omega (arith, u.rights_long, u.few)) (λ k. side-stays w.kept behind (u.sides.right i k)) (subst (λ x. SideWritten N U letters p P ends.right x (ends.right - 1)) r (w.right e));
                };
            lefts_long = length-set new_lefts j (ends.left - 1) ∙ u.lefts_long;
            rights_long = length-set new_rights j (ends.right - 1) ∙ u.rights_long;
          }
        where
          by : Dec (1024 < at + (size (get_or lefts j 0) + size (get_or rights j 0))) → ends.right ≡ total (j + 1)
          by (yes k) = absurd (omega (arith, ends_next, end-full at (size (get_or lefts j 0) + size (get_or rights j 0)) k))
          by (no k) =
              let s : suc j ≡ j + 1 = omega arith in
              ends_next ∙ end-room at (size (get_or lefts j 0) + size (get_or rights j 0)) (omega arith) ∙ ap (λ x. x + (size (get_or lefts j 0) + size (get_or rights j 0))) u.size ∙ sym (total-more j) ∙ ap total s

          pick : (olds news : List ℕ) (v i : ℕ) → i < j + 1 → j < length news → (i < j → SideWritten N U letters p P ends.right (get_or olds i 0) (get_or news i 0))
              → SideWritten N U letters p P ends.right (get_or olds j 0) v → SideWritten N U letters p P ends.right (get_or olds i 0) (get_or (set news j v) i 0)
          pick olds news v i b n before here = at_place (ℕ_discrete i j)
            where
              at_place : Dec (i ≡ j) → SideWritten N U letters p P ends.right (get_or olds i 0) (get_or (set news j v) i 0)
              at_place (yes q) =
                  subst (λ k. SideWritten N U letters p P ends.right (get_or olds k 0) (get_or (set news j v) k 0)) (sym q)
                  (subst (SideWritten N U letters p P ends.right (get_or olds j 0)) (sym (get_or-set_same news j v 0 n)) here)
              at_place (no q) = subst (SideWritten N U letters p P ends.right (get_or olds i 0)) (sym (get_or-set_other news j i v 0 q)) (before (omega arith))

      -- Where there is no room, there is none for all.
      pub no_room : 1024 < ends.right → 1024 < total count
      no_room e = by (dec_lt 1024 (at + (size (get_or lefts j 0) + size (get_or rights j 0))))
        where
          by : Dec (1024 < at + (size (get_or lefts j 0) + size (get_or rights j 0))) → 1024 < total count
          by (yes k) = omega (arith, total_grows count (suc j) h, total-more j, u.size)
          by (no k) = absurd (omega (arith, ends_next, end-room at (size (get_or lefts j 0) + size (get_or rights j 0)) (omega arith)))

-- ---- the answers

module _ (N : Nodes) (U : View) (p : ℕ) (lefts rights : List ℕ) {M : Nodes} {new_lefts new_rights : List ℕ} where
  pub sides-refused : {count : ℕ} → count ≡ sides_within lefts rights → HasArrays M → 1024 < sides_size N U (places U) p lefts rights count → WritesSides N U p lefts rights M new_lefts new_rights false
  sides-refused c a h =
      record {
        answer = sym (lt-leb (sides_size N U (places U) p lefts rights (sides_within lefts rights)) 1024 (subst (λ n. 1024 < sides_size N U (places U) p lefts rights n) c h));
        sides = λ t. let y : ◌≡◌ {A = ℕ} 0 1 = cc in absurd (omega arith);
        arrays = a;
      }

  pub sides-done : {count at j : ℕ} → count ≡ sides_within lefts rights → count ≤ j → UpTo N U (places U) p lefts rights count M new_lefts new_rights at j → WritesSides N U p lefts rights M new_lefts new_rights true
  sides-done {count} {at} {j} c h u =
      let e : j ≡ sides_within lefts rights = omega (arith, u.within, c) in
      let s : at ≡ sides_size N U (places U) p lefts rights (sides_within lefts rights) = u.size ∙ ap (sides_size N U (places U) p lefts rights) e in
      record {
        answer = sym (le-leb (sides_size N U (places U) p lefts rights (sides_within lefts rights)) 1024 (omega (arith, u.room)));
        sides = λ t.
            record {
              left = λ i b. side-later u.room (u.sides.left i (omega arith));
              right = λ i b. side-later u.room (u.sides.right i (omega arith));
            };
        arrays = u.arrays;
      }
    where
      side-later : {end root last : ℕ} → end ≤ 1024 → SideWritten N U (places U) p M end root last → SideWritten N U (places U) p M 1024 root last
      side-later k w = record { start = w.start; ends = w.ends; within = omega (arith, w.within); holds = w.holds }
