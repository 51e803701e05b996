-- The situations of a small sheet, explored by computation, and a test of the records found that turns into the sheet's count of situations.
use Prim.Native.Nat.{ℕ, zero, suc, ◌<◌}
use mathlib.Core.Path.{◌≡◌, refl, sym, ◌∙◌, ap, subst}
use mathlib.Core.Bool.{Bool, true, false, not, cond, ◌&&◌, ◌||◌}
use mathlib.Core.List.Memᴰ
use mathlib.Core.List.{List, [], ◌∷◌, ◌++◌, map, Memᴰ}
use mathlib.Core.Option.{none, some}
use lib.Dec.{T, ltb, ltb→lt}
use lib.ListN.{length}
use native.Mathlib.Omega.{arith}
use native.Mathlib.Nat.{not-suc-le-zero}
use Rattle.meaning.proofs.Facts.{all-at}
use Rattle.basics.proofs.Tests.{T_and}
use Rattle.meaning.specs.Expression.{Sheet}
use Rattle.meaning.specs.Letter.{letter_count, letter_of, record_of}
use Rattle.meaning.specs.Situation.{Situation, all, lawful, situation, IsSituation, SituationCount}
use Rattle.meaning.specs.Evaluation.{successor}
use Rattle.meaning.proofs.Continuation.{record_of-letters}
use Rattle.meaning.proofs.Congruence.{successor-situation}
use Rattle.meaning.proofs.Exploration.{Closed, closed_every}
use Rattle.outcome.proofs.SheetWords.{record_of_extend}
use Rattle.worked.proofs.Equality.{is_member, is_member-sound, has_no_repeats, has_no_repeats-sound}

map-member : {X Y : Type 0} (f : X → Y) (l : List X) (y : Y) → Memᴰ y (map f l) → (x : X) × Memᴰ x l × (y ≡ f x)
map-member {X = X} {Y = Y} f [] y x' = elim x' [ ]
map-member f (z ∷ l) y (Memᴰ.head e) = (z, Memᴰ.head refl, e)
map-member f (z ∷ l) y (Memᴰ.tail m) = let r = map-member f l y m in (r.0, Memᴰ.tail r.1, r.2)

-- every number below k passes the test
abbrev pub every_below : ℕ → (ℕ → Bool) → Bool
every_below zero p = true
every_below (suc k) p = p k && every_below k p

every_below-sound : (k : ℕ) (p : ℕ → Bool) → T (every_below k p) → (a : ℕ) → a < k → T (p a)
every_below-sound zero p t a h = absurd (not-suc-le-zero h)
every_below-sound (suc k) p t a h = go (ltb a k) refl (every_below-sound k p ((T_and (p k) (every_below k p)).0 t).1 a)
  where
    go : (b : Bool) → ltb a k ≡ b → (a < k → T (p a)) → T (p a)
    go true e rest = rest (ltb→lt a k (subst T (sym e) tt))
    go false e rest = let q : a ≡ k = omega (arith, lib.Dec.nltb→le a k (subst (λ b. T (not b)) (sym e) tt)) in subst (λ z. T (p z)) (sym q) ((T_and (p k) (every_below k p)).0 t).0

module _ (s : Sheet) where
  abbrev pub situation_of : List ℕ → Situation
  situation_of r = situation s.constraints (record_of s.streams r)

  abbrev pub is_lawful : List ℕ → Bool
  is_lawful r = lawful s.constraints (record_of s.streams r)

  -- the lawful records that are r with one of the last letters, from a on, and whose situation is not among those seen
  abbrev pub extended : ℕ → ℕ → List ℕ → List Situation → List (List ℕ)
  extended zero a r seen = []
  extended (suc n) a r seen =
      let c = r ++ (a ∷ []) in
      let new = c ∷ extended n (suc a) r (situation_of c ∷ seen) in
      let old = extended n (suc a) r seen in
      cond (is_lawful c && not (is_member (situation_of c) seen)) new old

  -- Breadth first, at most as many records as the first argument.
  abbrev pub explored : ℕ → List (List ℕ) → List (List ℕ) → List (List ℕ)
  explored zero todo found = found
  explored (suc n) [] found = found
  explored (suc n) (r ∷ todo) found =
      let new = extended (letter_count s.streams) 0 r (map situation_of found) in
      explored n (todo ++ new) (found ++ new)

  abbrev pub is_covered : List Situation → List ℕ → ℕ → Bool
  is_covered l r a = not (is_lawful (r ++ (a ∷ []))) || is_member (situation_of (r ++ (a ∷ []))) l

  -- The records have letters in range, are lawful, differ in their situations, and every lawful longer record has one of their situations.
  abbrev pub counts_situations : List (List ℕ) → Bool
  counts_situations rs =
      let l = map situation_of rs in
      all (λ r. all (λ a. ltb a (letter_count s.streams)) r) rs
      && (all is_lawful rs && (has_no_repeats l && (is_member (situation_of []) l && all (λ r. every_below (letter_count s.streams) (is_covered l r)) rs)))

  module _ (rs : List (List ℕ)) (t : T (counts_situations rs)) where
    abbrev l : List Situation
    l = map situation_of rs

    abbrev in_range : Bool
    in_range = all (λ r. all (λ a. ltb a (letter_count s.streams)) r) rs

    abbrev covered : Bool
    covered = all (λ r. every_below (letter_count s.streams) (is_covered l r)) rs

    pub parts : T in_range × T (all is_lawful rs) × T (has_no_repeats l) × T (is_member (situation_of []) l) × T covered
    parts =
        let p = (T_and in_range (all is_lawful rs && (has_no_repeats l && (is_member (situation_of []) l && covered)))).0 t in
        let q = (T_and (all is_lawful rs) (has_no_repeats l && (is_member (situation_of []) l && covered))).0 p.1 in
        let r = (T_and (has_no_repeats l) (is_member (situation_of []) l && covered)).0 q.1 in
        let u = (T_and (is_member (situation_of []) l) covered).0 r.1 in
        (p.0, q.0, r.0, u.0, u.1)

    pub found : (x : Situation) → Memᴰ x l → IsSituation s x
    found x m =
        let r = map-member situation_of rs x m in
        record {
          lawful_record = record_of s.streams r.0;
          letters = record_of-letters s.streams r.0 (λ n k. ltb→lt n (letter_count s.streams) (all-at (λ a. ltb a (letter_count s.streams)) r.0 (all-at (λ r. all (λ a. ltb a (letter_count s.streams)) r) rs parts.0 r.0 r.1) n k));
          is_lawful = all-at is_lawful rs parts.1 r.0 r.1;
          same = sym r.2;
        }

    pub closed : Closed s l
    closed = record { holds = λ x m a ha u e. step x (map-member situation_of rs x m) a ha u e }
      where
        step : (x : Situation) → ((r : List ℕ) × Memᴰ r rs × (x ≡ situation_of r)) → (a : ℕ) → a < letter_count s.streams → (u : Situation)
            → successor s.constraints x (letter_of s.streams a) ≡ some u → Memᴰ u l
        step x r a ha u e = go (is_lawful longer) refl
          where
            longer : List ℕ
            longer = r.0 ++ (a ∷ [])

            is : successor s.constraints x (letter_of s.streams a) ≡ cond (is_lawful longer) (some (situation_of longer)) none
            is =
                rw (record_of_extend s r.0 a, r.2)
                (successor-situation s.constraints (record_of s.streams r.0) (letter_of s.streams a) (all-at is_lawful rs parts.1 r.0 r.1))

            go : (b : Bool) → is_lawful longer ≡ b → Memᴰ u l
            go true q =
                let v : situation_of longer ≡ u = injective (sym (is ∙ ap (λ b. cond b (some (situation_of longer)) none) q) ∙ e) in
                let c = every_below-sound (letter_count s.streams) (is_covered l r.0) (all-at (λ r. every_below (letter_count s.streams) (is_covered l r)) rs parts.4 r.0 r.1) a ha in
                Memᴰ.cast (sym v) (is_member-sound (situation_of longer) l (subst (λ b. T (not b || is_member (situation_of longer) l)) q c))
              where
                injective : some (situation_of longer) ≡ some u → situation_of longer ≡ u
                injective w = cc
            go false q = absurd (apart (sym (is ∙ ap (λ b. cond b (some (situation_of longer)) none) q) ∙ e))
              where
                apart : none ≡ some u → ⊥
                apart w = let z : ◌≡◌ {A = ℕ} 0 1 = cc in omega arith

    abbrev pub counted : SituationCount s (length l)
    counted =
        record {
          list = l;
          distinct = has_no_repeats-sound l parts.2;
          found = found;
          every = closed_every s l closed (is_member-sound (situation_of []) l parts.3);
          count = refl;
        }
