-- The records that can be followed from a state are listed without repeats, each of them and no other, and are as many as the sums say: by induction over the
-- letters and their numbers. From the start of a table they are the records that begin a solution (automaton, Paths), and with one letter more there are no
-- fewer of them.
use mathlib.Core.Path.{◌≡◌, refl, sym, ◌∙◌, ap, subst}
use mathlib.Core.Bool.{Bool, true, false, cond}
use mathlib.Core.List.Memᴰ
use mathlib.Core.List.{List, [], ◌∷◌, ◌++◌, map, Memᴰ}
use Prim.Native.Nat.{ℕ, zero, suc, ◌+◌, ◌≤◌, ◌<◌}
use native.Mathlib.Omega.{arith}
use native.Mathlib.Decide.{ℕ_discrete}
use mathlib.Core.Logic.{◌⊎◌, inl, inr}
use lib.Dec.{T, ltb, ltb→lt, lt→ltb}
use lib.ListN.{length, length-append, length-map}
use borrow.Author.Tests.{ltb-true, lt-ltb}
use Rattle.basics.specs.Count.{NoRepeats, CountOf}
use Rattle.automaton.specs.Words.{Word, AllBelow}
use Rattle.automaton.specs.Table.{walk, PathFrom, IsTable}
use Rattle.automaton.specs.Solutions.{Begins}
use Rattle.automaton.proofs.Paths.{entry-state, path↔begins}
use Rattle.automaton.proofs.States.{continuation_followed}
use Rattle.counting.specs.Counting.{StaysBelow, IsRecordFrom, any_state}
use Rattle.figure_sums.specs.Sums.{letter_sum}
use Rattle.counting.specs.Figures.{record_count_from}
use Rattle.figure_sums.proofs.Sums.{sum_le, sum-part}

-- ---- the list

-- f 0, f 1 and so on, the first m of them, joined.
abbrev join_below : ℕ → (ℕ → List (List ℕ)) → List (List ℕ)
join_below zero f = []
join_below (suc m) f = join_below m f ++ f m

-- The records of t letters from i: the one of no letters where i passes, and for each first letter those from its entry on.
unfoldable pub records_from : (k n : ℕ) (entry : ℕ → ℕ → ℕ) (passing : ℕ → Bool) → ℕ → ℕ → List (List ℕ)
records_from k n entry passing zero i = cond (passing i) ([] ∷ []) []
records_from k n entry passing (suc t) i = join_below k (λ a. cond (ltb (entry i a) n) (map (a ∷◌) (records_from k n entry passing t (entry i a))) [])

listed : (m : ℕ) (b : ℕ → Bool) (f : ℕ → ℕ) (g : ℕ → List (List ℕ)) → ((a : ℕ) → length (g a) ≡ f a)
    → length (join_below m (λ a. cond (b a) (map (a ∷◌) (g a)) [])) ≡ letter_sum m (λ a. cond (b a) (f a) 0)
listed zero b f g h = refl
listed (suc m) b f g h = rw length-append (λ i. listed m b f g h i + here (b m) i)
  where
    here : (c : Bool) → length (cond c (map (m ∷◌) (g m)) []) ≡ cond c (f m) 0
    here true = rw length-map (h m)
    here false = refl

module _ (k n : ℕ) (entry : ℕ → ℕ → ℕ) (ends : ℕ → Bool) where
  pub counted : (t i : ℕ) → length (records_from k n entry ends t i) ≡ record_count_from k n entry ends t i
  unfolding records_from record_count_from
  counted zero i = go (ends i)
    where
      go : (c : Bool) → length {A = List ℕ} (cond c ([] ∷ []) []) ≡ cond c 1 0
      go true = refl
      go false = refl
  counted (suc t) i = listed k (λ a. ltb (entry i a) n) (λ a. record_count_from k n entry ends t (entry i a)) (λ a. records_from k n entry ends t (entry i a)) (λ a. counted t (entry i a))

-- ---- members

member-left : {X : Type 0} {x : X} {xs : List X} (ys : List X) → Memᴰ x xs → Memᴰ x (xs ++ ys)
member-left ys (Memᴰ.head e) = Memᴰ.head e
member-left ys (Memᴰ.tail m) = Memᴰ.tail (member-left ys m)

member_right : {X : Type 0} {x : X} (xs : List X) {ys : List X} → Memᴰ x ys → Memᴰ x (xs ++ ys)
member_right [] m = m
member_right (y ∷ xs) m = Memᴰ.tail (member_right xs m)

member-map : {x : List ℕ} {xs : List (List ℕ)} (a : ℕ) → Memᴰ x xs → Memᴰ (a ∷ x) (map (a ∷◌) xs)
member-map a (Memᴰ.head e) = Memᴰ.head (ap (a ∷◌) e)
member-map a (Memᴰ.tail m) = Memᴰ.tail (member-map a m)

member_below : (m a : ℕ) (f : ℕ → List (List ℕ)) {x : List ℕ} → a < m → Memᴰ x (f a) → Memᴰ x (join_below m f)
member_below zero a f h p = absurd (omega arith)
member_below (suc m) a f h p = elim (ℕ_discrete a m) [ yes e ↦ member_right (join_below m f) (rw e at p) | no e ↦ member-left (f m) (member_below m a f (omega arith) p) ]

module _ (k n : ℕ) (entry : ℕ → ℕ → ℕ) (ends : ℕ → Bool) where
  pub every : (r : List ℕ) (i : ℕ) → AllBelow k r → StaysBelow n entry i r → T (ends (walk entry i r)) → Memᴰ r (records_from k n entry ends (length r) i)
  unfolding records_from
  every [] i h g e = go (ends i) e
    where
      go : (c : Bool) → T c → Memᴰ {A = List ℕ} [] (cond c ([] ∷ []) [])
      go true t = Memᴰ.head refl
      go false t = absurd t
  every (a ∷ r) i h g e =
      member_below k a (λ a. cond (ltb (entry i a) n) (map (a ∷◌) (records_from k n entry ends (length r) (entry i a))) []) h.0
      (go (ltb (entry i a) n) g.0 (member-map a (every r (entry i a) h.1 g.1 e)))
    where
      go : (c : Bool) → T c → Memᴰ (a ∷ r) (map (a ∷◌) (records_from k n entry ends (length r) (entry i a))) → Memᴰ (a ∷ r) (cond c (map (a ∷◌) (records_from k n entry ends (length r) (entry i a))) [])
      go true t m = m
      go false t m = absurd t

-- ---- what a member is

member-of-map : {x : List ℕ} (a : ℕ) (xs : List (List ℕ)) → Memᴰ x (map (a ∷◌) xs) → (r : List ℕ) × (x ≡ a ∷ r) × Memᴰ r xs
member-of-map a [] m = absurd (Memᴰ.not-nil m)
member-of-map a (r ∷ xs) (Memᴰ.head e) = (r, e, Memᴰ.head refl)
member-of-map a (r ∷ xs) (Memᴰ.tail m) = let q = member-of-map a xs m in (q.0, q.1, Memᴰ.tail q.2)

member-of_join : {x : List ℕ} (m : ℕ) (f : ℕ → List (List ℕ)) → Memᴰ x (join_below m f) → (a : ℕ) × (a < m) × Memᴰ x (f a)
member-of_join zero f p = absurd (Memᴰ.not-nil p)
member-of_join {x} (suc m) f p = go (λ q. member-of_join m f q) (Memᴰ.append_cases (join_below m f) p)
  where
    go : (Memᴰ x (join_below m f) → (a : ℕ) × (a < m) × Memᴰ x (f a)) → Memᴰ x (join_below m f) ⊎ Memᴰ x (f m) → (a : ℕ) × (a < suc m) × Memᴰ x (f a)
    go ih (inl q) = let r = ih q in (r.0, omega (arith, r.1), r.2)
    go ih (inr q) = (m, omega arith, q)

-- a member of the letter a's part begins with a
member-of-part : {x : List ℕ} (c : Bool) (a : ℕ) (xs : List (List ℕ)) → Memᴰ x (cond c (map (a ∷◌) xs) []) → T c × ((r : List ℕ) × (x ≡ a ∷ r) × Memᴰ r xs)
member-of-part true a xs m = (tt, member-of-map a xs m)
member-of-part false a xs m = absurd (Memᴰ.not-nil m)

module _ (k n : ℕ) (entry : ℕ → ℕ → ℕ) (ends : ℕ → Bool) where
  pub found : (t i : ℕ) (r : List ℕ) → Memᴰ r (records_from k n entry ends t i) → IsRecordFrom k n entry ends t i r
  unfolding records_from
  found zero i r m = go (ends i) refl m
    where
      of : T (ends i) → (r : List ℕ) → Memᴰ r ([] ∷ []) → IsRecordFrom k n entry ends zero i r
      of p r (Memᴰ.head e) = subst (IsRecordFrom k n entry ends zero i) (sym e) (record { letters = tt; stays = tt; passes = p; long = refl })
      of p r (Memᴰ.tail q) = absurd (Memᴰ.not-nil q)

      go : (c : Bool) → ends i ≡ c → Memᴰ r (cond c ([] ∷ []) []) → IsRecordFrom k n entry ends zero i r
      go true e q = of (rw e tt) r q
      go false e q = absurd (Memᴰ.not-nil q)
  found (suc t) i r m =
      let j = member-of_join k (λ a. cond (ltb (entry i a) n) (map (a ∷◌) (records_from k n entry ends t (entry i a))) []) m in
      let p = member-of-part (ltb (entry i j.0) n) j.0 (records_from k n entry ends t (entry i j.0)) j.2 in
      with_letter j.0 j.1 p.0 p.1.0 p.1.1 (found t (entry i j.0) p.1.0 p.1.2)
    where
      with_letter : (a : ℕ) → a < k → T (ltb (entry i a) n) → (q : List ℕ) → r ≡ a ∷ q → IsRecordFrom k n entry ends t (entry i a) q → IsRecordFrom k n entry ends (suc t) i r
      with_letter a h g q e z =
          subst (IsRecordFrom k n entry ends (suc t) i) (sym e) (record { letters = (h, z.letters); stays = (g, z.stays); passes = z.passes; long = ap suc z.long })

-- ---- no repeats

no_repeats-append : {X : Type 0} (xs ys : List X) → NoRepeats xs → NoRepeats ys → ((x : X) → Memᴰ x xs → Memᴰ x ys → ⊥) → NoRepeats (xs ++ ys)
no_repeats-append [] ys p q h = q
no_repeats-append {X} (x ∷ xs) ys p q h = (λ m. go (Memᴰ.append_cases xs m), no_repeats-append xs ys p.1 q (λ z m m'. h z (Memᴰ.tail m) m'))
  where
    go : Memᴰ x xs ⊎ Memᴰ x ys → ⊥
    go (inl m) = p.0 m
    go (inr m) = h x (Memᴰ.head refl) m

rest_of : List ℕ → List ℕ
rest_of [] = []
rest_of (a ∷ r) = r

first_of : List ℕ → ℕ
first_of [] = 0
first_of (a ∷ r) = a

same_rest : {a b : ℕ} {r q : List ℕ} → ◌≡◌ {A = List ℕ} (a ∷ r) (b ∷ q) → r ≡ q
unfolding rest_of
same_rest e = ap rest_of e

same_first : {a b : ℕ} {r q : List ℕ} → ◌≡◌ {A = List ℕ} (a ∷ r) (b ∷ q) → a ≡ b
unfolding first_of
same_first e = ap first_of e

no_repeats-map : (a : ℕ) (xs : List (List ℕ)) → NoRepeats xs → NoRepeats (map (a ∷◌) xs)
no_repeats-map a [] p = tt
no_repeats-map a (r ∷ xs) p =
    (λ m. let q = member-of-map a xs m in p.0 (subst (λ z. Memᴰ z xs) (sym (same_rest q.1)) q.2), no_repeats-map a xs p.1)

no_repeats_join : (m : ℕ) (f : ℕ → List (List ℕ)) → ((a : ℕ) → NoRepeats (f a)) → ((a b : ℕ) (x : List ℕ) → Memᴰ x (f a) → Memᴰ x (f b) → a ≡ b) → NoRepeats (join_below m f)
no_repeats_join zero f p h = tt
no_repeats_join (suc m) f p h =
    no_repeats-append (join_below m f) (f m) (no_repeats_join m f p h) (p m)
    (λ x q q'. let j = member-of_join m f q in let e = h j.0 m x j.2 q' in omega (arith, j.1, e))

module _ (k n : ℕ) (entry : ℕ → ℕ → ℕ) (ends : ℕ → Bool) where
  pub no_repeats : (t i : ℕ) → NoRepeats (records_from k n entry ends t i)
  unfolding records_from
  no_repeats zero i = go (ends i)
    where
      go : (c : Bool) → NoRepeats {X = List ℕ} (cond c ([] ∷ []) [])
      go true = (λ m. Memᴰ.not-nil m, tt)
      go false = tt
  no_repeats (suc t) i =
      no_repeats_join k (λ a. cond (ltb (entry i a) n) (map (a ∷◌) (records_from k n entry ends t (entry i a))) [])
      (λ a. part (ltb (entry i a) n) a (records_from k n entry ends t (entry i a)) (no_repeats t (entry i a)))
      (λ a b x p q. apart (ltb (entry i a) n) (ltb (entry i b) n) a b x (records_from k n entry ends t (entry i a)) (records_from k n entry ends t (entry i b)) p q)
    where
      part : (c : Bool) (a : ℕ) (xs : List (List ℕ)) → NoRepeats xs → NoRepeats (cond c (map (a ∷◌) xs) [])
      part true a xs p = no_repeats-map a xs p
      part false a xs p = tt

      apart : (c d : Bool) (a b : ℕ) (x : List ℕ) (xs ys : List (List ℕ)) → Memᴰ x (cond c (map (a ∷◌) xs) []) → Memᴰ x (cond d (map (b ∷◌) ys) []) → a ≡ b
      apart c d a b x xs ys p q = same_first (sym (member-of-part c a xs p).1.1 ∙ (member-of-part d b ys q).1.1)

  -- The figure is the number of the records.
  pub records-count : (t i : ℕ) → CountOf (IsRecordFrom k n entry ends t i) (record_count_from k n entry ends t i)
  records-count t i =
      record {
        list = records_from k n entry ends t i;
        distinct = no_repeats t i;
        found = found k n entry ends t i;
        every = λ r h. subst (λ m. Memᴰ r (records_from k n entry ends m i)) h.long (every k n entry ends r i h.letters h.stays h.passes);
        count = counted k n entry ends t i;
      }

-- ---- the records that begin a solution

module _ {Sol : Word → Type 0} {k n : ℕ} {entry : ℕ → ℕ → ℕ} {final : ℕ → ℕ} (A : IsTable Sol k n entry final) where
  stays-path : (r : List ℕ) (i : ℕ) → StaysBelow n entry i r → PathFrom entry i r
  stays-path [] i g = tt
  stays-path (a ∷ r) i g = (let l = ltb→lt (entry i a) n g.0 in λ e. omega (arith, l, e, A.room), stays-path r (entry i a) g.1)

  path-stays : (r : List ℕ) (i : ℕ) → i < n → AllBelow k r → PathFrom entry i r → StaysBelow n entry i r
  path-stays [] i h b p = tt
  path-stays (a ∷ r) i h b p = let e = (entry-state A i a h b.0 p.0).0 in (lt→ltb (entry i a) n e, path-stays r (entry i a) e b.1 p.1)

  -- A record that can be followed from the start of a table begins a solution, and each that begins one can be followed.
  pub record_begins : {passing : ℕ → Bool} {t : ℕ} {r : List ℕ} → IsRecordFrom k n entry passing t 0 r → Begins Sol k r
  record_begins {r = r} h = (path↔begins A r h.letters).0 (stays-path r 0 h.stays)

  pub begins_record : (passing : ℕ → Bool) (r : List ℕ) {t : ℕ} → AllBelow k r → Begins Sol k r → T (passing (walk entry 0 r)) → length r ≡ t → IsRecordFrom k n entry passing t 0 r
  begins_record passing r letters begins passes long =
      record { letters = letters; stays = path-stays r 0 A.some_state letters ((path↔begins A r letters).1 begins); passes = passes; long = long }

  -- ---- one letter more

  -- Every state has an entry, since some solution goes on there.
  way_on : (i : ℕ) → i < n → (a : ℕ) × (a < k) × (entry i a < n)
  way_on i h = let x = A.not_empty i h in (x.word 0, x.in_range 0, continuation_followed A i h x.word x.in_range x.continues 1)

  abbrev count : ℕ → ℕ → ℕ
  count t i = record_count_from k n entry any_state t i

  abbrev part : ℕ → ℕ → ℕ → ℕ
  part t i a = cond (ltb (entry i a) n) (count t (entry i a)) 0

  -- The records of one letter more from a state are no fewer.
  pub counts_rise : (t i : ℕ) → i < n → count t i ≤ count (suc t) i
  unfolding record_count_from
  counts_rise zero i h =
      let w = way_on i h in
      let one = sum-part k (part 0 i) w.0 w.1 in
      let here : part 0 i w.0 ≡ 1 = ap (λ b. cond b 1 0) (lt-ltb (entry i w.0) n w.2) in
      omega arith
  counts_rise (suc t) i h = sum_le k (part t i) (part (suc t) i) (λ a. by a (ltb (entry i a) n) refl (counts_rise t (entry i a)))
    where
      by : (a : ℕ) (b : Bool) → ltb (entry i a) n ≡ b → (entry i a < n → count t (entry i a) ≤ count (suc t) (entry i a)) → cond b (count t (entry i a)) 0 ≤ cond b (count (suc t) (entry i a)) 0
      by a true e again = again (ltb-true (entry i a) n e)
      by a false e again = omega arith
