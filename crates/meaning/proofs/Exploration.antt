-- The situations of a sheet can be found: from the situation of the empty record on, a list of situations that holds every successor of its
-- members holds every situation, and a list that does not hold them all can be made longer. So for every r there are at most r situations,
-- counted by a list, or more than r. From `successor` (proofs/Congruence) and the numbers of letters (proofs/Letter).
use Prim.Native.Nat.{ℕ, zero, suc, ◌+◌, ◌≤◌, ◌<◌}
use native.Mathlib.Omega.{arith}
use mathlib.Core.Path.{◌≡◌, refl, sym, ◌∙◌, ap, subst}
use mathlib.Core.Bool.{Bool, true, false, cond, Bool-discrete}
use mathlib.Core.HLevel.{Discrete}
use mathlib.Core.Logic.{◌⊎◌, inl, inr}
use mathlib.Core.List.Memᴰ
use mathlib.Core.List.{List, [], ◌∷◌, ◌++◌, append-nil, List-discrete, Memᴰ}
use mathlib.Core.Option.{Option, none, some}
use lib.Dec.{T}
use lib.ListN.{length}
use lib.Seq.{append_snoc}
use lib.IntN.{ℤ_discrete}
use Rattle.basics.proofs.Tests.{cond_true}
use Rattle.basics.specs.Count.{NoRepeats}
use Rattle.meaning.specs.Expression.{Constraint, Stream, Sheet}
use Rattle.meaning.specs.Letter.{Letter, Record, IsLetter, OfLetters, letter_count, letter_number, letter_of}
use Rattle.meaning.specs.Situation.{Situation, whole, cut, lawful, situation, IsSituation, SituationCount, MoreSituations}
use Rattle.meaning.specs.Evaluation.{successor}
use Rattle.meaning.proofs.Value.{Value-discrete}
use Rattle.meaning.proofs.Letter.{letter_of-letter, letter_number-bound, letter_of-letter_number}
use Rattle.meaning.proofs.Search.{search_list, search_below, member_decided}
use Rattle.meaning.proofs.Lawful.{whole_injective, cut_injective, whole≢cut, lawful-short, lawful-beginning}
use Rattle.meaning.proofs.Congruence.{successor-situation}

pub Situation-discrete : Discrete Situation
Situation-discrete (whole r) (whole s) = go (List-discrete (List-discrete ℤ_discrete) r s)
  where
    go : Dec (r ≡ s) → Dec (whole r ≡ whole s)
    go (yes e) = yes (ap whole e)
    go (no n) = no (λ e. n (whole_injective e))
Situation-discrete (whole r) (cut s y n) = no whole≢cut
Situation-discrete (cut r x m) (whole s) = no (λ e. whole≢cut (sym e))
Situation-discrete (cut r x m) (cut s y n) = go (List-discrete (List-discrete ℤ_discrete) r s) (List-discrete Value-discrete x y) (List-discrete Bool-discrete m n)
  where
    go : Dec (r ≡ s) → Dec (x ≡ y) → Dec (m ≡ n) → Dec (cut r x m ≡ cut s y n)
    go (yes e) (yes f) (yes g) = yes (λ i. cut (e i) (f i) (g i))
    go (yes e) (yes f) (no k) = no (λ h. k (cut_injective h).2)
    go (yes e) (no k) g = no (λ h. k (cut_injective h).1)
    go (no k) f g = no (λ h. k (cut_injective h).0)

some-of_cond : (b : Bool) (t u : Situation) → cond b (some t) none ≡ some u → T b × (t ≡ u)
some-of_cond true t u e = (tt, cc)
some-of_cond false t u e = let z : ◌≡◌ {A = ℕ} 0 1 = cc in absurd (omega arith)

OfLetters-snoc : (ss : List Stream) (r : Record) (l : Letter) → OfLetters ss r → IsLetter ss l → OfLetters ss (r ++ (l ∷ []))
OfLetters-snoc ss r l h i m k = go (Memᴰ.append_cases r k)
  where
    go : Memᴰ m r ⊎ Memᴰ m (l ∷ []) → IsLetter ss m
    go (inl k) = h m k
    go (inr k) = subst (IsLetter ss) (sym (Memᴰ.eq_of_singleton k)) i

module _ (s : Sheet) where
  abbrev ss : List Stream
  ss = s.streams

  abbrev cs : List Constraint
  cs = s.constraints

  -- The situation of the empty record.
  pub start-situation : IsSituation s (situation cs [])
  start-situation = record { lawful_record = []; letters = λ l m. absurd (Memᴰ.not-nil m); is_lawful = lawful-short cs [] (omega arith); same = refl }

  -- A successor of a situation by a letter is a situation.
  pub successor-found : (t u : Situation) → IsSituation s t → (a : ℕ) → a < letter_count ss → successor cs t (letter_of ss a) ≡ some u → IsSituation s u
  successor-found t u h a l e =
      let x = letter_of ss a in
      let p = some-of_cond (lawful cs (h.lawful_record ++ (x ∷ []))) (situation cs (h.lawful_record ++ (x ∷ []))) u
      (sym (successor-situation cs h.lawful_record x h.is_lawful) ∙ ap (λ z. successor cs z x) h.same ∙ e) in
      record { lawful_record = h.lawful_record ++ (x ∷ []); letters = OfLetters-snoc ss h.lawful_record x h.letters (letter_of-letter ss a l); is_lawful = p.0; same = p.1 }

  -- A list of situations, each once, that of the empty record among them.
  pub record AllReached (list : List Situation) : Type 0 where
    pub distinct : NoRepeats list
    pub found : (t : Situation) → Memᴰ t list → IsSituation s t
    pub start : Memᴰ (situation cs []) list

  -- Every successor of a member is a member.
  pub record Closed (list : List Situation) : Type 0 where
    pub holds : (t : Situation) → Memᴰ t list → (a : ℕ) → a < letter_count ss → (u : Situation)
        → successor cs t (letter_of ss a) ≡ some u → Memᴰ u list

  module _ (list : List Situation) (closed : Closed list) where
    -- From a record whose situation is in the list, letter by letter.
    reaches : (u r : Record) → OfLetters ss u → T (lawful cs (r ++ u)) → Memᴰ (situation cs r) list
        → Memᴰ (situation cs (r ++ u)) list
    reaches [] r o t m = rw append-nil m
    reaches (l ∷ u) r o t m =
        let i = o l (Memᴰ.head refl) in
        let t' : T (lawful cs ((r ++ (l ∷ [])) ++ u)) = rw append_snoc t in
        let t'' = lawful-beginning cs (r ++ (l ∷ [])) u t' in
        let e : successor cs (situation cs r) (letter_of ss (letter_number ss l)) ≡ some (situation cs (r ++ (l ∷ []))) =
        ap (successor cs (situation cs r)) (letter_of-letter_number i)
        ∙ successor-situation cs r l (lawful-beginning cs r (l ∷ u) t)
        ∙ cond_true (lawful cs (r ++ (l ∷ []))) _ _ t'' in
        let k = closed.holds (situation cs r) m (letter_number ss l) (letter_number-bound i) (situation cs (r ++ (l ∷ []))) e in
        rw append_snoc at (reaches u (r ++ (l ∷ [])) (λ x n. o x (Memᴰ.tail n)) t' k)

    -- A closed list that holds the situation of the empty record holds every situation.
    pub closed_every : Memᴰ (situation cs []) list → (t : Situation) → IsSituation s t → Memᴰ t list
    closed_every m t h = Memᴰ.cast (sym h.same) (reaches h.lawful_record [] h.letters h.is_lawful m)

    -- A closed list that has been explored counts the situations.
    pub closed_count : AllReached list → SituationCount s (length list)
    closed_count x = record { list = list; distinct = x.distinct; found = x.found; every = closed_every x.start; count = refl }

  -- Where the successor of t by the letter a is a situation that is not in the list, and where it is in the list if there is one.
  abbrev LeadsOut : List Situation → Situation → ℕ → Type 0
  LeadsOut list t a = (u : Situation) × (successor cs t (letter_of ss a) ≡ some u) × (Memᴰ u list → ⊥)

  abbrev StaysIn : List Situation → Situation → ℕ → Type 0
  StaysIn list t a = (u : Situation) → successor cs t (letter_of ss a) ≡ some u → Memᴰ u list

  tell : (list : List Situation) (t : Situation) (a : ℕ) → LeadsOut list t a ⊎ StaysIn list t a
  tell list t a = go (successor cs t (letter_of ss a))
    where
      go : (o : Option Situation) → ((u : Situation) × (o ≡ some u) × (Memᴰ u list → ⊥)) ⊎ ((u : Situation) → o ≡ some u → Memᴰ u list)
      go none = inr (λ u e. let z : ◌≡◌ {A = ℕ} 0 1 = cc in absurd (omega arith))
      go (some v) = elim (member_decided Situation-discrete v list) [ yes m ↦ inr (λ u e. let p : u ≡ v = cc in Memᴰ.cast p m) | no n ↦ inl (v, refl, n) ]

  -- A member and a letter that lead out of the list.
  record WayOut (list : List Situation) : Type 0 where
    old : Situation
    member : Memᴰ old list
    letter : ℕ
    below : letter < letter_count ss
    leads : LeadsOut list old letter

  search_round : (list : List Situation) → WayOut list ⊎ Closed list
  search_round list = go (search_list _ _ (λ t. search_below (LeadsOut list t) (StaysIn list t) (tell list t) (letter_count ss)) list)
    where
      go : ((t : Situation) × Memᴰ t list × ((a : ℕ) × (a < letter_count ss) × LeadsOut list t a))
          ⊎ ((t : Situation) → Memᴰ t list → (a : ℕ) → a < letter_count ss → StaysIn list t a) → WayOut list ⊎ Closed list
      go (inl f) = inl (record { old = f.0; member = f.1; letter = f.2.0; below = f.2.1; leads = f.2.2 })
      go (inr h) = inr (record { holds = h })

  grow : (list : List Situation) → AllReached list → (w : WayOut list) → AllReached (w.leads.0 ∷ list)
  grow list x w = record { distinct = (w.leads.2, x.distinct); found = found; start = Memᴰ.tail x.start }
    where
      found : (t : Situation) → Memᴰ t (w.leads.0 ∷ list) → IsSituation s t
      found t (Memᴰ.head e) = subst (IsSituation s) (sym e) (successor-found w.old w.leads.0 (x.found w.old w.member) w.letter w.below w.leads.1)
      found t (Memᴰ.tail m) = x.found t m

  -- At most r situations, counted, or more than r.
  abbrev pub CountedOrMore : ℕ → Type 0
  CountedOrMore r = ((m : ℕ) × (m ≤ r) × SituationCount s m) ⊎ MoreSituations s r

  explore : (r rounds : ℕ) (list : List Situation) → AllReached list → length list + rounds ≡ suc r → CountedOrMore r
  explore r zero list x e = inr (record { list = list; distinct = x.distinct; found = x.found; longer = omega arith })
  explore r (suc rounds) list x e = go (λ w. explore r rounds (w.leads.0 ∷ list) (grow list x w) (omega arith)) (search_round list)
    where
      go : (WayOut list → CountedOrMore r) → WayOut list ⊎ Closed list → CountedOrMore r
      go again (inl w) = again w
      go again (inr c) = inl (length list, omega arith, closed_count list c x)

  pub counted_or_more : (r : ℕ) → CountedOrMore r
  counted_or_more r = explore r r (situation cs [] ∷ []) (record { distinct = (Memᴰ.not-nil, tt); found = found; start = Memᴰ.head refl }) (omega arith)
    where
      found : (t : Situation) → Memᴰ t (situation cs [] ∷ []) → IsSituation s t
      found t m = subst (IsSituation s) (sym (Memᴰ.eq_of_singleton m)) start-situation
