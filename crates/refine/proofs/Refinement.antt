-- Rounds of splitting: each keeps the classes named and rows that no record tells apart together; each that changes something
-- raises classes; and when none changes, rows of one class have one signature, so that no record tells them apart.
use mathlib.Core.Path.{◌≡◌, sym, subst, ◌∙◌}
use mathlib.Core.Logic.{◌⊎◌, inl, inr, ◌≢◌}
use mathlib.Core.Bool.{Bool, true, false}
use mathlib.Core.List.{List, [], ◌∷◌}
use Prim.Native.Nat.{ℕ, zero, suc, ◌+◌, ◌*◌, ◌-◌, ◌<◌, ◌≤◌}
use native.Mathlib.Nat.{not-suc-le-zero, le_of_suc-le-suc}
use native.Mathlib.Omega.{arith}
use native.Mathlib.Decide.{ℕ_discrete, dec_lt}
use lib.ListN.{length, get_or, get_or-eq_default}
use lib.Seq.{ext_get_or}
use Rattle.automaton.specs.Stored.{entry_at}
use Rattle.automaton.specs.Graph.{Graph, Member}
use Rattle.automaton.specs.Fixpoints.{Distinguished, swap, by_final, by_edge, by_letter, SameStep}
use Rattle.marks.specs.Marks.{Marked}
use Rattle.marks.proofs.Laws.{marked-inside}
use Rattle.marks.proofs.Tests.{marked-test, test-marked, unmarked_test}
use Rattle.marks.specs.Tests.{is_marked}
use Rattle.row_envelopes.specs.Envelopes.{Enveloped}
use Rattle.refine.specs.Classes.{edges, IsNamed, Refined}
use Rattle.refine.specs.Signatures.{class_after, SameSignature}
use Rattle.refine.specs.Splitting.{IsFirst, ClassesMoved, Round, Falling}
use Rattle.refine.specs.Steps.{ByFinals, Rounds, Roundable}
use Rattle.refine.proofs.Signatures.{signature_sym, signature_trans, enveloped-classes}
use Rattle.refine.proofs.Splitting.{first-same}

-- how far the classes are from n, all together
pub slack : ℕ → List ℕ → ℕ
slack n [] = 0
slack n (x ∷ xs) = (n - x) + slack n xs

slack_le : (n : ℕ) (c d : List ℕ) → length d ≡ length c → ((s : ℕ) → s < length c → get_or c s 0 ≤ get_or d s 0) → slack n d ≤ slack n c
unfolding slack
slack_le n [] [] e h = omega arith
slack_le n [] (y ∷ ys) e h = absurd (omega (arith, e))
slack_le n (x ∷ xs) [] e h = omega arith
slack_le n (x ∷ xs) (y ∷ ys) e h = omega (arith, slack_le n xs ys (omega (arith, e)) (λ s l. h (suc s) (omega arith)), h 0 (omega arith))

slack_lt : (n : ℕ) (c d : List ℕ) → length d ≡ length c → ((s : ℕ) → s < length c → get_or c s 0 ≤ get_or d s 0)
    → (j : ℕ) → j < length c → get_or c j 0 < get_or d j 0 → get_or d j 0 ≤ n → slack n d < slack n c
unfolding slack
slack_lt n [] d e h j l lt m = absurd (not-suc-le-zero l)
slack_lt n (x ∷ xs) [] e h j l lt m = absurd (omega (arith, e))
slack_lt n (x ∷ xs) (y ∷ ys) e h zero l lt m = omega (arith, slack_le n xs ys (omega (arith, e)) (λ s l. h (suc s) (omega arith)), lt, m)
slack_lt n (x ∷ xs) (y ∷ ys) e h (suc j) l lt m = omega (arith, slack_lt n xs ys (omega (arith, e)) (λ s l. h (suc s) (omega arith)) j (le_of_suc-le-suc l) lt m, h 0 (omega arith))

-- the first letter at which two rows have other classes, or none
differing : (f g : ℕ → ℕ) (n : ℕ) → ((a : ℕ) → a < n → f a ≡ g a) ⊎ ((a : ℕ) × (a < n) × (f a ≢ g a))
differing f g zero = inl λ a h. absurd (not-suc-le-zero h)
differing f g (suc n) = go (differing f g n) (ℕ_discrete (f n) (g n))
  where
    go : ((a : ℕ) → a < n → f a ≡ g a) ⊎ ((a : ℕ) × (a < n) × (f a ≢ g a)) → Dec (f n ≡ g n) → ((a : ℕ) → a < suc n → f a ≡ g a) ⊎ ((a : ℕ) × (a < suc n) × (f a ≢ g a))
    go (inr x) d = inr (x.0, omega (arith, x.1), x.2)
    go (inl x) (no q) = inr (n, omega arith, q)
    go (inl x) (yes q) = inl λ a h. elim (ℕ_discrete a n) [ yes r ↦ rw r q | no r ↦ x a (omega arith) ]

-- what holds between two rounds
pub record Classes (letters : ℕ) (entries live finals class : List ℕ) : Type 0 where
  pub same : length class ≡ length live
  pub named : IsNamed live class
  pub finals_alike : (s t : ℕ) → Marked live s → Marked live t → get_or class s 0 ≡ get_or class t 0 → Marked finals s → Marked finals t
  pub parted : (s t : ℕ) → Marked live s → Marked live t → get_or class s 0 ≢ get_or class t 0
      → Distinguished (edges letters entries (length live)) (is_marked live) (is_marked finals) s t

module _ {letters : ℕ} {entries live finals class : List ℕ} where
  pub classes_start : length class ≡ length live → ByFinals live finals class → Classes letters entries live finals class
  classes_start e b = record { same = e; named = b.named; finals_alike = b.finals_alike; parted = λ s t ms mt ne. go s t (b.parted s t ms mt ne) }
    where
      go : (s t : ℕ) → (Marked finals s × (¬ Marked finals t)) ⊎ (Marked finals t × (¬ Marked finals s)) → Distinguished (edges letters entries (length live)) (is_marked live) (is_marked finals) s t
      go s t (inl x) = by_final (marked-test finals s x.0) (unmarked_test finals t x.1)
      go s t (inr x) = swap (by_final (marked-test finals t x.0) (unmarked_test finals s x.1))

  module _ (C : Classes letters entries live finals class) where
    -- a row with a class is live, and lies among the rows
    pub class_lives : (s : ℕ) → 0 < get_or class s 0 → Marked live s
    class_lives s h = elim (ℕ_discrete (get_or live s 0) 1) [ yes m ↦ m | no m ↦ absurd (omega (arith, C.named.none s m)) ]

    member : (s : ℕ) → 0 < get_or class s 0 → Member (edges letters entries (length live)) (is_marked live) s
    member s h = let m = class_lives s h in record { inside = marked-inside live s m; holds = marked-test live s m }

    no_member : (s : ℕ) → get_or class s 0 ≡ 0 → ¬ Member (edges letters entries (length live)) (is_marked live) s
    no_member s e m = omega (arith, C.named.some s (test-marked live s m.holds))

    -- rows whose signatures differ are told apart
    signature_parted : (s t : ℕ) → Marked live s → Marked live t → ¬ SameSignature letters entries class s t → Distinguished (edges letters entries (length live)) (is_marked live) (is_marked finals) s t
    signature_parted s t ms mt ne = go (ℕ_discrete (get_or class s 0) (get_or class t 0)) (differing (class_after entries class (s * letters)) (class_after entries class (t * letters)) letters)
      where
        after : ℕ → ℕ → ℕ
        after u a = entry_at letters entries u a

        at_letter : (a : ℕ) → a < letters → class_after entries class (s * letters) a ≢ class_after entries class (t * letters) a
            → Dec (class_after entries class (s * letters) a ≡ 0) → Dec (class_after entries class (t * letters) a ≡ 0) → Distinguished (edges letters entries (length live)) (is_marked live) (is_marked finals) s t
        at_letter a h q (yes x) (yes y) = absurd (q (x ∙ sym y))
        at_letter a h q (yes x) (no y) = swap (by_edge a h (member (after t a) (omega arith)) (no_member (after s a) x))
        at_letter a h q (no x) (yes y) = by_edge a h (member (after s a) (omega arith)) (no_member (after t a) y)
        at_letter a h q (no x) (no y) = by_letter a h (member (after s a) (omega arith)) (member (after t a) (omega arith))
            (C.parted (after s a) (after t a) (class_lives (after s a) (omega arith)) (class_lives (after t a) (omega arith)) q)

        go : Dec (get_or class s 0 ≡ get_or class t 0) → ((a : ℕ) → a < letters → class_after entries class (s * letters) a ≡ class_after entries class (t * letters) a) ⊎ ((a : ℕ) × (a < letters) × (class_after entries class (s * letters) a ≢ class_after entries class (t * letters) a))
            → Distinguished (edges letters entries (length live)) (is_marked live) (is_marked finals) s t
        go (no q) d = C.parted s t ms mt q
        go (yes q) (inl x) = absurd (ne (record { here = q; after = x }))
        go (yes q) (inr x) = at_letter x.0 x.1 x.2 (ℕ_discrete (class_after entries class (s * letters) x.0) 0) (ℕ_discrete (class_after entries class (t * letters) x.0) 0)

module _ {letters : ℕ} {entries live finals class next : List ℕ} {changed : Bool} (C : Classes letters entries live finals class) (e : length next ≡ length class)
    (R : Round letters entries class next changed) where
  first : (s : ℕ) → Marked live s → IsFirst letters entries class s (get_or next s 0)
  first s m = R.split.first s (omega (arith, marked-inside live s m, C.same)) (C.named.some s m)

  none : (s : ℕ) → ¬ Marked live s → get_or next s 0 ≡ 0
  none s m = elim (dec_lt s (length class)) [ yes h ↦ R.split.none s h (C.named.none s m) | no h ↦ get_or-eq_default next 0 (omega arith) ]

  -- rows of one new class have one signature, and the other way round
  same_signature : (s t : ℕ) → Marked live s → Marked live t → get_or next s 0 ≡ get_or next t 0 → SameSignature letters entries class s t
  same_signature s t ms mt q = signature_trans (signature_sym (first s ms).same) (subst (λ x. SameSignature letters entries class (x - 1) t) (sym q) (first t mt).same)

  same_next : (s t : ℕ) → Marked live s → Marked live t → SameSignature letters entries class s t → get_or next s 0 ≡ get_or next t 0
  same_next s t ms mt = first-same (first s ms) (first t mt)

  -- the first row of a new class is live
  first_lives : (s : ℕ) → Marked live s → Marked live (get_or next s 0 - 1)
  first_lives s m = class_lives C (get_or next s 0 - 1) (rw (first s m).same.here (C.named.some s m))

  pub classes_round : Classes letters entries live finals next
  classes_round = record {
    same = e ∙ C.same;
    named = record {
      none = none;
      some = λ s m. (first s m).some;
      low = λ s. elim (ℕ_discrete (get_or live s 0) 1) [ yes m ↦ (first s m).low | no m ↦ omega (arith, none s m) ];
      name = λ s m. same_next (get_or next s 0 - 1) s (first_lives s m) m (first s m).same;
    };
    finals_alike = λ s t ms mt q. C.finals_alike s t ms mt (same_signature s t ms mt q).here;
    parted = λ s t ms mt q. signature_parted C s t ms mt λ z. q (same_next s t ms mt z);
  }

  -- classes only rise
  rises : (s : ℕ) → get_or class s 0 ≤ get_or next s 0
  rises s = elim (ℕ_discrete (get_or live s 0) 1) [
    | yes m ↦ let f = first s m in omega (arith, f.same.here, f.some, C.named.low (get_or next s 0 - 1))
    | no m ↦ omega (arith, C.named.none s m)
  ]

  pub round_rises : changed ≡ true → slack (length live) next < slack (length live) class
  round_rises q =
      let m : ClassesMoved true class next (length class) = rw q at R.moved in
      let s = m.0 in
      let ml : Marked live s = class_or_next s m.2 in
      slack_lt (length live) class next e (λ s h. rises s) s m.1 (omega (arith, rises s, m.2)) (omega (arith, (first s ml).low, marked-inside live s ml))
    where
      class_or_next : (s : ℕ) → get_or next s 0 ≢ get_or class s 0 → Marked live s
      class_or_next s ne = elim (ℕ_discrete (get_or live s 0) 1) [ yes m ↦ m | no m ↦ absurd (ne (none s m ∙ sym (C.named.none s m))) ]

  -- where nothing changed, the classes are those of the rows that no record tells apart
  pub round_refined : changed ≡ false → Refined letters entries live finals next
  round_refined q = record {
    named = classes_round.named;
    partition = record {
      reason = λ s t ms mt. reason s t (lives s ms) (lives t mt) (ℕ_discrete (get_or next s 0) (get_or next t 0));
      symmetric = λ s t ms mt z. sym z;
      finals = λ s t ms mt z f. marked-test finals t (classes_round.finals_alike s t (lives s ms) (lives t mt) z (test-marked finals s f));
      steps = λ s t a ms mt z h. step s t a (lives s ms) (lives t mt) z h;
    };
  }
    where
      G : Graph
      G = edges letters entries (length live)

      lives : (s : ℕ) → Member G (is_marked live) s → Marked live s
      lives s m = test-marked live s m.holds

      unmoved : (s : ℕ) → get_or next s 0 ≡ get_or class s 0
      unmoved s =
          let m : ClassesMoved false class next (length class) = rw q at R.moved in
          elim (dec_lt s (length class)) [ yes h ↦ m s h | no h ↦ get_or-eq_default next 0 (omega arith) ∙ sym (get_or-eq_default class 0 (omega arith)) ]

      reason : (s t : ℕ) → Marked live s → Marked live t → Dec (get_or next s 0 ≡ get_or next t 0) → (get_or next s 0 ≡ get_or next t 0) ⊎ Distinguished G (is_marked live) (is_marked finals) s t
      reason s t ms mt (yes z) = inl z
      reason s t ms mt (no z) = inr (classes_round.parted s t ms mt z)

      after : (s t a : ℕ) → Marked live s → Marked live t → get_or next s 0 ≡ get_or next t 0 → a < letters → get_or next (entry_at letters entries s a) 0 ≡ get_or next (entry_at letters entries t a) 0
      after s t a ms mt z h = unmoved (entry_at letters entries s a) ∙ ((same_signature s t ms mt z).after a h ∙ sym (unmoved (entry_at letters entries t a)))

      carried : (u v : ℕ) → get_or next u 0 ≡ get_or next v 0 → Member G (is_marked live) u → Member G (is_marked live) v
      carried u v z m = member classes_round v (omega (arith, classes_round.named.some u (lives u m)))

      step : (s t a : ℕ) → Marked live s → Marked live t → get_or next s 0 ≡ get_or next t 0 → a < letters → SameStep G (is_marked live) (λ s t. get_or next s 0 ≡ get_or next t 0) s t a
      step s t a ms mt z h = record {
        to = carried (entry_at letters entries s a) (entry_at letters entries t a) (after s t a ms mt z h);
        from = carried (entry_at letters entries t a) (entry_at letters entries s a) (sym (after s t a ms mt z h));
        step = λ m. after s t a ms mt z h;
      }

  -- and they were so before that round
  pub round_refined_before : changed ≡ false → Refined letters entries live finals class
  round_refined_before q = subst (λ x. Refined letters entries live finals x) still (round_refined q)
    where
      still : next ≡ class
      still =
          let m : ClassesMoved false class next (length class) = rw q at R.moved in
          ext_get_or 0 next class e λ s h. m s (omega (arith, e))

-- the lists between two rounds
pub record Going (letters : ℕ) (entries live finals envelopes class next heads links : List ℕ) : Type 0 where
  pub classes : Classes letters entries live finals class
  pub envelopes_fit : length envelopes ≡ length live
  pub enveloped : Enveloped letters entries live envelopes (length live)
  pub next_fits : length next ≡ length live
  pub heads_fit : length heads ≡ length live
  pub links_fit : length links ≡ length live
  pub falling : Falling links

module _ {letters : ℕ} {entries live finals envelopes class next heads links : List ℕ} (z : Roundable letters entries live finals envelopes class next heads links) where
  pub going_start : (class' links' : List ℕ) → length class' ≡ length class → length links' ≡ length links → ((s : ℕ) → get_or links' s 0 ≡ 0) → ByFinals live finals class'
      → Going letters entries live finals envelopes class' next heads links'
  going_start class' links' e f cleared b = record {
    classes = classes_start (e ∙ z.sizes.class_fits) b;
    envelopes_fit = z.sizes.envelopes_fit;
    enveloped = z.enveloped;
    next_fits = z.sizes.next_fits;
    heads_fit = z.sizes.heads_fit;
    links_fit = f ∙ z.sizes.links_fit;
    falling = λ s. omega (arith, cleared s);
  }

module _ {letters : ℕ} {entries live finals envelopes class next heads links : List ℕ} (I : Going letters entries live finals envelopes class next heads links) where
  pub going_ready : length live < 65536 → length live * letters ≤ length entries → Rounds letters entries class envelopes next heads links
  going_ready few fits = record {
    few = rw I.classes.same few;
    entries_fit = rw I.classes.same fits;
    envelopes_fit = I.envelopes_fit ∙ sym I.classes.same;
    enveloped = enveloped-classes I.classes.same I.classes.named I.enveloped;
    next_fits = I.next_fits ∙ sym I.classes.same;
    heads_fit = I.heads_fit ∙ sym I.classes.same;
    links_fit = I.links_fit ∙ sym I.classes.same;
    low = I.classes.named.low;
    falling = I.falling;
  }

  pub next_same : length next ≡ length class
  next_same = I.next_fits ∙ sym I.classes.same

  -- the round puts the new classes into `next`; the lists `class` and `next` change places
  pub going_next : {next' heads' links' : List ℕ} {changed : Bool} → length next' ≡ length next → length heads' ≡ length heads → length links' ≡ length links
      → Round letters entries class next' changed → Falling links' → Going letters entries live finals envelopes next' class heads' links'
  going_next b d e r g = record {
    classes = classes_round I.classes (b ∙ next_same) r;
    envelopes_fit = I.envelopes_fit;
    enveloped = I.enveloped;
    next_fits = I.classes.same;
    heads_fit = d ∙ I.heads_fit;
    links_fit = e ∙ I.links_fit;
    falling = g;
  }
