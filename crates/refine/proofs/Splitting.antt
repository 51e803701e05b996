-- One round of splitting: every row gets the first row with its signature. A row that is alone in its class keeps it; any other
-- is looked up in its bucket's chain, which holds every earlier row that begins a new class and is not alone in its old one.
use mathlib.Core.Path.{◌≡◌, refl, sym, ap, subst, ◌∙◌}
use mathlib.Core.Logic.{◌⊎◌, inl, inr, ◌≢◌}
use mathlib.Core.Bool.{Bool, true, false, not, ◌||◌}
use mathlib.Core.List.{List}
use Prim.Native.Nat.{ℕ, suc, ◌+◌, ◌-◌, ◌<◌, ◌≤◌}
use native.Mathlib.Nat.{mod-lt}
use native.Mathlib.Omega.{arith}
use native.Mathlib.Decide.{ℕ_discrete}
use lib.ListN.{length, get_or, set, length-set}
use lib.Dec.{eqb}
use borrow.Author.Tests.{eqb-true, eqb-false}
use lib.Seq.{get_or-set_same}
use Rattle.marks.specs.Marks.{Marked}
use Rattle.refine.specs.Signatures.{SameSignature, row_bucket}
use Rattle.refine.specs.Splitting.{OnChain, here, further, Falling, Joins, BeginsClass, Splits, Stays, IsFirst, IsSplit, ClassesMoved, Round}
use Rattle.refine.specs.Steps.{Splittable, IsSized}
use Rattle.basics.proofs.Lists.{below_set, set_other}
use Rattle.refine.proofs.Signatures.{signature_refl, signature_sym, signature_trans, bucket_same}
use Rattle.refine.proofs.Chains.{chain_below, chain_empty, chain_set, chain_unset, chain_rest, falling-set}

module _ {letters : ℕ} {entries class : List ℕ} where
  -- rows of one signature have the same first row
  pub first-same : {p q v w : ℕ} → IsFirst letters entries class p v → IsFirst letters entries class q w → SameSignature letters entries class p q → v ≡ w
  first-same {p} {q} {v} {w} f g s =
      let a : ¬ (v < w) = λ h. g.least (v - 1) (omega (arith, f.some)) (signature_trans f.same s) in
      let b : ¬ (w < v) = λ h. f.least (w - 1) (omega (arith, g.some)) (signature_trans g.same (signature_sym s)) in
      omega arith

-- after the first n rows, where `shared` was the list `next` before them
pub record Splitting (letters : ℕ) (entries class envelopes shared next heads links : List ℕ) (changed : Bool) (n : ℕ) : Type 0 where
  pub within : n ≤ length class
  pub next_fits : length next ≡ length class
  pub heads_fit : length heads ≡ length class
  pub links_fit : length links ≡ length class
  pub split : IsSplit letters entries class next n
  pub moved : ClassesMoved changed class next n
  pub kept : (i : ℕ) → n ≤ i → get_or next i 0 ≡ get_or shared i 0
  pub heads_most : (k : ℕ) → get_or heads k 0 ≤ n
  pub falling : Falling links
  -- a row in a chain begins a new class
  pub sound : (k i : ℕ) → OnChain links (get_or heads k 0) i → get_or next i 0 ≡ suc i
  -- every row that begins a new class, and is not alone in its old one, is in its bucket's chain
  pub complete : (i : ℕ) → i < n → 0 < get_or class i 0 → Marked shared (get_or class i 0 - 1) → get_or next i 0 ≡ suc i
      → OnChain links (get_or heads (row_bucket (length class) letters entries class envelopes i) 0) i

pub splitting_start : {letters : ℕ} {entries class envelopes next heads links : List ℕ} → IsSized letters entries class envelopes next heads links
    → Splitting letters entries class envelopes next next heads links false 0
splitting_start {letters} {entries} {class} {envelopes} {next} {heads} {links} z = record {
  within = omega arith;
  next_fits = z.next_fits;
  heads_fit = z.heads_fit;
  links_fit = z.links_fit;
  split = record { none = λ s h. absurd (omega arith); first = λ s h. absurd (omega arith) };
  moved = λ s h. absurd (omega arith);
  kept = λ i h. refl;
  heads_most = λ k. omega (arith, z.empty k);
  falling = z.falling;
  sound = λ k i d. absurd (chain_empty links (z.empty k) d);
  complete = λ i h. absurd (omega arith);
}

module _ {letters : ℕ} {entries class envelopes shared next heads links : List ℕ} {changed : Bool} {n : ℕ}
    (I : Splitting letters entries class envelopes shared next heads links changed n) (h : n < length class) where
  inside : n < length next
  inside = omega (arith, I.next_fits)

  pub splitting_splittable : {heads₀ links₀ : List ℕ} → IsSized letters entries class envelopes shared heads₀ links₀ → Splittable letters entries class envelopes heads links n
  splitting_splittable z = record {
    few = z.few;
    inside = h;
    entries_fit = z.entries_fit;
    envelopes_fit = z.envelopes_fit;
    enveloped = z.enveloped;
    heads_fit = I.heads_fit;
    links_fit = I.links_fit;
    heads_most = I.heads_most;
    falling = I.falling;
  }

  -- the classes after row n has got v

  split-more : (v : ℕ) → (get_or class n 0 ≡ 0 → v ≡ 0) → (0 < get_or class n 0 → IsFirst letters entries class n v) → IsSplit letters entries class (set next n v) (n + 1)
  split-more v a b = record {
    none = below_set (λ s c. get_or class s 0 ≡ 0 → c ≡ 0) next n v inside I.split.none a;
    first = below_set (λ s c. 0 < get_or class s 0 → IsFirst letters entries class s c) next n v inside I.split.first b;
  }

  pub moved_next : (v : ℕ) → ClassesMoved (changed || not (eqb v (get_or class n 0))) class (set next n v) (n + 1)
  moved_next v = go changed (eqb v (get_or class n 0)) I.moved (eqb-true v (get_or class n 0)) (eqb-false v (get_or class n 0))
    where
      go : (b e : Bool) → ClassesMoved b class next n → (e ≡ true → v ≡ get_or class n 0) → (e ≡ false → v ≢ get_or class n 0) → ClassesMoved (b || not e) class (set next n v) (n + 1)
      go true e m f g = (m.0, omega (arith, m.1), λ q. m.2 (sym (set_other next n v m.0 (omega (arith, m.1))) ∙ q))
      go false true m f g = below_set (λ s c. c ≡ get_or class s 0) next n v inside m (f refl)
      go false false m f g = (n, omega arith, λ q. g refl (sym (get_or-set_same next n v 0 inside) ∙ q))

  kept_more : (v i : ℕ) → n + 1 ≤ i → get_or (set next n v) i 0 ≡ get_or shared i 0
  kept_more v i l = set_other next n v i (omega arith) ∙ I.kept i (omega arith)

  -- the chains stay as they are, where row n begins no class or is alone in its class
  keep : (v : ℕ) (b : Bool) → (get_or class n 0 ≡ 0 → v ≡ 0) → (0 < get_or class n 0 → IsFirst letters entries class n v) → ClassesMoved b class (set next n v) (n + 1)
      → (0 < get_or class n 0 → Marked shared (get_or class n 0 - 1) → v ≢ suc n) → Splitting letters entries class envelopes shared (set next n v) heads links b (n + 1)
  keep v b a f m q = record {
    within = omega arith;
    next_fits = simp length-set I.next_fits;
    heads_fit = I.heads_fit;
    links_fit = I.links_fit;
    split = split-more v a f;
    moved = m;
    kept = kept_more v;
    heads_most = λ k. omega (arith, I.heads_most k);
    falling = I.falling;
    sound = λ k i d. set_other next n v i (omega (arith, chain_below links I.falling d, I.heads_most k)) ∙ I.sound k i d;
    complete = below_set (λ i c. 0 < get_or class i 0 → Marked shared (get_or class i 0 - 1) → c ≡ suc i → OnChain links (get_or heads (row_bucket (length class) letters entries class envelopes i) 0) i)
        next n v inside I.complete (λ p s e. absurd (q p s e));
  }

  -- row n keeps its class
  splitting_stays : {heads₀ links₀ : List ℕ} → IsSized letters entries class envelopes shared heads₀ links₀ → (v : ℕ) (heads' links' : List ℕ) (b : Bool) → Stays class (get_or next n 0) heads links heads' links' n v → ClassesMoved b class (set next n v) (n + 1)
      → Splitting letters entries class envelopes shared (set next n v) heads' links' b (n + 1)
  splitting_stays z v heads' links' b s m = rw (s.heads_kept, s.links_kept)
      (keep v b (λ e. s.kept ∙ e) first m (λ p q. absurd (not-shared p q)))
    where
      own : 0 < get_or class n 0 → get_or class n 0 ≡ suc n
      own p = (s.alone p).0

      not-shared : 0 < get_or class n 0 → ¬ Marked shared (get_or class n 0 - 1)
      not-shared p q = let e : get_or class n 0 - 1 ≡ n = omega (arith, own p) in (s.alone p).1 (I.kept n (omega arith) ∙ rw e at q)

      first : 0 < get_or class n 0 → IsFirst letters entries class n v
      first p = let e : v ≡ suc n = s.kept ∙ own p in let r : v - 1 ≡ n = omega arith in record {
        some = omega arith;
        low = omega arith;
        same = rw r signature_refl;
        least = λ j l q. omega (arith, q.here, own p, z.low j);
      }

  -- row n joins the class of an earlier row
  splitting_joins : (v : ℕ) (heads' links' : List ℕ) (b : Bool) → 0 < get_or class n 0 → Joins letters entries class envelopes heads links heads' links' n v → ClassesMoved b class (set next n v) (n + 1)
      → Splitting letters entries class envelopes shared (set next n v) heads' links' b (n + 1)
  splitting_joins v heads' links' b p s m = rw (s.heads_kept, s.links_kept) (keep v b (λ e. absurd (omega arith)) (λ q. first) m (λ q r e. omega (arith, below)))
    where
      k : ℕ
      k = row_bucket (length heads) letters entries class envelopes n

      below : v - 1 < n
      below = omega (arith, chain_below links I.falling s.on_chain, I.heads_most k)

      first : IsFirst letters entries class n v
      first =
          let o : get_or next (v - 1) 0 ≡ suc (v - 1) = I.sound k (v - 1) s.on_chain in
          let f = I.split.first (v - 1) below (rw s.same.here p) in
          record {
            some = s.some;
            low = omega (arith, below);
            same = s.same;
            least = λ j l q. f.least j (omega (arith, o)) (signature_trans q (signature_sym s.same));
          }

  -- row n begins a class
  splitting_begins : {heads₀ links₀ : List ℕ} → IsSized letters entries class envelopes shared heads₀ links₀ → (v : ℕ) (heads' links' : List ℕ) (b : Bool) → 0 < get_or class n 0 → (get_or class n 0 ≡ suc n → get_or next n 0 ≡ 1) → BeginsClass letters entries class envelopes heads links heads' links' n v → ClassesMoved b class (set next n v) (n + 1)
      → Splitting letters entries class envelopes shared (set next n v) heads' links' b (n + 1)
  splitting_begins z v heads' links' b p shares s m = rw (s.heads_changed, s.links_changed) (record {
    within = omega arith;
    next_fits = simp length-set I.next_fits;
    heads_fit = simp length-set I.heads_fit;
    links_fit = simp length-set I.links_fit;
    split = split-more v (λ e. absurd (omega arith)) (λ q. first);
    moved = m;
    kept = kept_more v;
    heads_most = heads_most;
    falling = falling-set links I.falling n (get_or heads k 0) (I.heads_most k) (omega (arith, I.links_fit));
    sound = sound;
    complete = below_set (λ i c. 0 < get_or class i 0 → Marked shared (get_or class i 0 - 1) → c ≡ suc i → OnChain links'' (get_or heads'' (row_bucket (length class) letters entries class envelopes i) 0) i)
        next n v inside (λ i hi q r e. old i hi (I.complete i hi q r e)) (λ q r e. new);
  })
    where
      -- the class of row n has another row
      sh : Marked shared (get_or class n 0 - 1)
      sh = elim (ℕ_discrete (get_or class n 0) (suc n)) [
        | yes q ↦ let e : get_or class n 0 - 1 ≡ n = omega arith in rw e (sym (I.kept n (omega arith)) ∙ shares q)
        | no q ↦ z.sharing n h p q
      ]

      k : ℕ
      k = row_bucket (length heads) letters entries class envelopes n

      heads'' : List ℕ
      heads'' = set heads k (suc n)

      links'' : List ℕ
      links'' = set links n (get_or heads k 0)

      k-inside : k < length heads
      k-inside = mod-lt _ (omega (arith, I.heads_fit))

      head_new : get_or heads'' k 0 ≡ suc n
      head_new = get_or-set_same heads k (suc n) 0 k-inside

      link_new : get_or links'' n 0 ≡ get_or heads k 0
      link_new = get_or-set_same links n (get_or heads k 0) 0 (omega (arith, I.links_fit))

      -- what the head of a bucket may be
      on_head : (P : ℕ → Type 0) (j : ℕ) → (j ≡ k → P (suc n)) → (j ≢ k → P (get_or heads j 0)) → P (get_or heads'' j 0)
      on_head P j f g = elim (ℕ_discrete j k) [ yes q ↦ rw (q, head_new) (f q) | no q ↦ rw (set_other heads k (suc n) j q) (g q) ]

      heads_most : (j : ℕ) → get_or heads'' j 0 ≤ n + 1
      heads_most j = on_head (λ x. x ≤ n + 1) j (λ q. omega arith) (λ q. omega (arith, I.heads_most j))

      -- the new chain of bucket k is row n and then the old one
      chain_old : (j i : ℕ) → OnChain links'' (get_or heads j 0) i → OnChain links (get_or heads j 0) i
      chain_old j i d = chain_unset links I.falling n (get_or heads k 0) (I.heads_most j) d

      old-next : (j i : ℕ) → OnChain links (get_or heads j 0) i → get_or (set next n v) i 0 ≡ suc i
      old-next j i d = set_other next n v i (omega (arith, chain_below links I.falling d, I.heads_most j)) ∙ I.sound j i d

      own-next : (i : ℕ) → i ≡ n → get_or (set next n v) i 0 ≡ suc i
      own-next i q = rw q (get_or-set_same next n v 0 inside ∙ s.own)

      sound : (j i : ℕ) → OnChain links'' (get_or heads'' j 0) i → get_or (set next n v) i 0 ≡ suc i
      sound j i = on_head (λ x. OnChain links'' x i → get_or (set next n v) i 0 ≡ suc i) j (λ q d. on_new_chain (chain_rest links'' n d)) (λ q d. old-next j i (chain_old j i d))
        where
          on_new_chain : (i ≡ n) ⊎ OnChain links'' (get_or links'' n 0) i → get_or (set next n v) i 0 ≡ suc i
          on_new_chain (inl q) = own-next i q
          on_new_chain (inr d) = old-next k i (chain_old k i (rw link_new at d))

      old : (i : ℕ) → i < n → OnChain links (get_or heads (row_bucket (length class) letters entries class envelopes i) 0) i → OnChain links'' (get_or heads'' (row_bucket (length class) letters entries class envelopes i) 0) i
      old i hi d = on_head (λ x. OnChain links'' x i) (row_bucket (length class) letters entries class envelopes i)
          (λ q. further n refl (rw link_new (chain_set links I.falling n (get_or heads k 0) (I.heads_most k) (rw q at d))))
          (λ q. chain_set links I.falling n (get_or heads k 0) (I.heads_most (row_bucket (length class) letters entries class envelopes i)) d)

      class_bucket : row_bucket (length class) letters entries class envelopes n ≡ k
      class_bucket = ap (λ x. row_bucket x letters entries class envelopes n) (sym I.heads_fit)

      new : OnChain links'' (get_or heads'' (row_bucket (length class) letters entries class envelopes n) 0) n
      new = here (ap (λ x. get_or heads'' x 0) class_bucket ∙ head_new)

      -- no earlier row has the signature of row n: the first row of its signature would stand in the chain
      earlier : (j : ℕ) → j < n → ¬ SameSignature letters entries class j n
      earlier j hj q =
          let f = I.split.first j hj (rw q.here p) in
          let i = get_or next j 0 - 1 in
          let hi : i < n = omega (arith, f.low, f.some) in
          let si : SameSignature letters entries class i n = signature_trans f.same q in
          let pi : 0 < get_or class i 0 = rw si.here p in
          let g = I.split.first i hi pi in
          let o : get_or next i 0 ≡ suc i = first-same g f f.same ∙ omega (arith, f.some) in
          let d = I.complete i hi pi (rw si.here sh) o in
          s.none i (subst (λ x. OnChain links (get_or heads x 0) i) (bucket_same z.enveloped (omega arith) h (length class) si ∙ class_bucket) d) si

      first : IsFirst letters entries class n v
      first = let e : v ≡ suc n = s.own in let r : v - 1 ≡ n = omega arith in record {
        some = omega arith;
        low = omega arith;
        same = rw r signature_refl;
        least = λ j l q. earlier j (omega arith) q;
      }

module _ {letters : ℕ} {entries class envelopes shared next heads links : List ℕ} {changed : Bool} {n : ℕ}
    (I : Splitting letters entries class envelopes shared next heads links changed n) (h : n < length class) where
  -- the next row
  pub splitting_next : {heads₀ links₀ : List ℕ} → IsSized letters entries class envelopes shared heads₀ links₀ → (v : ℕ) (heads' links' : List ℕ) (b : Bool)
      → Stays class (get_or next n 0) heads links heads' links' n v ⊎ Splits letters entries class envelopes (get_or next n 0) heads links heads' links' n v → ClassesMoved b class (set next n v) (n + 1)
      → Splitting letters entries class envelopes shared (set next n v) heads' links' b (n + 1)
  splitting_next z v heads' links' b (inl s) m = splitting_stays I h z v heads' links' b s m
  splitting_next z v heads' links' b (inr s) m = go s.way
    where
      go : Joins letters entries class envelopes heads links heads' links' n v ⊎ BeginsClass letters entries class envelopes heads links heads' links' n v → Splitting letters entries class envelopes shared (set next n v) heads' links' b (n + 1)
      go (inl j) = splitting_joins I h v heads' links' b s.some j m
      go (inr j) = splitting_begins I h z v heads' links' b s.some s.shares j m

pub splitting_round : {letters : ℕ} {entries class envelopes shared next heads links : List ℕ} {changed : Bool} {n : ℕ} → n ≡ length class → Splitting letters entries class envelopes shared next heads links changed n → Round letters entries class next changed
splitting_round {letters} {entries} {class} {envelopes} {shared} {next} {heads} {links} {changed} {n} e I = record { split = rw (← e) I.split; moved = rw (← e) I.moved }
