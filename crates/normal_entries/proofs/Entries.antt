-- Entries in tables: what the loops over entries and spans leave, and what the entries read.
use Prim.Native.Nat.{ℕ, zero, suc, ◌+◌, ◌-◌, ◌*◌, ◌≤◌, ◌<◌}
use native.Mathlib.Omega.{arith}
use mathlib.Core.Path.{◌≡◌, refl, sym, ◌∙◌, ap, ap₂}
use mathlib.Core.Bool.{Bool, true, false, cond, ◌&&◌, ◌||◌}
use mathlib.Core.List.{List, [], ◌∷◌, ◌++◌, append_assoc}
use lib.Dec.{eqb, ltb}
use lib.IntN.{ℤ, pos}
use lib.ListN.{length, get_or, set, take, drop, length-append}
use lib.Seq.{sets, take-suc, take-suc-set, take-length, take_all, drop-drop}
use borrow.Rule.Slice.PartMut.{put_mid}
use Rattle.std.proofs.lemmas.List.Edits.{sets-eq}
use borrow.Author.Tests.{eq-eqb, ne_eqb, lt-ltb, le-ltb}
use Rattle.spans.specs.Stored.{span_bound}
use Rattle.normal_entries.specs.Entries.{row_bound, spans_from, with_spans, blank, row_in, stored_place, stored_span, stored_entry, listed}
use Rattle.normal_entries.specs.Fields.{replaces_in, entry_with}
use Rattle.normal_entries.specs.declared.Entry.{Entry}

module _ (numbers : List ℕ) (ends : List ℤ) (i : ℕ) where
  abbrev pub read : Entry
  read = entry_with (stored_span numbers) (row_in numbers i) (get_or ends (i * 2) (pos 0)) (get_or ends (i * 2 + 1) (pos 0))

  pub entry-beyond : row_bound ≤ i → blank ≡ stored_entry numbers ends i
  unfolding stored_entry
  entry-beyond h = sym (simp (le-ltb i row_bound h))

  pub entry-within : i < row_bound → read ≡ stored_entry numbers ends i
  unfolding stored_entry
  entry-within h = sym (simp (lt-ltb i row_bound h))

-- ---- the list after the loop

module _ (f : ℕ → Entry) where
  -- One entry more.
  pub listed_more : (ys : List Entry) (i : ℕ) (r : Entry) → i < length ys → take i ys ≡ listed f i → r ≡ f i → take (suc i) (set ys i r) ≡ listed f (suc i)
  unfolding listed
  listed_more ys i r h p e = take-suc-set ys i r h ∙ (λ j. p j ++ (e j ∷ []))

  pub listed-whole : {n : ℕ} (ys : List Entry) → length ys ≡ n → take n ys ≡ listed f n → ys ≡ listed f n
  listed-whole ys e p = sym (ap (λ k. take k ys) (sym e) ∙ take-length ys) ∙ p

-- ---- spans

pub length-listed : {X : Type 0} (f : ℕ → X) (n : ℕ) → length (listed f n) ≡ n
unfolding listed
length-listed f zero = refl
length-listed f (suc n) = let h = length-listed f n in length-append (listed f n) (f n ∷ []) ∙ omega arith

listed-taken : (l : List ℕ) (n : ℕ) → n ≤ length l → listed (λ k. get_or l k 0) n ≡ take n l
unfolding listed
listed-taken l zero h = refl
listed-taken l (suc n) h = ap (λ m. m ++ (get_or l n 0 ∷ [])) (listed-taken l n (omega arith)) ∙ sym (take-suc l n 0 h)

-- The spans copied into the part of a list behind the entries.
pub spans-copied : (numbers spans : List ℕ) {new : List ℕ} → new ≡ spans → length spans ≡ 2048 → length numbers ≡ 30944 → put_mid spans_from 2048 numbers new ≡ with_spans numbers spans
unfolding with_spans
spans-copied numbers spans {new} e s h =
    let all : listed (λ k. get_or spans k 0) 2048 ≡ spans = listed-taken spans 2048 (omega arith) ∙ take_all 2048 spans (omega arith) in
    ap₂ (λ m w. put_mid spans_from m numbers w) (sym s) e
    ∙ ap (λ t. take spans_from numbers ++ (spans ++ t)) (drop-drop (length spans) spans_from numbers)
    ∙ sym (append_assoc (take spans_from numbers) spans (drop (spans_from + length spans) numbers)) ∙ sym (sets-eq spans numbers spans_from (omega arith)) ∙ ap (sets numbers spans_from) (sym all)

module _ (numbers : List ℕ) (which : ℕ) where
  pub place_none : {e : ℕ} → e ≡ 0 → 0 ≡ stored_place numbers which e
  unfolding stored_place
  place_none p = sym (ap (stored_place numbers which) p)

  pub place-beyond : (e : ℕ) → (e ≡ 0 → ⊥) → span_bound ≤ e - 1 → 0 ≡ stored_place numbers which e
  unfolding stored_place
  place-beyond zero n h = absurd (n refl)
  place-beyond (suc i) n h = sym (ap (λ b. cond b (get_or numbers (spans_from + i * 2 + which) 0) 0) (le-ltb i span_bound (omega arith)))

  pub place_within : (e : ℕ) → (e ≡ 0 → ⊥) → e - 1 < span_bound → get_or numbers (spans_from + (e - 1) * 2 + which) 0 ≡ stored_place numbers which e
  unfolding stored_place
  place_within zero n h = absurd (n refl)
  place_within (suc i) n h =
      let q : suc i - 1 ≡ i = omega arith in
      ap (λ k. get_or numbers (spans_from + k * 2 + which) 0) q ∙ sym (ap (λ b. cond b (get_or numbers (spans_from + i * 2 + which) 0) 0) (lt-ltb i span_bound (omega arith)))

-- ---- the fields that depend on the kind

module _ (kind left right : ℕ) where
  pub replaces_first : kind ≡ 5 → 1 ≡ replaces_in kind left right
  replaces_first h = sym (ap (λ b. cond (b || (eqb kind 4 && ltb left right)) 1 0) (eq-eqb kind 5 h))

  module _ (n : kind ≡ 5 → ⊥) where
    not_first : replaces_in kind left right ≡ cond (eqb kind 4 && ltb left right) 1 0
    not_first = ap (λ b. cond (b || (eqb kind 4 && ltb left right)) 1 0) (ne_eqb kind 5 n)

    pub replaces_none : (kind ≡ 4 → ⊥) → 0 ≡ replaces_in kind left right
    replaces_none h = sym (not_first ∙ ap (λ b. cond (b && ltb left right) 1 0) (ne_eqb kind 4 h))

    module _ (h : kind ≡ 4) where
      by_order : (b : Bool) → ltb left right ≡ b → cond b 1 0 ≡ replaces_in kind left right
      by_order b e = sym (not_first ∙ (λ i. cond (eq-eqb kind 4 h i && e i) 1 0))

      pub replaces_next : left < right → 1 ≡ replaces_in kind left right
      replaces_next l = by_order true (lt-ltb left right l)

      pub replaces_right : right ≤ left → 0 ≡ replaces_in kind left right
      replaces_right l = by_order false (le-ltb left right l)
