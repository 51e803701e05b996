-- Prefixes that stand one before the other: from the summary of the part behind them comes, node by node, that of the part which they begin.
use Prim.Native.Nat.{ℕ, ◌+◌, ◌-◌, ◌≤◌, ◌<◌}
use native.Mathlib.Omega.{arith}
use native.Mathlib.Decide.{ℕ_discrete}
use native.Mathlib.Numerals.{add-one}
use mathlib.Core.Path.{◌≡◌, refl, sym, ◌∙◌, ap, ap₂, subst}
use mathlib.Core.Bool.{Bool, true, false, ◌&&◌, false≢true}
use mathlib.Core.List.{List}
use lib.Dec.{leb, ltb}
use lib.IntN.{ℤ}
use lib.ListN.{get_or}
use borrow.Author.Tests.{leb-true, ltb-true, ltb-false, le-leb, lt-leb}
use Rattle.nodes.specs.Evaluate.{Nodes, kind_of}
use Rattle.nodes.specs.Bounds.{summary_by_kind, summary_before}
use Rattle.nodes.specs.declared.Summary.{Summary}
use Rattle.nodes.proofs.Summing.{summary_before-node}
use Rattle.bounds.specs.Prefix.{is_prefix, prefix_summary, Prefixes, SummaryLeads}

-- ---- the test

pub leaf_no_prefix : (k : ℕ) → k < 2 → false ≡ is_prefix k
leaf_no_prefix k h = sym (simp (lt-leb 2 k h))

pub prefix-from_two : (k : ℕ) → 2 ≤ k → ltb k 5 ≡ is_prefix k
prefix-from_two k h = sym (simp (le-leb 2 k h))

module _ (k : ℕ) where
  -- A prefix is one of three kinds.
  prefix-within : is_prefix k ≡ true → (2 ≤ k) × (k < 5)
  prefix-within t = by (leb 2 k) refl (ltb k 5) refl t
    where
      by : (a : Bool) → leb 2 k ≡ a → (b : Bool) → ltb k 5 ≡ b → a && b ≡ true → (2 ≤ k) × (k < 5)
      by true p true q e = (leb-true 2 k p, ltb-true k 5 q)
      by true p false q e = absurd (false≢true e)
      by false p b q e = absurd (false≢true e)

  -- What is none, and no leaf, has two parts or more.
  pub behind_prefixes : is_prefix k ≡ false → 2 ≤ k → 5 ≤ k
  behind_prefixes t h = ltb-false k 5 (prefix-from_two k h ∙ t)

-- ---- nodes one before the other

pub prefixes_none : {kinds : List ℕ} {e : ℕ} → Prefixes kinds e e
prefixes_none = record { ends_within = omega arith; each = λ i l h. absurd (omega arith) }

module _ {kinds : List ℕ} {d e : ℕ} (s : Prefixes kinds d e) where
  -- One more at the front.
  pub prefixes_more : (d ≡ 0 → ⊥) → is_prefix (get_or kinds (d - 1) 0) ≡ true → Prefixes kinds (d - 1) e
  prefixes_more h t = record { ends_within = omega (arith, s.ends_within); each = λ i l r. by i l r (ℕ_discrete i (d - 1)) }
    where
      by : (i : ℕ) → d - 1 ≤ i → i < e → Dec (i ≡ d - 1) → is_prefix (get_or kinds i 0) ≡ true
      by i l r (yes q) = ap (λ j. is_prefix (get_or kinds j 0)) q ∙ t
      by i l r (no q) = s.each i (omega arith) r

-- One more at the end.
pub prefixes_last : {kinds : List ℕ} {d e : ℕ} → (e ≡ 0 → ⊥) → Prefixes kinds d (e - 1) → is_prefix (get_or kinds (e - 1) 0) ≡ true → Prefixes kinds d e
prefixes_last {kinds} {d} {e} h s t = record { ends_within = omega (arith, s.ends_within); each = λ i l r. by i l r (ℕ_discrete i (e - 1)) }
  where
    by : (i : ℕ) → d ≤ i → i < e → Dec (i ≡ e - 1) → is_prefix (get_or kinds i 0) ≡ true
    by i l r (yes q) = ap (λ j. is_prefix (get_or kinds j 0)) q ∙ t
    by i l r (no q) = s.each i l (omega arith)

-- ---- summaries

module _ (N : Nodes) (lows highs : List ℤ) (i : ℕ) where
  -- A prefix makes the summary of its part from that of the part behind it.
  made : (k : ℕ) → is_prefix k ≡ true → prefix_summary k (summary_before N lows highs i) ≡ summary_by_kind N lows highs (kind_of k) (summary_before N lows highs) i
  made k t = by (ℕ_discrete k 2) (ℕ_discrete k 3)
    where
      Same : ℕ → Type 0
      Same j = prefix_summary j (summary_before N lows highs i) ≡ summary_by_kind N lows highs (kind_of j) (summary_before N lows highs) i

      by : Dec (k ≡ 2) → Dec (k ≡ 3) → Same k
      by (yes two) e = subst Same (sym two) refl
      by (no f) (yes three) = subst Same (sym three) refl
      by (no f) (no g) = let w = prefix-within k t in let four : 4 ≡ k = omega arith in subst Same four refl

  pub prefix-made : is_prefix (get_or N.kinds i 0) ≡ true → prefix_summary (get_or N.kinds i 0) (summary_before N lows highs i) ≡ summary_before N lows highs (i + 1)
  prefix-made t = made (get_or N.kinds i 0) t ∙ sym (summary_before-node N lows highs i) ∙ ap (summary_before N lows highs) (sym (add-one i))

pub leads-none : {kinds : List ℕ} {d : ℕ} {a : Summary} → SummaryLeads kinds d a d a
leads-none = record { summary = λ N lows highs s r. r }

pub leads-more : {kinds : List ℕ} {d : ℕ} {a : Summary} (i : ℕ) {b : Summary} → SummaryLeads kinds d a i b → is_prefix (get_or kinds i 0) ≡ true
    → {c : Summary} → c ≡ prefix_summary (get_or kinds i 0) b → SummaryLeads kinds d a (i + 1) c
leads-more {kinds} i {b} m t q =
    record {
      summary = λ N lows highs s r.
          let k : get_or N.kinds i 0 ≡ get_or kinds i 0 = ap (λ (x : List ℕ). get_or x i 0) s in
          q ∙ ap₂ prefix_summary (sym k) (m.summary N lows highs s r) ∙ prefix-made N lows highs i (ap is_prefix k ∙ t);
    }
