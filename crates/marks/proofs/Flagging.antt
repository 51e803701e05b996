-- Clearing the marks of rows that are not flagged, row after row. From the definitions of marks.
use mathlib.Core.Path.{◌≡◌, refl, ◌∙◌}
use mathlib.Core.List.{List}
use Prim.Native.Nat.{ℕ, ◌+◌, ◌<◌, ◌≤◌}
use native.Mathlib.Omega.{arith}
use native.Mathlib.Decide.{ℕ_discrete, dec_lt}
use lib.ListN.{get_or, length, set, length-set, get_or-eq_default}
use Rattle.basics.proofs.Lists.{below_set, set_other}
use Rattle.marks.specs.Marks.{Marked, IsFlagged}

-- the marks of the first n rows are kept where the row is flagged
pub record Flagging (flags old new : List ℕ) (n : ℕ) : Type 0 where
  pub same : length new ≡ length old
  pub kept : (s : ℕ) → s < n → Marked flags s → get_or new s 0 ≡ get_or old s 0
  pub cleared : (s : ℕ) → s < n → ¬ Marked flags s → get_or new s 0 ≡ 0
  pub beyond : (s : ℕ) → n ≤ s → get_or new s 0 ≡ get_or old s 0

pub flagging_start : (flags marks : List ℕ) → Flagging flags marks marks 0
flagging_start flags marks = record { same = refl; kept = λ s h f. refl; cleared = λ s h n. absurd (omega arith); beyond = λ s h. refl }

pub flagging_keep : {flags old new : List ℕ} {n : ℕ} → Marked flags n → Flagging flags old new n → Flagging flags old new (n + 1)
flagging_keep {flags} {old} {new} {n} f I = record {
  same = I.same;
  kept = λ s h m. elim (ℕ_discrete s n) [ yes q ↦ I.beyond s (omega arith) | no q ↦ I.kept s (omega arith) m ];
  cleared = λ s h m. elim (ℕ_discrete s n) [ yes q ↦ absurd (m (rw q f)) | no q ↦ I.cleared s (omega arith) m ];
  beyond = λ s h. I.beyond s (omega arith);
}

pub flagging_clear : {flags old new : List ℕ} {n : ℕ} → n < length new → ¬ Marked flags n → Flagging flags old new n → Flagging flags old (set new n 0) (n + 1)
flagging_clear {flags} {old} {new} {n} h f I = record {
  same = simp length-set I.same;
  kept = below_set (λ s x. Marked flags s → x ≡ get_or old s 0) new n 0 h I.kept (λ m. absurd (f m));
  cleared = below_set (λ s x. ¬ Marked flags s → x ≡ 0) new n 0 h I.cleared (λ m. refl);
  beyond = λ s h. set_other new n 0 s (omega arith) ∙ I.beyond s (omega arith);
}

pub flagging_end : {flags old new : List ℕ} {n : ℕ} → length new ≤ n → Flagging flags old new n → IsFlagged flags old new
flagging_end {flags} {old} {new} {n} h I = record {
  kept = λ s m. elim (dec_lt s n) [ yes l ↦ I.kept s l m | no l ↦ I.beyond s (omega arith) ];
  cleared = λ s m. elim (dec_lt s n) [ yes l ↦ I.cleared s l m | no l ↦ get_or-eq_default new 0 (omega arith) ];
}
