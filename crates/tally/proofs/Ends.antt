-- The end of a record: a line that is begun ends with it, by one byte 10 more; and what is given and left then. From the definitions.
use Prim.Native.Nat.{ℕ}
use mathlib.Core.Path.{◌≡◌, refl, sym, ◌∙◌, ap, ap₂}
use mathlib.Core.Bool.{true, false, cond}
use mathlib.Core.List.{List, [], ◌∷◌}
use Rattle.text.specs.Fold.{run_bytes}
use Rattle.record_lines.proofs.Runs.{text-end}
use Rattle.tally.specs.declared.TallyStage.{TallyStage}
use Rattle.tally.specs.declared.Tally.{Tally}
use Rattle.tally.specs.declared.LineCounts.{LineCounts}
use Rattle.tally.specs.Machine.{CountedSheet, Counting, counting, counts_answer, counts_left, byte_counted, line_counted, count_byte, last_counted, FinishesTally}

module _ (s : CountedSheet) where
  pub no_last_line : (c : Counting) → c.tally.begun ≡ false → last_counted s c ≡ c
  unfolding last_counted
  no_last_line c e = ap (λ t. cond t (line_counted s c) c) e

  pub last-line-ends : (c : Counting) → c.tally.begun ≡ true → last_counted s c ≡ run_bytes (count_byte s) c (10 ∷ [])
  unfolding last_counted count_byte
  last-line-ends c e = ap (λ t. cond t (line_counted s c) c) e ∙ sym (text-end (byte_counted s) (line_counted s) c 10 refl)

  module _ (tally : Tally) (counts : List ℕ) {ended : Tally} {counts₁ : List ℕ} (e : counting ended counts₁ ≡ last_counted s (counting tally counts)) {stage : TallyStage} (k : ended.stage ≡ stage) where
    last_stage : stage ≡ (last_counted s (counting tally counts)).tally.stage
    last_stage = sym k ∙ ap (λ c. c.tally.stage) e

    pub record_ends : {counts' : List ℕ} {r : LineCounts} → r ≡ counts_answer stage → counts' ≡ counts_left stage counts₁ → FinishesTally s tally counts counts' r
    record_ends a l = record { answer = a ∙ ap counts_answer last_stage; left = l ∙ ap₂ counts_left last_stage (ap (λ c. c.counts) e) }
