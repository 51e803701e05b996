-- `show_strategy::show_strategy` meets its contract: the rows lent fit the arrays, the sheet that was read has ranges of the machine, and what is printed is what the
-- text prints (Printing).
use Prim.Native.Nat.{ℕ, ◌*◌, ◌≤◌}
use native.Mathlib.Omega.{arith}
use mathlib.Core.Path.{sym, ◌∙◌, subst}
use lib.Seq.{length-take-le}
use Rattle.std.proofs.lemmas.List.{length-replicate}
use Rattle.lend.proofs.Rows.{lent-entries}
use Rattle.choices.specs.Counted.{ChoicesCounted}
use Rattle.stored_ranges.proofs.Ranges.{read_ranges}
use Rattle.show_strategy.proofs.Printing.{shown_strategy}
use Rattle.show_strategy.proofs.show_strategy.Goals as goal

pub show_in_rows-requires : goal.show_in_rows-requires
show_in_rows-requires g c =
    let letters = c.read-reading.result.sheet.letters in
    let fits : c.rows_lent-rows.result * letters ≤ 32768 = subst (λ n. n * letters ≤ 32768) (sym c.rows_lent-rows.ensures) (lent-entries letters) in (
      read_ranges _ c.read-reading.ensures,
      omega (arith, c.rows_lent-rows.ensures),
      subst (λ n. n ≤ 32768) (sym (length-take-le _ _ (omega (arith, fits, length-replicate {A = ℕ} 32768 0)))) fits,
      subst (λ n. n ≤ 32768) (sym (length-take-le _ _ (omega (arith, c.min-play_room.ensures, length-replicate {A = ℕ} 32768 0)))) (omega (arith, c.min-play_room.ensures)),
    )

pub returns : goal.returns
returns g c =
    let letters = c.read-reading.result.sheet.letters in
    let fits : c.rows_lent-rows.result * letters ≤ 32768 = subst (λ n. n * letters ≤ 32768) (sym c.rows_lent-rows.ensures) (lent-entries letters) in
    shown_strategy _ c.read-reading.ensures c.rows_lent-rows.ensures (subst (λ s. ChoicesCounted s c.choice_count-choices.result) c.stored_streams.ensures c.choice_count-choices.ensures)
    (length-take-le _ _ (omega (arith, fits, length-replicate {A = ℕ} 32768 0)))
    (length-take-le _ _ (omega (arith, c.rows_lent-rows.ensures, length-replicate {A = ℕ} 256 0)))
    (length-take-le _ _ (omega (arith, c.min-play_room.ensures, length-replicate {A = ℕ} 32768 0)) ∙ c.min-play_room.ensures) c.show_in_rows.ensures
