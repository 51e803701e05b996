-- `show_join::show_tables` meets its contract: the rows lent for the joined letters fit the arrays, and what is written of the join is what the two tables print
-- (Printing).
use Prim.Native.Nat.{ℕ, ◌*◌, ◌≤◌}
use native.Mathlib.Omega.{arith}
use mathlib.Core.Path.{sym, subst}
use lib.Seq.{length-take-le}
use Rattle.std.proofs.lemmas.List.{length-replicate}
use Rattle.lend.proofs.Rows.{lent-entries}
use Rattle.show_join.proofs.Printing.{shown-tables}
use Rattle.show_join.proofs.show_tables.Goals as goal

pub returns : goal.returns
returns g c =
    let letters = c.join_streams-streams.result.letters in
    let fits : c.rows_lent-rows.result * letters ≤ 32768 = subst (λ n. n * letters ≤ 32768) (sym c.rows_lent-rows.ensures) (lent-entries letters) in
    shown-tables c.join_streams-streams.ensures c.rows_lent-rows.ensures _ _ (sym (length-take-le _ _ (omega (arith, fits, length-replicate {A = ℕ} 32768 0))))
    (sym (length-take-le _ _ (omega (arith, c.rows_lent-rows.ensures, length-replicate {A = ℕ} 256 0)))) c.join_in_rows-answer.ensures c.write_table.ensures
