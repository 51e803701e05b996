-- `lend::compile_parts` meets its contract: the rows lent fit the tables, and behind them the tables were cleared before the call (Room).
use Prim.Native.Nat.{◌*◌, ◌≤◌}
use native.Mathlib.Omega.{arith}
use mathlib.Core.Path.{◌≡◌, sym, subst}
use borrow.Author.Rules.{rules}
use lib.ListN.{length, take}
use lib.Seq.{length-take-le}
use Rattle.lend.proofs.Rows.{lent-entries}
use Rattle.lend.proofs.Room.{parts-lent}
use Rattle.lend.proofs.compile_parts.Goals as goal

pub overflow_mul-room : goal.overflow_mul-room
overflow_mul-room c =
    let fits : c.rows_lent-rows.result * c.args.letters ≤ 32768 = subst (λ n. n * c.args.letters ≤ 32768) (sym c.rows_lent-rows.ensures) (lent-entries c.args.letters) in
    omega arith

pub returns : goal.returns
returns c =
    let fits : c.rows_lent-rows.result * c.args.letters ≤ 32768 = subst (λ n. n * c.args.letters ≤ 32768) (sym c.rows_lent-rows.ensures) (lent-entries c.args.letters) in
    let entries : c.rows_lent-rows.result * c.args.letters ≡ length (take (c.rows_lent-rows.result * c.args.letters) c.clear_from.new.list) = sym (length-take-le _ _ (omega (arith, fits, c.clear_from.auto.list, c.requires.0))) in
    let finals : c.rows_lent-rows.result ≡ length (take c.rows_lent-rows.result c.clear_from-2.new.list) = sym (length-take-le _ _ (search rules)) in
    parts-lent c.args.letters c.rows_lent-rows.ensures c.requires.0 c.requires.1 c.clear_from.ensures c.clear_from-2.ensures entries finals c.compile_in_rows.auto.entries c.compile_in_rows.auto.finals c.compile_in_rows.ensures
