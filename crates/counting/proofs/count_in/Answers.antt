-- `counting::count_in` meets its contract: the counts for no letter are those from which the figures are filled.
use Prim.Native.Nat.{◌*◌}
use native.Mathlib.Omega.{arith}
use mathlib.Core.Path.{sym, ◌∙◌, ap}
use Rattle.counting.proofs.count_in.Goals as goal

pub first_counts-requires : goal.first_counts-requires
first_counts-requires c = (c.requires.1, c.requires.2)

pub fill_figures-requires : goal.fill_figures-requires
fill_figures-requires c =
    let s = c in
    let whole = s.requires.0.whole in
    let rows = c.first_counts.auto.counts ∙ s.requires.1 in (
      record {
        some_row = omega (arith, rows, whole.some_row);
        few_rows = omega (arith, rows, whole.few_rows);
        whole_rows = whole.whole_rows ∙ ap (λ n. n * s.args.letters) (sym rows);
        same_rows = c.first_counts.auto.final_counts ∙ s.requires.2 ∙ sym rows;
      },
      s.requires.3,
      s.requires.4,
    )

pub returns : goal.returns
returns c =
    let a = c.args in
    let first = c.first_counts.ensures a.letters a.entries.now in
    let fill = c.fill_figures.ensures a.finals.now in
    (fill.0 first.0, fill.1 first.1)
