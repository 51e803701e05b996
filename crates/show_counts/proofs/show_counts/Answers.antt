-- What is printed of the refusal or of the figures that were found (Printing).
use Rattle.std.proofs.Common.{◌+◌, min, ◌∙◌, ap}
use Rattle.show_counts.proofs.Printing.{figures-shown}
use Rattle.show_counts.proofs.show_counts.Goals as goal

pub returns : goal.returns
returns g c =
    let found = c.find_figures-refusal in
    record {
      bytes = _;
      prints = figures-shown _ c.args.number _ _ found.ensures c.if-refusal-ne0.false found.auto.figures found.auto.final_figures (ap (λ n. n + 1) (c.min-count.ensures ∙ ap (λ v. min v 64) c.unwrap_or.ensures));
      hands = c.write_lines.ensures;
    }
