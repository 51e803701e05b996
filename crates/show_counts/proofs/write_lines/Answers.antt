-- The lines have room (counts_text, Lines), and all of them are written.
use Rattle.std.proofs.Common.{ℕ, min, length, subst, arith}
use Rattle.std.proofs.lemmas.List.{length-replicate}
use Rattle.output.specs.Output.{Hands}
use Rattle.counts_text.proofs.Lines.{listed-short}
use Rattle.pages.proofs.Lines.{front-text}
use Rattle.show_counts.proofs.write_lines.Goals as goal

pub returns : goal.returns
returns g c =
    let figures = c.args.figures.now in
    let finals = c.args.final_figures.now in
    subst (λ l. Hands l c.write_front.result.size c.write_front.result.whole)
    (front-text c.write_figures-size.ensures (omega (arith, listed-short figures finals (min (length figures) (length finals)), c.requires, length-replicate {A = ℕ} 4096 0)))
    c.write_front.ensures.hands
