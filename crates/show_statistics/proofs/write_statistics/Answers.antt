-- The lines have room in 256 bytes (statistics_text, Lines), and all of them are written.
use Rattle.std.proofs.Common.{ℕ, subst, arith}
use Rattle.std.proofs.lemmas.List.{length-replicate}
use Rattle.output.specs.Output.{Hands}
use Rattle.pages.proofs.Lines.{front-text}
use Rattle.statistics_text.proofs.Lines.{text-short}
use Rattle.show_statistics.proofs.write_statistics.Goals as goal

pub returns : goal.returns
returns g c =
    let w = c.well_formed in
    let short = text-short c.args.statistics (omega (arith, w)) (omega (arith, w)) (omega (arith, w)) (omega (arith, w)) (omega (arith, w)) (omega (arith, w)) (omega (arith, w)) in
    subst (λ l. Hands l c.write_front.result.size c.write_front.result.whole)
    (front-text c.fill-size.ensures (omega (arith, short, length-replicate {A = ℕ} 256 0)))
    c.write_front.ensures.hands
