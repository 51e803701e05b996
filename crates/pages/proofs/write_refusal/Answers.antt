-- The line stands at the front of the room (pages, Lines), and all of it is written.
use Rattle.std.proofs.Common.{ℕ, subst, arith}
use Rattle.std.proofs.lemmas.List.{length-replicate}
use Rattle.output.specs.Output.{Hands}
use Rattle.print.proofs.Lengths.{refusal-length}
use Rattle.pages.proofs.Lines.{front-text}
use Rattle.pages.proofs.write_refusal.Goals as goal

pub returns : goal.returns
returns g c =
    subst (λ l. Hands l c.write_front.result.size c.write_front.result.whole)
    (front-text c.refusal_line-size.ensures (omega (arith, refusal-length c.args.refusal (omega arith), length-replicate {A = ℕ} 32 0)))
    c.write_front.ensures.hands
