-- The ranges cut to the streams are numbers of the machine, so that each line has room (Pages), and what is handed over is the text of all lines.
use Prim.Native.Nat.{ℕ}
use native.Mathlib.Omega.{arith}
use mathlib.Core.Path.{subst}
use lib.ListN.{replicate}
use Rattle.std.proofs.lemmas.List.{length-replicate}
use Rattle.output.specs.Output.{Hands}
use Rattle.pages.proofs.Fitting.{hands_all}
use Rattle.play_text.specs.Output.{play_output}
use Rattle.show_strategy.proofs.Pages.{cut_to, lines-short}
use Rattle.show_strategy.proofs.write_pages.Goals as goal

pub returns : goal.returns
returns g c =
    let a = c.args in
    let r = c.write_pages.result in
    let short = lines-short {stored = a.sheet} {refusal = a.refusal} a.states a.choices a.entries.now a.finals.now a.play.now c.min-streams.result c.requires.0 (omega arith) (λ i. omega (arith, c.type_inv.entries i)) (λ i. omega (arith, c.type_inv.finals i)) c.requires.1 in
    let hands = hands_all (replicate 65536 0) (omega (arith, length-replicate {A = ℕ} 65536 0)) short c.write_pages.ensures in
    subst (λ n. Hands (play_output (cut_to a.sheet a.refusal a.states a.choices a.entries.now a.finals.now a.play.now n)) r.size r.whole) c.min-streams.ensures hands
