-- The ranges cut to the streams are numbers of the machine, so that each line has room (Pages), and what is handed over is the text of all lines.
use Prim.Native.Nat.{ℕ, min}
use native.Mathlib.Omega.{arith}
use mathlib.Core.Path.{subst}
use mathlib.Core.List.{List}
use lib.ListN.{length, replicate}
use Rattle.std.proofs.lemmas.List.{length-replicate}
use Rattle.pages.specs.Lines.{line_room, HandsFitting}
use Rattle.pages.specs.Output.{output_at, places_of}
use Rattle.pages.proofs.Fitting.{hands_all}
use Rattle.table_pages.proofs.Pages.{cut_to, lines-short}
use Rattle.table_pages.proofs.write_pages.Goals as goal

pub returns : goal.returns
returns g c =
    let a = c.args in
    let r = c.write_pages.result in
    let short = lines-short a.streams {refusal = 0} a.states a.entries.now a.finals.now c.requires.0 (omega arith) (λ i. omega (arith, c.type_inv.entries i)) (λ i. omega (arith, c.type_inv.finals i)) c.requires.1 in
    let cut = cut_to a.streams a.states a.entries.now a.finals.now in
    let page : List ℕ = replicate 65536 0 in
    hands_all page (omega (arith, length-replicate {A = ℕ} 65536 0)) short
    (subst (λ n. HandsFitting (output_at (cut n)) (places_of (cut n)) (min (length page) line_room) r.size r.whole) c.min-count.ensures c.write_pages.ensures)
