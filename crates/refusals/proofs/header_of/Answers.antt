-- `refusals::header_of` meets its contract: each line is found where the one before it ends, the names line behind a release line.
use mathlib.Core.Path.{sym, ap, ◌∙◌}
use mathlib.Core.Bool.{◌&&◌}
use lib.Dec.{ltb}
use lib.ListN.{length}
use Rattle.scan.proofs.Lines.{line-within}
use Rattle.refusals.proofs.Lines.{names-lines, header_lines}
use Rattle.refusals.proofs.header_of.Goals as goal

pub kinds_line-kinds-requires : goal.kinds_line-kinds-requires
kinds_line-kinds-requires c =
    let p = line-within c.next_line-names.ensures (names-lines c.release_of-release.ensures.names).0 in
    let q = line-within c.next_line-lows.ensures p.within in
    (line-within c.next_line-highs.ensures q.within).within

pub returns-then-release : goal.returns-then-release
returns-then-release c =
    let found = c.release_of-release.ensures in
    header_lines c.args.text.now found c.next_line-names.ensures c.next_line-lows.ensures c.next_line-highs.ensures c.kinds_line-kinds.ensures
    (sym (ap (λ k. k && ltb c.next_line-lows.result.next (length c.args.text.now)) c.if-release.true))

pub returns-else-release : goal.returns-else-release
returns-else-release c =
    let found = c.release_of-release.ensures in
    header_lines c.args.text.now found c.next_line-names.ensures c.next_line-lows.ensures c.next_line-highs.ensures c.kinds_line-kinds.ensures
    (c.if-release.false ∙ sym (ap (λ k. k && ltb c.next_line-lows.result.next (length c.args.text.now)) c.if-release.false))
