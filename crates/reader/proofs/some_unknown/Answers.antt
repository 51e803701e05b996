-- `reader::some_unknown` meets its contract: the nodes before the loop's place are no unknown names, so that the rest decides.
use mathlib.Core.Path.{refl, sym, ◌∙◌}
use native.Mathlib.Omega.{arith}
use lib.IntN.{pos}
use lib.ListN.{get_or}
use Rattle.reader.proofs.Unknown.{streams-natural, unknown_answer, unknown_from, unknown_end}
use Rattle.reader.proofs.some_unknown.Goals as goal

pub loop-i-init : goal.loop-i-init
loop-i-init c = (omega arith, refl)

pub is_unknown-requires : goal.is_unknown-requires
is_unknown-requires c = streams-natural c.args.streams c.requires.1

pub returns-then-is_unknown : goal.returns-then-is_unknown
returns-then-is_unknown c =
    let loop = c in
    let start = loop in
    let found = unknown_answer (get_or start.args.kinds.now loop.loop-i.i 0) (get_or start.args.values.now loop.loop-i.i (pos 0)) start.args.streams start.requires.1 (record { sfits = omega arith }) c.is_unknown.ensures c.if-is_unknown.true in
    sym (loop.loop-i.invariant.1 ∙ unknown_from start.args.kinds.now start.args.values.now start.args.streams loop.loop-i.i start.requires.0 c.loop-i-test.true found)

pub loop-i-preserved : goal.loop-i-preserved
loop-i-preserved c =
    let loop = c in
    let start = loop in
    let found = unknown_answer (get_or start.args.kinds.now loop.loop-i.i 0) (get_or start.args.values.now loop.loop-i.i (pos 0)) start.args.streams start.requires.1 (record { sfits = omega arith }) c.is_unknown.ensures c.if-is_unknown.false in
    (omega arith, loop.loop-i.invariant.1 ∙ unknown_from start.args.kinds.now start.args.values.now start.args.streams loop.loop-i.i start.requires.0 c.loop-i-test.true found)

pub returns : goal.returns
returns c =
    let start = c in
    sym (c.loop-i.invariant.1 ∙ unknown_end start.args.kinds.now start.args.values.now start.args.streams c.loop-i.i c.loop-i-test.false)
