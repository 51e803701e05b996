-- `judge::judge` meets its contract. The loop's invariant: the constraints passed are judged and the marks of their untils are told, so the
-- answer is what is told, joined with the answer for the rest.
use Rattle.nodes.specs.Bounded.{value_in}
use Rattle.nodes.specs.Evaluate.{stored, view, node_value}
use Rattle.extend.proofs.JudgeLaws.{Told}
use Rattle.extend.proofs.judge.judge.Given as goal

abbrev pub invariant-loop-j : goal.invariant-loop-j
invariant-loop-j l = Told l.relations l.lefts l.rights (λ node. value_in (node_value (stored l.kinds l.values l.starts) (view l.window l.streams l.firsts l.whole) node l.place)) l.marks l.marking l.j
