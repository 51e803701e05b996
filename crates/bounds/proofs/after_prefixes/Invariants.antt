-- `bounds::after_prefixes` meets its contract: before each turn the summary is that of the part which ends at the loop's place.
use Prim.Native.Nat.{◌+◌}
use Rattle.bounds.specs.Prefix.{SummaryLeads}
use Rattle.bounds.proofs.after_prefixes.Given as goal

abbrev pub invariant-loop-kind : goal.invariant-loop-kind
invariant-loop-kind l = SummaryLeads l.kinds l.from l.initial.summary (l.from + l.kind-index) l.summary
