-- `parse::put_prefixes` meets its contract: before each turn the part is read that begins with the token of the loop's number, and the prefixes
-- before it are still to be stored.
use Prim.Native.Nat.{◌+◌, ◌≤◌}
use Rattle.nodes.specs.Evaluate.{stored}
use Rattle.parse.specs.Numbered.{tokens_from}
use Rattle.parse.specs.Prefixes.{read_up_to, Passes, ReadLeads}
use Rattle.parse.proofs.put_prefixes.Given as goal

abbrev pub invariant-loop-number : goal.invariant-loop-number
invariant-loop-number l = Passes (tokens_from l.text l.origin l.token_starts) l.at l.firsts l.number l.inside
    × ReadLeads (tokens_from l.text l.origin l.token_starts) l.nodes l.fn.passed.at l.fn.passed.firsts (stored l.initial.kinds l.initial.values l.initial.starts) l.inner l.number l.inside (stored l.kinds l.values l.starts) (read_up_to l.inner l.last)
    × (l.nodes ≤ l.last)
    × (l.last + l.number ≤ 1024 + l.at)
