-- `find` meets its contract. The loop goes along one chain: every row that holds the key is below the row that the loop has come to.
use Prim.Native.Nat.{◌-◌}
use native.Mathlib.Omega.{arith}
use Rattle.key_chains.proofs.Chains.{chain_first, chain_next}
use Rattle.pairs.proofs.find.Goals as goal

pub overflow_cast-j : goal.overflow_cast-j
overflow_cast-j c = omega (arith, c.type_inv.heads c.args.h)

pub loop-j-init : goal.loop-j-init
loop-j-init c = let s = c in rw s.requires.1 (chain_first _ _ _ _ _ s.requires.0.chained _)

pub overflow_cast-j-in-loop-j : goal.overflow_cast-j-in-loop-j
overflow_cast-j-in-loop-j c = omega (arith, c.type_inv.links (c.loop-j.j - 1))

pub loop-j-smaller : goal.loop-j-smaller
loop-j-smaller c = omega (arith, c.requires.0.chained.link_le (c.loop-j.j - 1) (omega (arith, c.loop-j-test.true, c.loop-j.invariant.at_most)), c.loop-j-test.true)

pub loop-j-preserved : goal.loop-j-preserved
loop-j-preserved c = chain_next _ _ _ _ _ c.requires.0.chained _ c.loop-j.invariant (omega (arith, c.loop-j-test.true)) c.if-keys-i.false

pub returns : goal.returns
returns c = λ i h q. omega (arith, c.loop-j.invariant.all i h q, c.loop-j-test.false)
