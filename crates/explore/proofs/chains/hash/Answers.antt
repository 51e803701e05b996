-- `chains::hash` meets its contract: what is left of the key, mixed into the number so far, gives the whole key's hash.
use Prim.Native.Nat.{ℕ, ◌≤◌, ◌<◌, ◌+◌}
use mathlib.Core.Path.{◌≡◌, ◌∙◌}
use mathlib.Core.List.{List}
use native.Mathlib.Numerals.{add-one}
use lib.ListN.{length, get_or, drop, drop_of_length-le}
use lib.Seq.{drop-cons}
use Rattle.explore.specs.Chains.{mix_of, hash_from}
use Rattle.explore.proofs.chains.hash.Goals as goal

turn : (h i : ℕ) (key : List ℕ) → i < length key → hash_from (mix_of h (get_or key i 0)) (drop (i + 1) key) ≡ hash_from h (drop i key)
unfolding hash_from
turn h i key lt = rw (add-one, drop-cons key i 0 lt)

over : (h i : ℕ) (key : List ℕ) → length key ≤ i → h ≡ hash_from h (drop i key)
unfolding hash_from
over h i key le = rw (drop_of_length-le key le)

pub loop-x-preserved : goal.loop-x-preserved
loop-x-preserved c =
    let loop = c.loop-x in
    rw c.mix-h.ensures (turn loop.h loop.x-index c.args.key.now c.loop-x-test.true) ∙ loop.invariant

pub returns : goal.returns
returns c = over c.loop-x.h c.loop-x.x-index c.args.key.now c.loop-x-test.false ∙ c.loop-x.invariant
