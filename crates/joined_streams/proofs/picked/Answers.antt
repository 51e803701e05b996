-- `picked` meets its contract: before each turn the values before the place are picked.
use Prim.Native.Nat.{ℕ, ◌+◌, ◌<◌}
use mathlib.Core.Path.{◌≡◌, sym, ap, ◌∙◌}
use mathlib.Core.List.{List}
use native.Mathlib.Omega.{arith}
use native.Mathlib.Decide.{ℕ_discrete}
use lib.IntN.{ℤ, pos}
use lib.ListN.{length, get_or, set, length-set}
use lib.Seq.{get_or-set_same, get_or-set_other}
use mir.Syntax.{w64}
use mir.ValLaws.{to_z-of_z}
use borrow.Author.Rules.{rules}
use Rattle.joined_streams.proofs.picked.Goals as goal

-- one value more is picked
one_more : (values : List ℤ) (places : List ℕ) (found : List ℤ) (i : ℕ) (v : ℤ) → i < length found → v ≡ get_or values (get_or places i 0) (pos 0)
    → ((k : ℕ) → k < i → get_or found k (pos 0) ≡ get_or values (get_or places k 0) (pos 0)) → (k : ℕ) → k < i + 1 → get_or (set found i v) k (pos 0) ≡ get_or values (get_or places k 0) (pos 0)
one_more values places found i v room here before k l = by (ℕ_discrete k i)
  where
    by : Dec (k ≡ i) → get_or (set found i v) k (pos 0) ≡ get_or values (get_or places k 0) (pos 0)
    by (yes e) = ap (λ j. get_or (set found i v) j (pos 0)) e ∙ get_or-set_same found i v (pos 0) room ∙ here ∙ ap (λ j. get_or values (get_or places j 0) (pos 0)) (sym e)
    by (no e) = get_or-set_other found i k v (pos 0) e ∙ before k (omega arith)

pub loop-i-init : goal.loop-i-init
loop-i-init c = (search rules, λ k l. absurd (omega arith))

pub loop-i-preserved : goal.loop-i-preserved
loop-i-preserved c =
    let loop = c.loop-i in
    let a = c.args in
    let value = to_z-of_z w64 (get_or a.values (get_or a.places loop.i 0) (pos 0)) (record { sfits = c.found-1.given }) in (
      length-set loop.found loop.i _ ∙ loop.invariant.0,
      one_more a.values a.places loop.found loop.i _ (omega (arith, c.loop-i-test.true, loop.invariant.0)) value loop.invariant.1,
    )

pub returns : goal.returns
returns c = record { long = c.loop-i.invariant.0; each = λ k h. c.loop-i.invariant.1 k (omega (arith, c.loop-i-test.false)) }
