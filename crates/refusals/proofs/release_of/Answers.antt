-- `refusals::release_of` meets its contract: by what is read of the first line's number.
use mathlib.Core.Path.{◌≡◌, sym, ap, ◌∙◌}
use mathlib.Core.Bool.{true, ◌||◌}
use lib.Dec.{eqb}
use borrow.Author.Tests.{eq-eqb, ne_eqb}
use Rattle.arithmetic.proofs.Machine.{bits-same}
use lib.IntN.{pos}
use mir.Syntax.{w64}
use mir.Val.{SFits, of_z}
use native.Mathlib.Omega.{arith}
use Rattle.std.proofs.Common.{rules}
use Rattle.scan.specs.Integer.{no_integer}
use Rattle.scan.proofs.Lines.{line-within}
use Rattle.refusals.proofs.Lines.{release-said, release-unsaid}
use Rattle.refusals.proofs.release_of.Goals as goal

pub slice_bounds-release_number-end : goal.slice_bounds-release_number-end
slice_bounds-release_number-end c = let w = line-within c.next_line-line.ensures (omega arith) in omega (arith, w.ordered, w.within)

pub returns-then-number-eq-FIRST_RELEASE : goal.returns-then-number-eq-FIRST_RELEASE
returns-then-number-eq-FIRST_RELEASE c =
    let some : c.release_number-said.result ≡ no_integer → ⊥ = λ e. search rules in
    let number = c.unwrap_or-number.result in
    let fits : SFits w64 number = record { sfits = omega arith } in
    let first = bits-same number (pos 1) fits (record { sfits = omega arith }) in
    let second = bits-same number (pos 2) fits (record { sfits = omega arith }) in
    let is : eqb (of_z w64 number) 1 ≡ true = eq-eqb _ _ c.if-number-eq-FIRST_RELEASE.true in
    release-said c.next_line-line.ensures c.release_number-said.ensures some c.unwrap_or-number.ensures second (is ∙ sym (ap (λ t. t || eqb (of_z w64 number) 2) (sym first ∙ is)))

pub returns-else-number-eq-FIRST_RELEASE : goal.returns-else-number-eq-FIRST_RELEASE
returns-else-number-eq-FIRST_RELEASE c =
    let some : c.release_number-said.result ≡ no_integer → ⊥ = λ e. search rules in
    let number = c.unwrap_or-number.result in
    let fits : SFits w64 number = record { sfits = omega arith } in
    let first = bits-same number (pos 1) fits (record { sfits = omega arith }) in
    let second = bits-same number (pos 2) fits (record { sfits = omega arith }) in
    release-said c.next_line-line.ensures c.release_number-said.ensures some c.unwrap_or-number.ensures second (sym (ap (λ t. t || eqb (of_z w64 number) 2) (sym first ∙ ne_eqb _ _ c.if-number-eq-FIRST_RELEASE.false)))

pub returns-then-eq : goal.returns-then-eq
returns-then-eq c =
    let none : c.release_number-said.result ≡ no_integer = search rules in
    release-unsaid c.next_line-line.ensures c.release_number-said.ensures none
