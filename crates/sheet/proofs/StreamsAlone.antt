-- "Streams that [..] accepted sheet could have" (document 02, S-8): a sheet of such streams and no constraint is refused by none of 4 to 7, so that what is
-- settled of the streams of an accepted sheet is all that is asked of them. From the tests of these refusals.
use Prim.Native.Nat.{ℕ, ◌+◌, ◌≤◌, ◌<◌}
use native.Mathlib.Omega.{arith}
use mathlib.Core.Path.{◌≡◌, subst}
use mathlib.Core.Bool.{false}
use mathlib.Core.List.{List, [], Memᴰ}
use mathlib.Core.Logic.{inl, inr}
use lib.Dec.{T}
use lib.IntN.{pos, nat_abs, neg_ℤ}
use lib.Signed.{<ℤ_irrefl, <ℤ-≤ℤ_trans}
use Rattle.basics.proofs.Reflects.{to_false}
use Rattle.basics.proofs.Lists.{member-Some}
use Rattle.text.specs.Token.{is_reserved}
use Rattle.meaning.specs.Expression.{Stream, Sheet}
use Rattle.meaning.specs.Letter.{letter_count}
use Rattle.meaning.specs.Window.{D, B}
use Rattle.meaning.proofs.Order.{≤ℤ_trans}
use Rattle.meaning.proofs.Arithmetic.{magnitude-bounds}
use Rattle.sheet.specs.Form.{names_of}
use Rattle.sheet.specs.Refusal.{magnitude_bound, letter_bound, sheet}
use Rattle.sheet.specs.Reading.{refuses4, refuses5, refuses6, refuses7, answer_to_sheet}
use Rattle.sheet.specs.Accepted.{AcceptedStreams}
use Rattle.sheet.proofs.Refusal.{Fault4, RangeFault, Fault5, Fault7, fault4_reflects, fault5_reflects, fault6_reflects, fault7_reflects}

module _ {ss : List Stream} (a : AcceptedStreams ss) (few : letter_count ss ≤ letter_bound) where
  abbrev pub alone : Sheet
  alone = record { streams = ss; constraints = [] }

  no_fault_4 : Fault4 alone → ⊥
  no_fault_4 (inl (inl n)) = n a.no_repeats
  no_fault_4 (inl (inr h)) = let o = member-Some (λ t. T (is_reserved t)) (names_of ss) h in subst T (a.no_reserved o.0 o.1) o.2
  no_fault_4 (inr h) = h

  -- The ends of a range lie within the bound, the low one at most at the high one.
  no_range-fault : (x : Stream) → Memᴰ x ss → RangeFault x → ⊥
  no_range-fault x m (inl (inl l)) =
      let i = a.ranges_in_bounds x m in
      let n = magnitude-bounds (record { low = neg_ℤ (pos magnitude_bound); high = pos magnitude_bound }) x.range.low (record { above = i.above; below = ≤ℤ_trans (a.ranges_ordered x m) i.below }) in
      omega arith
  no_range-fault x m (inl (inr l)) =
      let i = a.ranges_in_bounds x m in
      let n = magnitude-bounds (record { low = neg_ℤ (pos magnitude_bound); high = pos magnitude_bound }) x.range.high (record { above = ≤ℤ_trans i.above (a.ranges_ordered x m); below = i.below }) in
      omega arith
  no_range-fault x m (inr l) = <ℤ_irrefl (<ℤ-≤ℤ_trans l (a.ranges_ordered x m))

  no_fault_5 : Fault5 alone → ⊥
  no_fault_5 (inl h) = let o = member-Some RangeFault ss h in no_range-fault o.0 o.1 o.2
  no_fault_5 (inr h) = h

  no_fault_7 : Fault7 alone → ⊥
  unfolding D B
  no_fault_7 (inl (inl (inl l))) = omega arith
  no_fault_7 (inl (inl (inr l))) = omega arith
  no_fault_7 (inl (inr l)) = omega arith
  no_fault_7 (inr l) = omega arith

  pub alone-accepted : answer_to_sheet alone ≡ sheet alone
  unfolding answer_to_sheet
  alone-accepted =
      let four : refuses4 alone ≡ false = to_false (fault4_reflects alone) no_fault_4 in
      let five : refuses5 alone ≡ false = to_false (fault5_reflects alone) no_fault_5 in
      let six : refuses6 alone ≡ false = to_false (fault6_reflects alone) (λ h. h) in
      let seven : refuses7 alone ≡ false = to_false (fault7_reflects alone) no_fault_7 in
      rw (four, five, six, seven)
