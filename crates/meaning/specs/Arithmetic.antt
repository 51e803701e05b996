-- The operators, what they give, and the intervals of what they give (document 01, "Meaning at time i", "Intervals and the normal form";
-- document 02, S-2, S-5, S-11).
use Rattle.std.specs.Prelude.{ℕ, ◌-◌, min, max, Bool, false, cond, ◌&&◌, ◌||◌, ℤ, pos, negsuc, neg_ℤ, nat_abs, ◌+ℤ◌, ◌-ℤ◌, ◌*ℤ◌, ◌≤ℤ◌}
use Rattle.std.specs.Int.Signed.{le_z, quot_z, rem_z}
use Rattle.meaning.specs.Value.{Value, absent, number, nonzero, bit, Comparison, compares}

-- "Operators: `+ - * / % lt le eq ge gt ne and or fby`", but for `fby`, which looks at another time. The last two are what a sheet of release 2
-- means by `/` and `%` (document 02, S-11).
pub data Operator : Type 0 where
  add subtract multiply divide remainder : Operator
  compare : Comparison → Operator
  and or : Operator
  floored_divide floored_remainder : Operator

-- The numbers from low to high.
pub record Interval : Type 0 where
  pub low : ℤ
  pub high : ℤ

pub record Within (I : Interval) (x : ℤ) : Type 0 where
  pub above : I.low ≤ℤ x
  pub below : x ≤ℤ I.high

-- A value that is there lies in the interval.
abbrev pub AnyWithin : Interval → Value → Type 0
AnyWithin I absent = Unit
AnyWithin I (number z) = Within I z

-- The value is there and lies in the interval.
abbrev pub NumberWithin : Interval → Value → Type 0
NumberWithin I absent = ⊥
NumberWithin I (number z) = Within I z

abbrev pub least : ℤ → ℤ → ℤ
least a b = cond (le_z a b) a b

abbrev pub greatest : ℤ → ℤ → ℤ
greatest a b = cond (le_z a b) b a

-- "the hull of both sides"
abbrev pub hull : Interval → Interval → Interval
hull I J = record { low = least I.low J.low; high = greatest I.high J.high }

-- "for `+ - *` the least and greatest over the ends"
abbrev pub over_ends : (ℤ → ℤ → ℤ) → Interval → Interval → Interval
over_ends f I J =
    record {
      low = least (least (f I.low J.low) (f I.low J.high)) (least (f I.high J.low) (f I.high J.high));
      high = greatest (greatest (f I.low J.low) (f I.low J.high)) (greatest (f I.high J.low) (f I.high J.high));
    }

-- "M the larger magnitude of the dividend's ends"
abbrev pub magnitude : Interval → ℕ
magnitude I = max (nat_abs I.low) (nat_abs I.high)

-- "for `/` [..] from −M to M"
abbrev pub around : ℕ → Interval
around m = record { low = neg_ℤ (pos m); high = pos m }

-- "a remainder lies within ±k, k the smaller of the dividend's M and the divisor's M less 1 (not below 0)" (document 02, S-2)
abbrev pub remainder_bound : Interval → Interval → ℕ
remainder_bound I J = min (magnitude I) (magnitude J - 1)

-- "Its low end is 0 if the dividend's is at least 0; its high end is 0 if the dividend's is at most 0." (document 02, S-2)
abbrev pub remainder_interval : Interval → Interval → Interval
remainder_interval I J =
    record {
      low = cond (le_z (pos 0) I.low) (pos 0) (neg_ℤ (pos (remainder_bound I J)));
      high = cond (le_z I.high (pos 0)) (pos 0) (pos (remainder_bound I J));
    }

-- One number is below 0 and the other above it.
abbrev pub are_opposite : ℤ → ℤ → Bool
are_opposite (pos a) (pos b) = false
are_opposite (pos a) (negsuc b) = nonzero (pos a)
are_opposite (negsuc a) (pos b) = nonzero (pos b)
are_opposite (negsuc a) (negsuc b) = false

-- "quotients rounded down" (document 02, S-11): one less than the quotient cut toward zero where that is above the exact one.
abbrev pub floor_quot_z : ℤ → ℤ → ℤ
floor_quot_z a b = cond (are_opposite (rem_z a b) b) (quot_z a b -ℤ pos 1) (quot_z a b)

-- "the remainder having the divisor's sign" (document 02, S-11)
abbrev pub floor_rem_z : ℤ → ℤ → ℤ
floor_rem_z a b = cond (are_opposite (rem_z a b) b) (rem_z a b +ℤ b) (rem_z a b)

-- "0 to 1 for truth values"
abbrev pub truth_interval : Interval
truth_interval = record { low = pos 0; high = pos 1 }

-- What an operator gives of two numbers. "`+ - *` are exact." "A quotient is cut toward zero and the remainder has the dividend's sign: −7 / 2 is
-- −3, −7 % 2 is −1." In release 2 "−7 / 2 is −4, −7 % 2 is 1" (document 02, S-11). With divisor 0 "such a quotient or remainder has no value"
-- (document 02, S-5). "The word comparisons, `and`, `or`, `not` give 0 or 1; any value but 0 is true."
abbrev pub apply_numbers : Operator → ℤ → ℤ → Value
apply_numbers add a b = number (a +ℤ b)
apply_numbers subtract a b = number (a -ℤ b)
apply_numbers multiply a b = number (a *ℤ b)
apply_numbers divide a b = cond (nonzero b) (number (quot_z a b)) absent
apply_numbers remainder a b = cond (nonzero b) (number (rem_z a b)) absent
apply_numbers (compare c) a b = number (bit (compares c a b))
apply_numbers and a b = number (bit (nonzero a && nonzero b))
apply_numbers or a b = number (bit (nonzero a || nonzero b))
apply_numbers floored_divide a b = cond (nonzero b) (number (floor_quot_z a b)) absent
apply_numbers floored_remainder a b = cond (nonzero b) (number (floor_rem_z a b)) absent

-- "Any operator with a part that has none at the time it is read gives none" (document 02, S-5).
abbrev pub apply : Operator → Value → Value → Value
apply o absent b = absent
apply o (number a) absent = absent
apply o (number a) (number b) = apply_numbers o a b

-- The interval of what an operator gives, from the intervals of both operands. In release 2 "A quotient's interval is as before; a remainder's is ±k
-- with k the divisor's M less 1, not below 0" (document 02, S-11).
abbrev pub operator_interval : Operator → Interval → Interval → Interval
operator_interval add I J = over_ends ◌+ℤ◌ I J
operator_interval subtract I J = over_ends ◌-ℤ◌ I J
operator_interval multiply I J = over_ends ◌*ℤ◌ I J
operator_interval divide I J = around (magnitude I)
operator_interval remainder I J = remainder_interval I J
operator_interval (compare c) I J = truth_interval
operator_interval and I J = truth_interval
operator_interval or I J = truth_interval
operator_interval floored_divide I J = around (magnitude I)
operator_interval floored_remainder I J = around (magnitude J - 1)
