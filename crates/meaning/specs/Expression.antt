-- Expressions, constraints and sheets, and what they mean (document 01, "The sheet", "Meaning at time i"; document 02, S-5; 004, table 1).
use Rattle.std.specs.Prelude.{ℕ, zero, suc, ◌<◌, Bool, false, not, cond, ◌||◌, T, ℤ, pos, length, get_or}
use mathlib.Core.List.{List, Memᴰ}
use Rattle.meaning.specs.Value.{Value, absent, number, nonzero, truth, bit, Comparison, compares, Streams, ValueStreams, numbers}
use Rattle.meaning.specs.Arithmetic.{Operator, Interval, Within, apply}

-- "An expression is a part, or two parts with an operator between them, or `if` part `then` part `else` part. A part is an integer,
-- a name, an expression in brackets, or `first`, `next` or `not` before a part." Brackets leave no trace; a name is its stream's number.
pub data Expression : Type 0 where
  integer : ℤ → Expression
  name : ℕ → Expression
  first : Expression → Expression
  next : Expression → Expression
  negation : Expression → Expression
  binary : Operator → Expression → Expression → Expression
  conditional : Expression → Expression → Expression → Expression
  fby : Expression → Expression → Expression

-- The signs that must hold at every time: "`< <= == >= > !=`" and "`->`".
pub data Sign : Type 0 where
  comparison : Comparison → Sign
  implies : Sign

-- "A constraint is two expressions with one of `< <= == >= > != -> until` between them."
pub data Constraint : Type 0 where
  always : Sign → Expression → Expression → Constraint
  until : Expression → Expression → Constraint

abbrev pub left_side : Constraint → Expression
left_side (always s a b) = a
left_side (until a b) = a

abbrev pub right_side : Constraint → Expression
right_side (always s a b) = b
right_side (until a b) = b

-- What a sign asks of two numbers. "`a -> b`: at every time, a not 0 implies b not 0."
abbrev pub holds_numbers : Sign → ℤ → ℤ → Bool
holds_numbers (comparison c) a b = compares c a b
holds_numbers implies a b = not (nonzero a) || nonzero b

-- "A comparison or implication with none on either side fails at that time" (document 02, S-5).
abbrev pub holds : Sign → Value → Value → Bool
holds s absent b = false
holds s (number a) absent = false
holds s (number a) (number b) = holds_numbers s a b

-- "The word comparisons, `and`, `or`, `not` give 0 or 1; any value but 0 is true." "Any operator with a part that has none at the time it is read
-- gives none" (document 02, S-5).
abbrev pub negated : Value → Value
negated absent = absent
negated (number z) = number (bit (not (nonzero z)))

-- "`if` takes its first branch where the condition is not 0." "`if` needs only its condition and chosen branch" (document 02, S-5).
abbrev pub chosen : Value → Value → Value → Value
chosen absent a b = absent
chosen (number z) a b = cond (nonzero z) a b

-- "which streams are gauges and which are gates" (document 02, S-6): a gauge is `read`, a gate is `set`.
pub data StreamKind : Type 0 where
  read_kind set_kind : StreamKind

-- One description of a stream: "Line 1: stream names. Line 2: the lowest value of each, in that order. Line 3: the highest." "The kinds travel with
-- every description of a stream (an added one is `set`)" (document 02, S-6). A stream that the normal form adds has the empty name.
pub record Stream : Type 0 where
  pub name : List ℕ
  pub kind : StreamKind
  pub range : Interval

pub record Sheet : Type 0 where
  pub streams : List Stream
  pub constraints : List Constraint

-- Stream k's range. The default beyond the sheet's streams is never asked for by an accepted sheet.
abbrev pub absent_stream : Stream
absent_stream = record { name = List.[]; kind = set_kind; range = record { low = pos 0; high = pos 0 } }

abbrev pub range_of : List Stream → ℕ → Interval
range_of streams k = (get_or streams k absent_stream).range

-- "`a until b`: at some i, b is not 0, and a is not 0 at every earlier time."
pub record Until (a b : ℕ → Value) : Type 0 where
  pub time : ℕ
  pub right : T (truth (b time))
  pub left : (j : ℕ) → j < time → T (truth (a j))

-- "An integer is itself at all times. `first e` is e at 0. `next e` is e at i+1. `a fby b` is a at 0, and b at i−1 later."
-- "The `first` of none is none" (document 02, S-5).
unfoldable pub value_from : ValueStreams → Expression → ℕ → Value
value_from v (integer z) i = number z
value_from v (name k) i = v k i
value_from v (first e) i = value_from v e zero
value_from v (next e) i = value_from v e (suc i)
value_from v (negation e) i = negated (value_from v e i)
value_from v (binary o a b) i = apply o (value_from v a i) (value_from v b i)
value_from v (conditional c a b) i = chosen (value_from v c i) (value_from v a i) (value_from v b i)
value_from v (fby a b) zero = value_from v a zero
value_from v (fby a b) (suc i) = value_from v b i

-- The value over a sheet's own streams, which have a number at every time.
unfoldable pub value : Streams → Expression → ℕ → Value
value w e i = value_from (numbers w) e i

-- "The six comparison signs must hold at every time."
unfoldable pub MeetsFrom : ValueStreams → Constraint → Type 0
MeetsFrom v (always s a b) = (i : ℕ) → T (holds s (value_from v a i) (value_from v b i))
MeetsFrom v (until a b) = Until (value_from v a) (value_from v b)

unfoldable pub Meets : Streams → Constraint → Type 0
Meets w c = MeetsFrom (numbers w) c

-- "A solution gives each stream an endless course in its range that meets every constraint." Streams beyond the sheet's play no part.
pub record Solution (s : Sheet) (w : Streams) : Type 0 where
  pub ranged : (k i : ℕ) → k < length s.streams → Within (range_of s.streams k) (w k i)
  pub meets : (c : Constraint) → Memᴰ c s.constraints → Meets w c
