-- The span of four numbers, which the functions of this crate answer among themselves.
use Rattle.std.specs.Prelude.{Option, cond, ◌&&◌, ℤ}
use Rattle.meaning.specs.Arithmetic.{Interval, least, greatest}
use Rattle.nodes.specs.Bounds.{no_range, range_within}
use Rattle.nodes.specs.declared.Evaluated.{Evaluated}
use Rattle.nodes.specs.declared.Range.{Range}

-- From the least to the greatest of four numbers.
abbrev pub span_of_four : ℤ → ℤ → ℤ → ℤ → Interval
span_of_four p q r s = record { low = least (least p q) (least r s); high = greatest (greatest p q) (greatest r s) }

-- The same of four values, where all are there.
abbrev pub span_values : Evaluated → Evaluated → Evaluated → Evaluated → Option Range
span_values p q r s = cond (p.ok && (q.ok && (r.ok && s.ok))) (range_within (span_of_four p.value q.value r.value s.value)) no_range
