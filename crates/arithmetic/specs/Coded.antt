-- A value or no value as one number, which comes back from a call in a register, where the two fields of `Evaluated` come back through memory.
use Rattle.std.specs.Prelude.{cond, ℤ, pos}
use Rattle.nodes.specs.declared.Evaluated.{Evaluated}

-- The value itself; for no value a number beyond the magnitude bound, which is no value's.
abbrev pub coded : Evaluated → ℤ
coded e = cond e.ok e.value (pos 2000000000)
