-- One sheet and its normal form, entry by entry: how added streams are numbered, what they range over, and in which order the entries stand.
use Prim.Native.Nat.{ℕ}
use mathlib.Core.Path.{◌≡◌, refl}
use mathlib.Core.List.{[], ◌∷◌}
use lib.IntN.{pos}
use Rattle.meaning.specs.Value.{equal}
use Rattle.meaning.specs.Arithmetic.{add}
use Rattle.meaning.specs.Expression.{Expression, integer, name, first, next, binary, fby, comparison, always, until, read_kind, set_kind, Stream, Sheet}
use Rattle.meaning.specs.Interval.{interval}
use Rattle.meaning.specs.NormalForm.{added, rewritten, equation, added_entries, added_by, rewritten_constraint, entries_by, all_added, all_rewritten, all_entries, normal_form}

-- An added stream, which is set.
abbrev stream : ℕ → ℕ → Stream
stream low high = record { name = []; kind = set_kind; range = record { low = pos low; high = pos high } }

abbrev x+1 : Expression
x+1 = binary add (name 0) (integer (pos 1))

-- The stream x, 0 to 1, which is read; its name is the byte 120.
abbrev x : Stream
x = record { name = 120 ∷ []; kind = read_kind; range = record { low = pos 0; high = pos 1 } }

-- The stream x and the constraints `( next x ) fby ( next ( x + 1 ) ) == x` and `x until next x`.
abbrev sheet : Sheet
sheet = record { streams = x ∷ []; constraints = always (comparison equal) (fby (next (name 0)) (next x+1)) (name 0) ∷ until (name 0) (next (name 0)) ∷ [] }

example : normal_form sheet
    ≡ record {
      streams =
          x
          -- the first `next`
          ∷ stream 0 1 ∷ stream 0 1
          -- `fby`
          ∷ stream 0 2 ∷ stream 0 1 ∷ stream 1 2
          -- the second `next`
          ∷ stream 1 2 ∷ stream 1 2
          -- `until`
          ∷ stream 0 1 ∷ stream 0 1
          -- the third `next`
          ∷ stream 0 1 ∷ stream 0 1 ∷ [];
      constraints =
          -- the rewritten constraints
          always (comparison equal) (name 3) (name 0)
          ∷ until (name 8) (name 9)
          -- the first `next`
          ∷ equation 2 (name 0)
          ∷ equation 1 (next (name 2))
          -- `fby`
          ∷ equation 4 (name 1)
          ∷ equation 5 (name 6)
          ∷ always (comparison equal) (first (name 3)) (first (name 4))
          ∷ equation 5 (next (name 3))
          -- the second `next`
          ∷ equation 7 x+1
          ∷ equation 6 (next (name 7))
          -- `until`
          ∷ equation 8 (name 0)
          ∷ equation 9 (name 10)
          -- the third `next`
          ∷ equation 11 (name 0)
          ∷ equation 10 (next (name 11)) ∷ [];
    }
unfolding interval added rewritten added_entries added_by rewritten_constraint entries_by all_added all_rewritten all_entries normal_form
example = refl
