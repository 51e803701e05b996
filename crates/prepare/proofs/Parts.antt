-- How long a part of a list is.
use Prim.Native.Nat.{ℕ, ◌+◌, ◌-◌, ◌≤◌}
use native.Mathlib.Omega.{arith}
use mathlib.Core.Path.{◌≡◌}
use mathlib.Core.List.{List}
use lib.ListN.{length, take, drop, length-drop}
use lib.Seq.{length-take-le}

pub part-size : (x w : ℕ) → x + w - x ≡ w
part-size x w = omega arith

pub part-long : {X : Type 0} (l : List X) (x w : ℕ) → x + w ≤ length l → length (take (x + w - x) (drop x l)) ≡ w
part-long l x w h = rw part-size (length-take-le w (drop x l) (simp length-drop (omega arith)))
